-- The order by rank is decided at the first byte of another rank, or else by the lengths.
use Rattle.std.proofs.Common.{◌≡◌, ℕ, suc, Bool, true, false, not, ◌&&◌, ◌||◌, eqb, ltb, List, [], ◌∷◌, length, Option, Some, None, MatchOption, refl, arith}
use Rattle.std.specs.List.{find, zip}
use Rattle.std.proofs.lemmas.Bool.{lt-ltb, le-ltb, cond_both}
use Rattle.std.proofs.lemmas.Bool.Decides.{nat_tests}
use Rattle.paths.specs.Path.{rank_of, ranked_before}

abbrev pub differs : ℕ × ℕ → Bool
differs x = not (eqb (rank_of x.0) (rank_of x.1))

other_rank : (x y : ℕ) (r : Bool) → not (eqb x y) ≡ true → ltb x y ≡ (ltb x y || (eqb x y && r))
other_rank x y r e = grind (arith, nat_tests)

one_rank : (x y m n : ℕ) (r : Bool) → not (eqb x y) ≡ false → ltb m n ≡ r → ltb (suc m) (suc n) ≡ (ltb x y || (eqb x y && r))
one_rank x y m n r e h = grind (arith, nat_tests)

abbrev pub Decided : List ℕ → List ℕ → Option (ℕ × ℕ) → Type 0
Decided p q o =
    MatchOption o (ltb (length p) (length q) ≡ ranked_before p q) (λ x. ltb (rank_of x.0) (rank_of x.1) ≡ ranked_before p q)

pub first_decides : (p q : List ℕ) → Decided p q (find differs (zip p q))
first_decides [] [] = refl
first_decides [] (b ∷ q) = lt-ltb 0 (length (b ∷ q)) (omega arith)
first_decides (a ∷ p) [] = le-ltb (length (a ∷ p)) 0 (omega arith)
first_decides (a ∷ p) (b ∷ q) =
    cond_both (differs (a, b)) (Some (a, b)) (find differs (zip p q)) (Decided (a ∷ p) (b ∷ q))
    (λ e. other_rank (rank_of a) (rank_of b) (ranked_before p q) e)
    (λ e. more (find differs (zip p q)) e (first_decides p q))
  where
    more : (o : Option (ℕ × ℕ)) → differs (a, b) ≡ false → Decided p q o → Decided (a ∷ p) (b ∷ q) o
    more None e h = one_rank (rank_of a) (rank_of b) (length p) (length q) (ranked_before p q) e h
    more (Some x) e h = grind (arith, nat_tests)
