-- Where a byte first stands, the list is split.
use Rattle.std.proofs.Common.{◌≡◌, ℕ, suc, ◌+◌, Bool, true, false, cond, not, List, [], ◌∷◌, length, take, drop, ◌==◌, nat_lt, position, Some, None, Option, refl, arith}
use Rattle.std.specs.List.{position_or_len}
use Rattle.std.specs.Option.{option_map}
use Rattle.std.proofs.lemmas.Grind.{common_steps}
use Rattle.fields.specs.Split.{split}

-- the parts around an index
abbrev parts : List ℕ → Option ℕ → Option (List ℕ × List ℕ)
parts bs o = option_map (λ at. (take at bs, drop (at + 1) bs)) o

-- one more byte before the list: it is the one (t), or it is not
one_more : (t : Bool) (b : ℕ) (bs : List ℕ) (k : ℕ) (s : Option (List ℕ × List ℕ)) → s ≡ parts bs (cond (nat_lt k (length bs)) (Some k) None) → cond t (Some ([], bs)) (option_map (λ p. (b ∷ p.0, p.1)) s) ≡ parts (b ∷ bs) (cond (nat_lt (cond (not t) (1 + k) 0) (suc (length bs))) (Some (cond (not t) (1 + k) 0)) None)
one_more true b bs k s e = grind (arith, common_steps)
one_more false b bs k s e = grind (arith, common_steps)

module _ (byte : ℕ) where
  pub split_is : (bs : List ℕ) → split byte bs ≡ parts bs (position (λ b. b == byte) bs)
  split_is [] = refl
  split_is (b ∷ bs) = one_more (b == byte) b bs (position_or_len (λ b. b == byte) bs) (split byte bs) (split_is bs)
