-- Where the last '/' of a part is.
use Rattle.std.proofs.Common.{◌≡◌, ℕ, zero, suc, ◌+◌, ◌<◌, true, false, eqb, List, [], ◌∷◌, length, get_or, Some, None, Option, refl, ap, arith}
use Rattle.std.specs.List.{AllWithin, HoldsAt}
use Rattle.std.specs.Option.{MatchOption, unwrap_or}
use Rattle.std.proofs.lemmas.Bool.{false≢true, or_from, or_left, or_right, or_parts}
use Rattle.paths.specs.Path.{slash, has_slash, last_slash}

abbrev pub NoSlash : List ℕ → ℕ → Type 0
NoSlash bs low = AllWithin (λ b. eqb b slash ≡ false) bs low (length bs)

none_within : (bs : List ℕ) → ((k : ℕ) → k < length bs → eqb (get_or bs k 0) slash ≡ false) → has_slash bs ≡ false
none_within [] f = refl
none_within (b ∷ bs) f =
    or_from (eqb b slash) (has_slash bs) (f 0 (omega arith)) (none_within bs (λ k h. f (suc k) (omega arith)))

some_within : (bs : List ℕ) (i : ℕ) → eqb (get_or bs i 0) slash ≡ true → has_slash bs ≡ true
some_within [] i e = absurd (false≢true e)
some_within (b ∷ bs) zero e = or_left (eqb b slash) (has_slash bs) e
some_within (b ∷ bs) (suc i) e = or_right (eqb b slash) (has_slash bs) (some_within bs i e)

last_none : (bs : List ℕ) → has_slash bs ≡ false → 0 ≡ last_slash bs
last_none [] e = refl
last_none (b ∷ bs) e = rw (or_parts (eqb b slash) (has_slash bs) e).1

last_at : (bs : List ℕ) (i : ℕ) → eqb (get_or bs i 0) slash ≡ true → ((k : ℕ) → i < k → k < length bs → eqb (get_or bs k 0) slash ≡ false) → i ≡ last_slash bs
last_at [] i e f = absurd (false≢true e)
last_at (b ∷ bs) zero e f = rw (none_within bs (λ k h. f (suc k) (omega arith) (omega arith)))
last_at (b ∷ bs) (suc i) e f =
    rw (some_within bs i e) (ap suc (last_at bs i e (λ k h g. f (suc k) (omega arith) (omega arith))))

pub last_is : (bs : List ℕ) (r : Option ℕ) → MatchOption r (NoSlash bs 0) (λ i. HoldsAt (λ b. eqb b slash ≡ true) bs i × NoSlash bs (i + 1)) → unwrap_or r 0 ≡ last_slash bs
last_is bs None f = last_none bs (none_within bs (λ k h. f k 0 (omega arith) h))
last_is bs (Some i) f = last_at bs i (f.0 0) (λ k h g. f.1 k 0 (omega arith) g)
