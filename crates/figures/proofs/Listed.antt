-- Nodes among others, and rows that stand for one of them.
use Rattle.std.proofs.Common.{◌≡◌, ℕ, ◌-◌, List, [], ◌∷◌, length, take, drop, Option, Some, None, refl, subst, arith}
use Rattle.std.specs.List.{Contains}
use Rattle.std.specs.Option.{IfSome, MatchOption}
use Rattle.std.proofs.lemmas.List.{take-append-drop, take_rest}
use Rattle.std.proofs.lemmas.List.Elements.{Contains-append_right}

pub first_there : {X : Type 0} (xs : List X) (x : X) (rest : List X) → xs ≡ x ∷ rest → Contains xs x
first_there xs x rest e = rw e (0, omega arith, refl)

pub rest_there : {X : Type 0} (xs : List X) (x : X) (rest : List X) → xs ≡ x ∷ rest → (y : X) → Contains rest y → Contains xs y
rest_there xs x rest e y h = rw e (Contains-append_right (x ∷ []) rest y h)

-- those from a place on, as the code cuts them out
pub from_there : {X : Type 0} (xs : List X) (i : ℕ) (y : X) → Contains (take (length xs - i) (drop i xs)) y → Contains xs y
from_there xs i y h =
    subst (λ l. Contains l y) (take-append-drop i xs) (Contains-append_right (take i xs) (drop i xs) y (rw take_rest at h))

-- what `or_else` answers
pub either_answer : {X : Type 0} (r s : Option X) (P : X → Type 0) {Q : Type 0} → MatchOption r Q (λ x. s ≡ Some x) → IfSome r P → (Q → IfSome s P) → IfSome s P
either_answer None s P told first other = other told
either_answer (Some x) s P told first other = rw told first
