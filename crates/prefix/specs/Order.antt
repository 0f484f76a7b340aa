-- Lists compared element by element: a list that is a proper front part of another comes before it. Bytes in a step
-- and steps in a name are both compared so.
use Rattle.std.specs.Prelude.{◌≡◌, Bool, true, false, ◌&&◌, ◌||◌, ◌⊎◌, List, [], ◌∷◌, Decides}

abbrev pub same_by : {A : Type 0} → (A → A → Bool) → List A → List A → Bool
same_by same [] [] = true
same_by same [] (b ∷ q) = false
same_by same (a ∷ p) [] = false
same_by same (a ∷ p) (b ∷ q) = same a b && same_by same p q

-- the first list is a front part of the second, or all of it
abbrev pub front_by : {A : Type 0} → (A → A → Bool) → List A → List A → Bool
front_by same [] q = true
front_by same (a ∷ p) [] = false
front_by same (a ∷ p) (b ∷ q) = same a b && front_by same p q

abbrev pub before_by : {A : Type 0} → (A → A → Bool) → (A → A → Bool) → List A → List A → Bool
before_by same before [] [] = false
before_by same before [] (b ∷ q) = true
before_by same before (a ∷ p) [] = false
before_by same before (a ∷ p) (b ∷ q) = before a b || (same a b && before_by same before p q)

-- of two elements exactly one comes before the other, unless they are one
pub record StrictTotalOrder {A : Type 0} (same before : A → A → Bool) : Type 0 where
  pub same_is_equal : (x y : A) → Decides (same x y) (x ≡ y)
  pub irreflexive : (x : A) → before x x ≡ false
  pub transitive : (x y z : A) → before x y ≡ true → before y z ≡ true → before x z ≡ true
  pub total : (x y : A) → (x ≡ y) ⊎ ((before x y ≡ true) ⊎ (before y x ≡ true))
