-- The laws of names.
use Rattle.std.proofs.Common.{◌≡◌, ℕ, suc, ◌+◌, ◌-◌, ◌<◌, ◌≤◌, true, false, not, eqb, ltb, ◌⊎◌, [], ◌∷◌, length, take, sym, refl, ap, ◌∙◌, inl, inr, ⊎_elim, arith}
use Rattle.std.proofs.lemmas.Bool.{and_parts, and_from, not-true, not_from_false, cases_Bool, cases_lt, both_ways}
use Rattle.std.proofs.lemmas.List.{take_all, take-take, length-take-le}
use Rattle.std.proofs.lemmas.Bool.Decides.{same_from_decides}
use Rattle.prefix.specs.Order.{StrictTotalOrder}
use Rattle.prefix.specs.Name.{Name, same_step, same_name, step_before, name_before, covers, above, parent_name}
use Rattle.prefix.specs.Meaning.{Meaning}
use Rattle.prefix.specs.Laws.{OrderLaws, AncestryLaws}
use Rattle.prefix.proofs.Orders.{byte_order, list_order, front_first, front_between, front_refl, front_trans, fronts_compare, front_of_take, take_front, front_no_longer}

pub step_order : StrictTotalOrder same_step step_before
step_order = list_order eqb ltb byte_order

pub name_order : StrictTotalOrder same_name name_before
name_order = list_order same_step step_before step_order

pub name_same : (p q : Name) → same_name p q ≡ true → p ≡ q
name_same p q e = (name_order.same_is_equal p q).0 e

pub name_refl : (p : Name) → same_name p p ≡ true
name_refl p = (name_order.same_is_equal p p).1 refl

pub not_before_itself : (p q : Name) → p ≡ q → name_before p q ≡ true → ⊥
not_before_itself p q e f = both_ways (name_before p q) (ap (name_before p) (sym e) ∙ name_order.irreflexive p) f

above_parts : (p q : Name) → above p q ≡ true → (covers p q ≡ true) × (p ≡ q → ⊥)
above_parts p q e =
    let h = and_parts (covers p q) (not (same_name p q)) e in
    (h.0, λ s. both_ways (same_name p q) (not-true (same_name p q) h.1) (ap (same_name p) (sym s) ∙ name_refl p))

above_from : (p q : Name) → covers p q ≡ true → (p ≡ q → ⊥) → above p q ≡ true
above_from p q e f =
    and_from (covers p q) (not (same_name p q)) e
    (⊎_elim (λ s. absurd (f (name_same p q s))) (λ s. not_from_false (same_name p q) s) (cases_Bool (same_name p q)))

-- the order

ancestor_first : (p q : Name) → above p q ≡ true → name_before p q ≡ true
ancestor_first p q e =
    let h = above_parts p q e in
    ⊎_elim (λ s. absurd (h.1 s)) (λ b. b) (front_first same_step step_before step_order p q h.0)

beneath_together : (p q r : Name) → above p r ≡ true → name_before p q ≡ true → name_before q r ≡ true → above p q ≡ true
beneath_together p q r e f g =
    above_from p q (front_between same_step step_before step_order p q r (above_parts p r e).0 f g) (λ s. not_before_itself p q s f)

pub order_laws : OrderLaws
order_laws = record { order = name_order; ancestor_first = ancestor_first; beneath_together = beneath_together }

-- ancestors

covers_trans : (p q r : Name) → covers p q ≡ true → covers q r ≡ true → covers p r ≡ true
covers_trans = front_trans same_step step_before step_order

front_covers : (n : ℕ) (p : Name) → covers (take n p) p ≡ true
front_covers = front_of_take same_step step_before step_order

ancestor_is_front : (p q : Name) → covers p q ≡ true → take (length p) q ≡ p
ancestor_is_front = take_front same_step step_before step_order

no_deeper : (p q : Name) → covers p q ≡ true → length p ≤ length q
no_deeper = front_no_longer same_step step_before step_order

-- a name is its only front part of its length
whole_front : (p q : Name) → covers p q ≡ true → length q ≤ length p → p ≡ q
whole_front p q e h = sym (ancestor_is_front p q e) ∙ take_all (length p) q h

antisymmetric : (p q : Name) → covers p q ≡ true → covers q p ≡ true → p ≡ q
antisymmetric p q e f = whole_front p q e (no_deeper q p f)

comparable : (p q r : Name) → covers p r ≡ true → covers q r ≡ true → (covers p q ≡ true) ⊎ (above q p ≡ true)
comparable p q r e f =
    ⊎_elim
    (λ h. inl h)
    (λ h.
    ⊎_elim
    (λ s. inl (ap (covers p) (sym (name_same p q s)) ∙ front_refl same_step step_before step_order p))
    (λ s. inr (above_from q p h (λ t. both_ways (same_name p q) s (ap (same_name p) t ∙ name_refl p))))
    (cases_Bool (same_name p q)))
    (fronts_compare same_step step_before step_order p q r e f)

shallower : (p q : Name) → above p q ≡ true → length p < length q
shallower p q e =
    let h = above_parts p q e in
    ⊎_elim
    (λ l. l)
    (λ l. absurd (h.1 (whole_front p q h.0 l)))
    (cases_lt (length p) (length q))

-- parents

pub parent_is_front : (p : Name) → parent_name p ≡ take (length p - 1) p
parent_is_front [] = refl
parent_is_front (s ∷ []) = refl
parent_is_front (s ∷ (t ∷ q)) =
    let n : length (s ∷ (t ∷ q)) - 1 ≡ suc (length (t ∷ q) - 1) = omega arith in
    ap (λ (x : Name). s ∷ x) (parent_is_front (t ∷ q)) ∙ ap (λ k. take k (s ∷ (t ∷ q))) (sym n)

pub parent_level : (p : Name) → length (parent_name p) ≡ length p - 1
parent_level p = ap length (parent_is_front p) ∙ length-take-le (length p - 1) p (omega arith)

parent_above : (p : Name) → 0 < length p → above (parent_name p) p ≡ true
parent_above p h =
    above_from (parent_name p) p (ap (λ (x : Name). covers x p) (parent_is_front p) ∙ front_covers (length p - 1) p)
    (λ e. omega (arith, ap length e, parent_level p))

parent_nearest : (p q : Name) → above p q ≡ true → covers p (parent_name q) ≡ true
parent_nearest p q e =
    let h = above_parts p q e in
    let short = shallower p q e in
    let front : take (length p) (parent_name q) ≡ p =
    ap (take (length p)) (parent_is_front q) ∙ take-take (length p) (length q - 1) q (omega arith) ∙ ancestor_is_front p q h.0 in
    ap (λ (x : Name). covers x (parent_name q)) (sym front) ∙ front_covers (length p) (parent_name q)

pub ancestry_laws : AncestryLaws
ancestry_laws =
    record {
      reflexive = front_refl same_step step_before step_order;
      transitive = covers_trans;
      antisymmetric = antisymmetric;
      comparable = comparable;
      front_covers = front_covers;
      ancestor_is_front = ancestor_is_front;
      ancestor_no_deeper = no_deeper;
      above_is_shallower = shallower;
      parent_is_front = parent_is_front;
      parent_level = parent_level;
      parent_above = parent_above;
      parent_nearest = parent_nearest;
    }

-- the answers of the two calls

pub neither : (p q : Name) → name_before p q ≡ false → same_name p q ≡ false → name_before q p ≡ true
neither p q b s =
    ⊎_elim
    (λ e. absurd (both_ways (same_name p q) s ((name_order.same_is_equal p q).1 e)))
    (λ h. ⊎_elim (λ f. absurd (both_ways (name_before p q) b f)) (λ f. f) h)
    (name_order.total p q)

-- a name is covered exactly when its front part of that length is the other
pub covers_front : (p q : Name) → same_name (take (length p) q) p ≡ covers p q
covers_front p q =
    same_from_decides (same_name (take (length p) q) p) (covers p q) (name_order.same_is_equal (take (length p) q) p) (
      (λ e. ancestor_is_front p q e),
      (λ e. ap (λ (x : Name). covers x q) (sym e) ∙ front_covers (length p) q),
    )

-- one parent further up
parent_of_front : (i : ℕ) (p : Name) → i < length p → parent_name (take (length p - i) p) ≡ take (length p - (i + 1)) p
parent_of_front i p h =
    let front = take (length p - i) p in
    let long : length front ≡ length p - i = length-take-le (length p - i) p (omega arith) in
    let short : length front - 1 ≡ length p - (i + 1) = omega arith in
    parent_is_front front ∙ ap (λ k. take k front) short ∙ take-take (length p - (i + 1)) (length p - i) p (omega arith)

module _ {K : Type 0} (m : Meaning K) (key : K) where
  -- after so many parent questions
  abbrev pub Climbed : ℕ → K → Type 0
  Climbed i up = m.name_of up ≡ take (length (m.name_of key) - i) (m.name_of key)

  pub climbed_none : Climbed 0 key
  climbed_none = sym (take_all (length (m.name_of key) - 0) (m.name_of key) (omega arith))

  pub climbed_more : (i : ℕ) (up next : K) → next ≡ m.parent_of up → i < length (m.name_of key) → Climbed i up → Climbed (i + 1) next
  climbed_more i up next e h c =
      ap m.name_of e ∙ m.parent_named up ∙ ap parent_name c ∙ parent_of_front i (m.name_of key) h

  pub climbed_all : (i level : ℕ) (up : K) → i ≡ length (m.name_of key) - level → Climbed i up → m.name_of up ≡ take level (m.name_of key)
  climbed_all i level up e c =
      c
      ∙ ⊎_elim
      (λ h. ap (λ k. take k (m.name_of key)) (omega arith))
      (λ h. take_all (length (m.name_of key) - i) (m.name_of key) (omega arith) ∙ sym (take_all level (m.name_of key) h))
      (cases_lt level (length (m.name_of key)))
