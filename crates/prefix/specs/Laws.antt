-- The laws of names, which everything that counts by names rests on. The contracts of `compare_names` and
-- `lies_at_or_beneath` name them.
use Rattle.std.specs.Prelude.{◌≡◌, ℕ, ◌-◌, ◌<◌, ◌≤◌, true, ◌⊎◌, length, take}
use Rattle.std.specs.declared.cmp.Ordering.{Ordering}
use Rattle.std.specs.Ordering.{MatchOrdering}
use Rattle.prefix.specs.Order.{StrictTotalOrder}
use Rattle.prefix.specs.Name.{Name, same_name, name_before, covers, above, parent_name}
use Rattle.prefix.specs.Meaning.{Meaning}

-- The answer tells which of two keys' names comes first, or that they are one.
abbrev pub Compares : {K : Type 0} → Meaning K → K → K → Ordering → Type 0
Compares m one other answer =
    MatchOrdering answer (name_before (m.name_of one) (m.name_of other) ≡ true) (m.name_of one ≡ m.name_of other) (name_before (m.name_of other) (m.name_of one) ≡ true)

-- The order of names. A walk in this order meets a prefix first and then, with nothing between them, all names beneath.
pub record OrderLaws : Type 0 where
  pub order : StrictTotalOrder same_name name_before
  pub ancestor_first : (p q : Name) → above p q ≡ true → name_before p q ≡ true
  -- what stands between a prefix and a name beneath it is itself beneath it
  pub beneath_together : (p q r : Name) → above p r ≡ true → name_before p q ≡ true → name_before q r ≡ true → above p q ≡ true

-- Ancestors, front parts, levels and parents. The level of a name is its length.
pub record AncestryLaws : Type 0 where
  pub reflexive : (p : Name) → covers p p ≡ true
  pub transitive : (p q r : Name) → covers p q ≡ true → covers q r ≡ true → covers p r ≡ true
  pub antisymmetric : (p q : Name) → covers p q ≡ true → covers q p ≡ true → p ≡ q
  -- two ancestors of one name are comparable
  pub comparable : (p q r : Name) → covers p r ≡ true → covers q r ≡ true → (covers p q ≡ true) ⊎ (above q p ≡ true)
  -- the ancestors of a name are its front parts, and one of them for each level
  pub front_covers : (n : ℕ) (p : Name) → covers (take n p) p ≡ true
  pub ancestor_is_front : (p q : Name) → covers p q ≡ true → take (length p) q ≡ p
  pub ancestor_no_deeper : (p q : Name) → covers p q ≡ true → length p ≤ length q
  pub above_is_shallower : (p q : Name) → above p q ≡ true → length p < length q
  -- the parent is the nearest of them
  pub parent_is_front : (p : Name) → parent_name p ≡ take (length p - 1) p
  pub parent_level : (p : Name) → length (parent_name p) ≡ length p - 1
  pub parent_above : (p : Name) → 0 < length p → above (parent_name p) p ≡ true
  pub parent_nearest : (p q : Name) → above p q ≡ true → covers p (parent_name q) ≡ true
