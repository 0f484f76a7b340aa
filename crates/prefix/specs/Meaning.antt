-- What a hierarchy means: the name of each key, and which keys are valid. The laws that every hierarchy keeps are
-- fields of the record, so nothing is a hierarchy without them, and code over any hierarchy has them at hand.
use Rattle.std.specs.Prelude.{◌≡◌, ℕ, ◌≤◌, Bool, true, false, [], length}
use Rattle.prefix.specs.Name.{Name, parent_name}

pub record Meaning (K : Type 0) : Type 0 where
  pub name_of : K → Name
  pub is_valid : K → Bool
  -- the keys that the root question and the parent question answer
  pub root_key : K
  pub parent_of : K → K
  -- the most steps that a name has
  pub depth : ℕ
  pub depth_positive : 1 ≤ depth
  pub depth_small : depth ≤ 32
  pub not_deeper : (k : K) → length (name_of k) ≤ depth
  pub not_valid_nameless : (k : K) → is_valid k ≡ false → name_of k ≡ []
  pub root_valid : is_valid root_key ≡ true
  pub root_nameless : name_of root_key ≡ []
  pub parent_valid : (k : K) → is_valid k ≡ true → is_valid (parent_of k) ≡ true
  pub parent_named : (k : K) → name_of (parent_of k) ≡ parent_name (name_of k)
