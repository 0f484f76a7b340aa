-- What is known of a key's ancestry in a table.
use Rattle.std.specs.Prelude.{◌≡◌, ℕ, ◌-◌, ◌<◌, ◌≤◌, true, false, List, Result, length, take, IfOk, MatchOption, MatchResult}
use Rattle.std.specs.List.{HoldsAt}
use Rattle.prefix.specs.Name.{Name}
use Rattle.prefix.specs.Meaning.{Meaning}
use Rattle.model.specs.declared.Node.{Node}
use Rattle.model.specs.declared.Root.{Root}
use Rattle.model.specs.Summary.{among, missing_up, name_at, names_of, ceiling_up}
use Rattle.model.specs.Sound.{Sorted}
use Rattle.model.specs.Table.{count_before}
use Rattle.table.specs.declared.lookup.Ancestry.{Ancestry}

-- Where a name stands in a table, or else, as an error, where it would stand.
pub record Found {K : Type 0} (m : Meaning K) (stored : List (Node K)) (p : Name) (r : Result ℕ ℕ) : Type 0 where
  pub within : MatchResult r (λ i. i < length stored) (λ i. i ≤ length stored)
  pub there : IfOk r (HoldsAt (λ n. name_at m n ≡ p) stored)
  pub place : Sorted (names_of m stored) → MatchResult r (λ i. i ≡ count_before (names_of m stored) p) (λ i. i ≡ count_before (names_of m stored) p)
  pub known : Sorted (names_of m stored) → MatchResult r (λ i. among (names_of m stored) p ≡ true) (λ i. among (names_of m stored) p ≡ false)

-- Where no ancestor is stored, all names of the key are missing and the ceiling is the root's; else fewer are.
pub record Climbed {K : Type 0} (m : Meaning K) (stored : List (Node K)) (key : K) (root : ℕ) (a : Ancestry) : Type 0 where
  pub within : a.at ≤ length stored
  pub nearest_stored :
      MatchOption a.nearest ((a.missing ≡ length (m.name_of key)) × (a.ceiling ≡ root)) (λ i. (i < length stored) × (a.missing < length (m.name_of key)))

-- In a table whose names are in order with every parent among them, the ancestry is the one that the rules speak of.
pub record Ancestors {K : Type 0} (m : Meaning K) (stored : List (Node K)) (key : K) (root : Root) (a : Ancestry) : Type 0 where
  pub missing_is : a.missing ≡ missing_up (names_of m stored) (m.name_of key) (length (m.name_of key))
  pub ceiling_is : a.ceiling ≡ ceiling_up m (record { root = root; nodes = stored }) (m.name_of key) (length (m.name_of key))
  pub at_is : a.at ≡ count_before (names_of m stored) (m.name_of key)
  pub nearest_is :
      MatchOption a.nearest (a.missing ≡ length (m.name_of key)) (λ i. (i < length stored) × HoldsAt (λ n. name_at m n ≡ take (length (m.name_of key) - a.missing) (m.name_of key)) stored i)

-- A node that is made has counted nothing; what was counted beneath it before is at most the ceiling it starts from.
pub record Starts {K : Type 0} (n : Node K) (ceiling : ℕ) : Type 0 where
  pub own_none : n.own ≡ 0
  pub slack_is : n.slack ≡ ceiling
  pub ceiling_is : n.ceiling ≡ ceiling
