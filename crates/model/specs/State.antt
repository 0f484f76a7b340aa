-- The state of a summary.
use Rattle.std.specs.Prelude.{ℕ, ◌-◌, ◌*◌, ◌/◌, ◌^◌, Bool, not, ◌&&◌, List, [], ◌==◌, nat_le}
use Rattle.model.specs.declared.Node.{Node}
use Rattle.model.specs.declared.Root.{Root}

-- the settings, the slots of the table, the total, the figures of the root, and the stored nodes in name order
pub record State (K : Type 0) : Type 0 where
  pub width : ℕ
  pub share : ℕ
  pub slots : ℕ
  pub total : ℕ
  pub root_own : ℕ
  pub root_ceiling : ℕ
  pub nodes : List (Node K)

-- a prefix tree: the figures of the root, and the stored nodes in name order
pub record Tree (K : Type 0) : Type 0 where
  pub root : Root
  pub nodes : List (Node K)

-- the tree of a state
abbrev pub state_tree : {K : Type 0} → State K → Tree K
state_tree s = record { root = record { own = s.root_own; ceiling = s.root_ceiling }; nodes = s.nodes }

-- no summary uses more slots than this
abbrev pub most_slots : ℕ
most_slots = 4096

abbrev pub largest_total : ℕ
largest_total = 2 ^ 48 - 1

abbrev pub error : {K : Type 0} → State K → ℕ
error s = s.total / s.width

-- at opening all figures are 0 and no node is stored
abbrev pub opened : {K : Type 0} → ℕ → ℕ → ℕ → State K
opened width share slots =
    record { width = width; share = share; slots = slots; total = 0; root_own = 0; root_ceiling = 0; nodes = [] }

-- A count with its slack is heavy when it reaches the share of the summary's own total. Shares are in thousandths.
abbrev pub is_heavy : ℕ → ℕ → ℕ → Bool
is_heavy share total count = not (total == 0) && nat_le (share * total) (1000 * count)
