-- What a node hands up when it goes, with sums that stop at the largest number of 64 bits.
use Rattle.std.specs.Prelude.{◌≡◌, ℕ, ◌+◌, ◌-◌, ◌^◌, ◌<◌, min, max, List, Some, None, Option, slice_index_or, slice_set}
use Rattle.model.specs.declared.Node.{Node}
use Rattle.model.specs.declared.Root.{Root}

abbrev pub capped : ℕ → ℕ
capped n = min n (2 ^ 64 - 1)

-- own count and slack of a node
abbrev pub load_of : {K : Type 0} → Node K → ℕ
load_of n = capped (n.own + n.slack)

-- a node or the root takes over from the node that goes
abbrev pub takes : {K : Type 0} → Node K → Node K → Node K
takes n p = record { key = p.key; own = capped (p.own + n.own); slack = p.slack; ceiling = max p.ceiling (load_of n) }

abbrev pub root_takes : {K : Type 0} → Node K → Root → Root
root_takes n r = record { own = capped (r.own + n.own); ceiling = max r.ceiling (load_of n) }

-- the parent is one of so many nodes, or the root
abbrev pub Within : ℕ → Option ℕ → Type 0
Within count None = Unit {0}
Within count (Some at) = at < count

-- the root and the nodes after a node went that had this parent among them
abbrev pub HandedUp : {K : Type 0} → Option ℕ → Node K → Root → List (Node K) → Root → List (Node K) → Type 0
HandedUp None n root nodes root' nodes' = (root' ≡ root_takes n root) × (nodes' ≡ nodes)
HandedUp (Some at) n root nodes root' nodes' = (root' ≡ root) × (nodes' ≡ slice_set nodes at (takes n (slice_index_or nodes at n)))
