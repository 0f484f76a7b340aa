-- When a prefix is listed.
use Rattle.std.specs.Prelude.{◌≡◌, ℕ, ◌+◌, ◌-◌, ◌^◌, min, true, List}
use Rattle.std.specs.List.{Contains}
use Rattle.prefix.specs.Meaning.{Meaning}
use Rattle.model.specs.declared.Node.{Node}
use Rattle.model.specs.declared.Root.{Root}
use Rattle.model.specs.State.{is_heavy}

-- the root as a node: its slack is 0
abbrev pub root_node : {K : Type 0} → Meaning K → Root → Node K
root_node m r = record { key = m.root_key; own = r.own; slack = 0; ceiling = r.ceiling }

-- The key is the node's, and the discounted count with the node's slack is heavy.
abbrev pub IsListed : {K : Type 0} → ℕ → ℕ → K → ℕ → Node K → Type 0
IsListed share total key discounted n =
    (key ≡ n.key) × (is_heavy share total (min (discounted + n.slack) (2 ^ 64 - 1)) ≡ true)

-- That holds of one of the nodes.
abbrev pub IsAnyListed : {K : Type 0} → ℕ → ℕ → K → ℕ → List (Node K) → Type 0
IsAnyListed {K} share total key discounted nodes =
    (n : Node K) × Contains nodes n × IsListed share total key discounted n
