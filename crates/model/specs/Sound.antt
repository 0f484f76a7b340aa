-- What every reachable state keeps. Each part can be checked node by node.
use Rattle.std.specs.Prelude.{◌≡◌, ℕ, ◌<◌, ◌≤◌, true, false, List, [], ◌∷◌, length}
use Rattle.std.specs.List.{AllByRecursion}
use Rattle.prefix.specs.Name.{Name, name_before, parent_name}
use Rattle.prefix.specs.Meaning.{Meaning}
use Rattle.model.specs.declared.Node.{Node}
use Rattle.model.specs.State.{Tree, state_tree, State, largest_total, error}
use Rattle.model.specs.Weights.{total_of}
use Rattle.model.specs.Summary.{is_present, any_beneath, name_at, names_of, owns}

-- strictly in order: each name comes before all later ones
abbrev pub Sorted : List Name → Type 0
Sorted [] = Unit {0}
Sorted (p ∷ qs) = AllByRecursion (λ q. name_before p q ≡ true) qs × Sorted qs

-- not the root's name, and its parent is the root or there too
pub record Placed (all : List Name) (p : Name) : Type 0 where
  pub named : 0 < length p
  pub parented : is_present all (parent_name p) ≡ true

pub record Formed (all : List Name) : Type 0 where
  pub ordered : Sorted all
  pub placed : AllByRecursion (Placed all) all

-- what a node keeps: no node has counted nothing and has nothing beneath it
pub record Stands {K : Type 0} (m : Meaning K) (e : ℕ) (all : List Name) (n : Node K) : Type 0 where
  pub valid : m.is_valid n.key ≡ true
  pub counted : any_beneath (name_at m n) all ≡ false → 0 < n.own
  pub slack_small : n.slack ≤ e
  pub ceiling_small : n.ceiling ≤ e

-- a tree whose own counts add up to a total, with slacks and ceilings up to an error
pub record SoundTree {K : Type 0} (m : Meaning K) (total e : ℕ) (t : Tree K) : Type 0 where
  pub formed : Formed (names_of m t.nodes)
  pub stands : AllByRecursion (Stands m e (names_of m t.nodes)) t.nodes
  pub root_small : t.root.ceiling ≤ e
  pub adds_up : total_of (owns m t) ≡ total
  pub total_small : total ≤ largest_total

pub record Sound {K : Type 0} (m : Meaning K) (s : State K) : Type 0 where
  pub tree_sound : SoundTree m s.total (error s) (state_tree s)
  pub room : length s.nodes ≤ s.slots
