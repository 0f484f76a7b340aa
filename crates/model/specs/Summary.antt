-- What the calls of a summary answer and make of its state, rule by rule.
use Rattle.std.specs.Prelude.{ℕ, zero, suc, ◌+◌, ◌-◌, max, Bool, true, false, cond, not, ◌&&◌, ◌||◌, List, [], ◌∷◌, map, length, take, Some, None, Ok, Err, Option, Result, ◌==◌, nat_le, nat_lt}
use Rattle.refusal.specs.declared.Refusal.{Refusal}
use Rattle.refusal.specs.declared.Refusal.TheVariants.{KeyNotValid, TotalTooLarge, NoFreeSlot}
use Rattle.prefix.specs.Name.{Name, same_name, name_before, above, parent_name}
use Rattle.prefix.specs.Meaning.{Meaning}
use Rattle.model.specs.declared.Node.{Node}
use Rattle.model.specs.declared.Root.{Root}
use Rattle.model.specs.State.{Tree, state_tree, State, largest_total, error}
use Rattle.model.specs.Weights.{Weighted, under}

-- NAMES

abbrev pub among : List Name → Name → Bool
among [] p = false
among (q ∷ qs) p = same_name q p || among qs p

-- the root is always there
abbrev pub is_present : List Name → Name → Bool
is_present qs [] = true
is_present qs (s ∷ p) = among qs (s ∷ p)

abbrev pub any_beneath : Name → List Name → Bool
any_beneath p [] = false
any_beneath p (q ∷ qs) = above p q || any_beneath p qs

-- of p's front parts of 1 to k steps: how many are not among the names
abbrev pub missing_up : List Name → Name → ℕ → ℕ
missing_up qs p zero = 0
missing_up qs p (suc k) = cond (among qs (take (suc k) p)) 0 1 + missing_up qs p k

abbrev pub ceiling_or : {K : Type 0} → Option (Node K) → ℕ → ℕ
ceiling_or None c = c
ceiling_or (Some n) c = n.ceiling

-- the same summary with another total and another tree
abbrev pub changed : {K : Type 0} → State K → ℕ → Tree K → State K
changed s total tree =
    record { width = s.width; share = s.share; slots = s.slots; total = total; root_own = tree.root.own; root_ceiling = tree.root.ceiling; nodes = tree.nodes }

-- a node takes over: its own count grows, and its ceiling becomes at least the load
abbrev pub took : {K : Type 0} → ℕ → ℕ → Node K → Node K
took own load n = record { key = n.key; own = n.own + own; slack = n.slack; ceiling = max n.ceiling load }

abbrev pub root_took : ℕ → ℕ → Root → Root
root_took own load r = record { own = r.own + own; ceiling = max r.ceiling load }

-- a made node has counted nothing; its slack and its ceiling are its parent's ceiling
abbrev pub fresh : {K : Type 0} → K → ℕ → Node K
fresh k c = record { key = k; own = 0; slack = c; ceiling = c }

module _ {K : Type 0} (m : Meaning K) where
  -- LOOK-UPS

  abbrev pub name_at : Node K → Name
  name_at n = m.name_of n.key

  abbrev pub names_of : List (Node K) → List Name
  names_of ns = map name_at ns

  -- the node of a prefix
  abbrev pub node_of : List (Node K) → Name → Option (Node K)
  node_of [] p = None
  node_of (n ∷ ns) p = cond (same_name (name_at n) p) (Some n) (node_of ns p)

  -- of p's front parts of at most k steps: the ceiling of the longest that is stored, or else the root's
  abbrev pub ceiling_up : Tree K → Name → ℕ → ℕ
  ceiling_up t p zero = t.root.ceiling
  ceiling_up t p (suc k) = ceiling_or (node_of t.nodes (take (suc k) p)) (ceiling_up t p k)

  -- the node of a prefix takes over
  abbrev pub taken : ℕ → ℕ → Name → List (Node K) → List (Node K)
  taken own load p [] = []
  taken own load p (n ∷ ns) = cond (same_name (name_at n) p) (took own load n ∷ ns) (n ∷ taken own load p ns)

  -- the root or a stored prefix does
  abbrev pub handed : ℕ → ℕ → Name → Tree K → Tree K
  handed own load [] t = record { root = root_took own load t.root; nodes = t.nodes }
  handed own load (s ∷ p) t = record { root = t.root; nodes = taken own load (s ∷ p) t.nodes }

  -- SWEEP

  abbrev pub removed : Name → List (Node K) → List (Node K)
  removed p [] = []
  removed p (n ∷ ns) = cond (same_name (name_at n) p) ns (n ∷ removed p ns)

  -- a node goes: its parent takes its own count over, and the parent's ceiling becomes at least own count and slack
  abbrev pub folded : Tree K → Node K → Tree K
  folded t n =
      handed n.own (n.own + n.slack) (parent_name (name_at n)) (record { root = t.root; nodes = removed (name_at n) t.nodes })

  -- nothing is stored beneath it, and own count and slack are at most the error
  abbrev pub is_foldable : ℕ → Tree K → Node K → Bool
  is_foldable e t n = not (any_beneath (name_at n) (names_of t.nodes)) && nat_le (n.own + n.slack) e

  -- of the nodes given, each of this level that is foldable, one after another
  abbrev pub folded_among : ℕ → ℕ → List (Node K) → Tree K → Tree K
  folded_among e level [] t = t
  folded_among e level (n ∷ ns) t =
      folded_among e level ns (cond (length (name_at n) == level && is_foldable e t n) (folded t n) t)

  -- from a level to level 1
  abbrev pub folded_from : ℕ → ℕ → Tree K → Tree K
  folded_from e zero t = t
  folded_from e (suc level) t = folded_from e level (folded_among e (suc level) t.nodes t)

  -- from the deepest level
  abbrev pub swept_tree : ℕ → Tree K → Tree K
  swept_tree e t = folded_from e m.depth t

  unfoldable pub swept : State K → State K
  swept s = changed s s.total (swept_tree (error s) (state_tree s))

  -- how many nodes were folded
  unfoldable pub sweep_answer : State K → ℕ
  sweep_answer s = length s.nodes - length (swept s).nodes

  -- ADD

  -- the missing names of a key: its own and its ancestors', without the root, that are not stored
  abbrev pub missing : State K → K → ℕ
  missing s k = missing_up (names_of s.nodes) (m.name_of k) (length (m.name_of k))

  -- they do not outnumber the free slots
  unfoldable pub has_room_for : State K → K → Bool
  has_room_for s k = nat_le (missing s k) (s.slots - length s.nodes)

  -- where they do, a sweep runs
  unfoldable pub roomy : State K → K → State K
  roomy s k = cond (has_room_for s k) s (swept s)

  -- into its place in name order
  abbrev pub insert : Node K → List (Node K) → List (Node K)
  insert n [] = n ∷ []
  insert n (x ∷ ns) = cond (name_before (name_at x) (name_at n)) (x ∷ insert n ns) (n ∷ (x ∷ ns))

  -- nodes for a key of d steps and its ancestors, those that are missing, from the top down
  abbrev pub made : Tree K → K → ℕ → Tree K
  made t k zero = t
  made t k (suc d) =
      let up : Tree K = made t (m.parent_of k) d in
      cond (among (names_of up.nodes) (m.name_of k)) up (record { root = up.root; nodes = insert (fresh k (ceiling_up up (m.name_of k) d)) up.nodes })

  -- the weight is counted at the key's node or at the root; a load of 0 leaves the ceiling
  unfoldable pub counted : State K → K → ℕ → State K
  counted s k w = changed s (s.total + w) (handed w 0 (m.name_of k) (made (state_tree s) k (length (m.name_of k))))

  -- if the error grew, a sweep runs
  unfoldable pub settled : ℕ → State K → State K
  settled e s = cond (nat_lt e (error s)) (swept s) s

  abbrev pub too_much : State K → ℕ → Bool
  too_much s w = nat_lt largest_total (s.total + w)

  unfoldable pub added : State K → K → ℕ → State K
  added s k w =
      cond (not (m.is_valid k) || (w == 0 || too_much s w)) s (cond (has_room_for (roomy s k) k) (settled (error s) (counted (roomy s k) k w)) (roomy s k))

  unfoldable pub add_answer : State K → K → ℕ → Result ℕ Refusal
  add_answer s k w =
      cond (not (m.is_valid k)) (Err KeyNotValid) (cond (w == 0) (Ok s.total) (cond (too_much s w) (Err TotalTooLarge) (cond (has_room_for (roomy s k) k) (Ok (s.total + w)) (Err NoFreeSlot))))

  -- BOUNDS

  -- the own counts by name, the root's first
  abbrev pub owns : Tree K → List Weighted
  owns t = record { name = []; weight = t.root.own } ∷ map (λ n. record { name = name_at n; weight = n.own }) t.nodes

  -- the own counts at a prefix and beneath it
  abbrev pub subtree : Tree K → Name → ℕ
  subtree t p = under (owns t) p

  -- of a stored prefix by its slack, and else the ceiling above it
  abbrev pub bounds_by : Option (Node K) → ℕ → ℕ → ℕ × ℕ
  bounds_by (Some n) count ceiling = (count, count + n.slack)
  bounds_by None count ceiling = (0, ceiling)

  unfoldable pub bounds_of : Tree K → Name → ℕ × ℕ
  bounds_of t [] = (subtree t [], subtree t [])
  bounds_of t (s ∷ p) =
      bounds_by (node_of t.nodes (s ∷ p)) (subtree t (s ∷ p)) (ceiling_up t (s ∷ p) (length (s ∷ p)))

  unfoldable pub bounds_answer : State K → K → Result (ℕ × ℕ) Refusal
  bounds_answer s k = cond (m.is_valid k) (Ok (bounds_of (state_tree s) (m.name_of k))) (Err KeyNotValid)
