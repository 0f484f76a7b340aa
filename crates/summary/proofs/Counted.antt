-- Counting a weight at a key once its missing nodes are made.
use Rattle.std.proofs.Common.{◌≡◌, ℕ, suc, ◌+◌, ◌-◌, ◌/◌, ◌^◌, ◌<◌, ◌≤◌, min, max, true, ltb, List, [], ◌∷◌, ◌++◌, length, get_or, take, drop, set, Some, None, Option, sym, refl, ap, ◌∙◌, subst, ⊎_elim, arith, drop-cons, MatchOption}
use lib.Seq.{take-set-lt}
use Rattle.std.proofs.ByRecursion.{All-get_or}
use Rattle.std.proofs.lemmas.List.{append_assoc, length-append, length-set, length-map, take-append-drop, length-take, length-take-le, take_all, get_or_at, get_or-take, get_or-map, get_or-set_same, set_split, nil_from_length}
use Rattle.std.proofs.lemmas.List.Sums.{get_or-le-sum_by}
use Rattle.std.proofs.lemmas.Bool.{cases_lt, lt-ltb, le-ltb, cond-true, cond-false}
use Rattle.prefix.specs.Name.{Name}
use Rattle.prefix.specs.Meaning.{Meaning}
use Rattle.model.specs.declared.Node.{Node}
use Rattle.model.specs.declared.Root.{Root}
use Rattle.model.specs.State.{state_tree, Tree, State, largest_total}
use Rattle.model.specs.Summary.{name_at, names_of, took, root_took, taken, handed, fresh, made, missing, counted, owns}
use Rattle.model.specs.Weights.{total_of}
use Rattle.model.specs.Sound.{Sorted, Placed, Formed, SoundTree, Sound}
use Rattle.model.specs.Table.{lineage}
use Rattle.model.specs.Answers.{SameTable}
use Rattle.model.proofs.Nodes.{taken_at, names_taken}
use Rattle.model.proofs.Counts.{owns_total}
use Rattle.model.proofs.Lineages.{length_lineage}
use Rattle.model.proofs.Making.{made_shape}
use Rattle.model.proofs.Adding.{counted_sound}
use Rattle.model.proofs.Calls.{room_from}
use Rattle.table.specs.declared.lookup.Ancestry.{Ancestry}
use Rattle.table.specs.Ancestors.{Ancestors}
use Rattle.summary.specs.Room.{HasRoom, own_slot}

module _ {K : Type 0} (m : Meaning K) where
  -- to take over is a write at the node's place
  taken_is_set : (own load : ℕ) (ns : List (Node K)) (i : ℕ) (d : Node K) (p : Name) → Sorted (names_of m ns) → i < length ns → name_at m (get_or ns i d) ≡ p → taken m own load p ns ≡ set ns i (took own load (get_or ns i d))
  taken_is_set own load ns i d p s h e =
      let n = get_or ns i d in
      let parts : ns ≡ take i ns ++ n ∷ drop (suc i) ns = sym (take-append-drop i ns) ∙ ap (λ (r : List (Node K)). take i ns ++ r) (drop-cons ns i d h) in
      ap (λ (q : Name). taken m own load q ns) (sym e)
      ∙ ap (taken m own load (name_at m n)) parts
      ∙ taken_at m own load (take i ns) n (drop (suc i) ns) (subst (λ (xs : List (Node K)). Sorted (names_of m xs)) parts s)
      ∙ sym (set_split ns i (took own load n) h)

  handed_below : (own load : ℕ) (p : Name) (t : Tree K) → 0 < length p → handed m own load p t ≡ record { root = t.root; nodes = taken m own load p t.nodes }
  handed_below own load [] t h = absurd (omega arith)
  handed_below own load (s ∷ p) t h = refl

  names_handed : (own load : ℕ) (p : Name) (t : Tree K) → names_of m (handed m own load p t).nodes ≡ names_of m t.nodes
  names_handed own load [] t = refl
  names_handed own load (s ∷ p) t = names_taken m own load (s ∷ p) t.nodes

  some_same : (i j : ℕ) (o : Option ℕ) → o ≡ Some i → o ≡ Some j → i ≡ j
  some_same i j o e f = cc

  some_not_none : (i : ℕ) (o : Option ℕ) → o ≡ Some i → o ≡ None → ⊥
  some_not_none i o e f = let z : ◌≡◌ {A = ℕ} 0 1 = cc in omega arith

  module _ (s : State K) (k : K) (a : Ancestry) (sound : Sound m s) (known : Ancestors m s.nodes k (state_tree s).root a) (room : HasRoom s a) where
    -- the nodes once the missing ones are made
    abbrev all : List (Node K)
    all = (made m (state_tree s) k (length (m.name_of k))).nodes

    made_is : all ≡ take a.at s.nodes ++ (lineage m k a.ceiling a.missing ++ drop a.at s.nodes)
    made_is =
        let shape = ap (λ (t : Tree K). t.nodes) (made_shape m (state_tree s) k sound.tree_sound.formed) in
        let e = known.at_is in
        let f = known.ceiling_is in
        let g = known.missing_is in shape ∙ cc

    -- the same nodes, from those that were in use
    pub made_from : (used xs : List (Node K)) → used ≡ s.nodes → xs ≡ take a.at used ++ (lineage m k a.ceiling a.missing ++ drop a.at used) → xs ≡ all
    made_from used xs e f = let made = made_is in cc

    made_root : (made m (state_tree s) k (length (m.name_of k))).root ≡ (state_tree s).root
    made_root = ap (λ (t : Tree K). t.root) (made_shape m (state_tree s) k sound.tree_sound.formed)

    -- the key's own node is the last of those that were missing
    made_last : (d : Node K) → 0 < a.missing → (a.at + (a.missing - 1) < length all) × (name_at m (get_or all (a.at + (a.missing - 1)) d) ≡ m.name_of k)
    made_last d h =
        let j = a.missing - 1 in
        let stored = s.nodes in
        let front = take a.at stored ++ lineage m (m.parent_of k) a.ceiling j in
        let one : a.missing ≡ suc j = omega arith in
        let parts : all ≡ front ++ fresh k a.ceiling ∷ drop a.at stored = made_is ∙ ap (λ i. take a.at stored ++ (lineage m k a.ceiling i ++ drop a.at stored)) one ∙ simp append_assoc in
        let long : length front ≡ a.at + j = length-append (take a.at stored) (lineage m (m.parent_of k) a.ceiling j) ∙ cc (length-take-le a.at stored room.within, length_lineage m (m.parent_of k) a.ceiling j) in (
          omega (arith, ap length parts, length-append front (fresh k a.ceiling ∷ drop a.at stored), long),
          ap (λ (xs : List (Node K)). name_at m (get_or xs (a.at + j) d)) parts ∙ ap (name_at m) (get_or_at front (fresh k a.ceiling) (drop a.at stored) d (a.at + j) long),
        )

    -- or else the nearest
    made_none : a.missing ≤ 0 → all ≡ s.nodes
    made_none h =
        let zero : a.missing ≡ 0 = omega arith in
        made_is ∙ ap (λ i. take a.at s.nodes ++ (lineage m k a.ceiling i ++ drop a.at s.nodes)) zero ∙ take-append-drop a.at s.nodes

    nearest_own : (i : ℕ) (d : Node K) → a.missing ≤ 0 → a.nearest ≡ Some i → (i < length all) × (name_at m (get_or all i d) ≡ m.name_of k)
    nearest_own i d h e =
        let p = m.name_of k in
        let at : (i < length s.nodes) × ((x : Node K) → name_at m (get_or s.nodes i x) ≡ take (length p - a.missing) p) = subst (λ (o : Option ℕ). MatchOption o (a.missing ≡ length p) (λ i. (i < length s.nodes) × ((x : Node K) → name_at m (get_or s.nodes i x) ≡ take (length p - a.missing) p))) e known.nearest_is in (
          subst (λ (xs : List (Node K)). i < length xs) (sym (made_none h)) at.0,
          ap (λ (xs : List (Node K)). name_at m (get_or xs i d)) (made_none h) ∙ at.1 d ∙ take_all (length p - a.missing) p (omega arith),
        )

    own_slot_some : (i : ℕ) (d : Node K) → own_slot a ≡ Some i → (i < length all) × (name_at m (get_or all i d) ≡ m.name_of k)
    own_slot_some i d e =
        ⊎_elim
        (λ h.
        let last = cond-true (ltb 0 a.missing) (Some (a.at + (a.missing - 1))) a.nearest (lt-ltb 0 a.missing h) in
        let same = some_same (a.at + (a.missing - 1)) i (own_slot a) last e in
        subst (λ (j : ℕ). (j < length all) × (name_at m (get_or all j d) ≡ m.name_of k)) same (made_last d h))
        (λ h.
        let near = cond-false (ltb 0 a.missing) (Some (a.at + (a.missing - 1))) a.nearest (le-ltb 0 a.missing h) in
        nearest_own i d h (sym near ∙ e))
        (cases_lt 0 a.missing)

    -- only the root has none
    own_slot_none : own_slot a ≡ None → m.name_of k ≡ []
    own_slot_none e =
        ⊎_elim
        (λ h.
        let last = cond-true (ltb 0 a.missing) (Some (a.at + (a.missing - 1))) a.nearest (lt-ltb 0 a.missing h) in
        absurd (some_not_none (a.at + (a.missing - 1)) (own_slot a) last e))
        (λ h.
        let near = cond-false (ltb 0 a.missing) (Some (a.at + (a.missing - 1))) a.nearest (le-ltb 0 a.missing h) in
        let none : a.missing ≡ length (m.name_of k) = subst (λ (o : Option ℕ). MatchOption o (a.missing ≡ length (m.name_of k)) (λ i. (i < length s.nodes) × ((x : Node K) → name_at m (get_or s.nodes i x) ≡ take (length (m.name_of k) - a.missing) (m.name_of k)))) (sym near ∙ e) known.nearest_is in
        nil_from_length (m.name_of k) (omega arith))
        (cases_lt 0 a.missing)

    module _ (w : ℕ) (valid : m.is_valid k ≡ true) (some : 0 < w) (fits : s.total + w ≤ largest_total) where
      has_room : missing m s k ≤ s.slots - length s.nodes
      has_room = omega (arith, known.missing_is, room.slots_enough)

      after_sound : Sound m (counted m s k w)
      after_sound = counted_sound m s k w sound valid some fits (room_from m s k has_room)

      tree_after : SoundTree m (s.total + w) ((s.total + w) / s.width) (handed m w 0 (m.name_of k) (made m (state_tree s) k (length (m.name_of k))))
      unfolding counted
      tree_after = after_sound.tree_sound

      made_formed : Formed (names_of m all)
      made_formed = subst Formed (names_handed w 0 (m.name_of k) (made m (state_tree s) k (length (m.name_of k)))) tree_after.formed

      module _ (i : ℕ) (d : Node K) (slot : own_slot a ≡ Some i) where
        below_root : 0 < length (m.name_of k)
        below_root =
            let own = own_slot_some i d slot in
            let placed = All-get_or (Placed (names_of m all)) (names_of m all) i [] (subst (λ n. i < n) (sym (length-map all (name_at m))) own.0) made_formed.placed in
            subst (λ (q : Name). 0 < length q) (get_or-map (name_at m) all i d [] own.0 ∙ own.1) placed.named

        counted_nodes : handed m w 0 (m.name_of k) (made m (state_tree s) k (length (m.name_of k))) ≡ record { root = (state_tree s).root; nodes = set all i (took w 0 (get_or all i d)) }
        counted_nodes =
            let own = own_slot_some i d slot in
            let written = taken_is_set w 0 all i d (m.name_of k) made_formed.ordered own.0 own.1 in
            let root = made_root in
            handed_below w 0 (m.name_of k) (made m (state_tree s) k (length (m.name_of k))) below_root ∙ cc

        own_fits : (get_or all i d).own + w < 2 ^ 64
        own_fits =
            let own = own_slot_some i d slot in
            let v = took w 0 (get_or all i d) in
            let sum = subst (λ (t : Tree K). total_of (owns m t) ≡ s.total + w) counted_nodes tree_after.adds_up in
            let part = get_or-le-sum_by (λ (n : Node K). n.own) (set all i v) i d (subst (λ n. i < n) (sym (length-set all i v)) own.0) in
            let there = ap (λ (n : Node K). n.own) (get_or-set_same all i v d own.0) in
            omega (arith, sum, part, there, owns_total m (state_tree s).root (set all i v))

        -- the write of the grown node gives the counted state
        pub counted_in_slot : (after : State K) (n : ℕ) (before written : List (Node K)) → SameTable s after → after.total ≡ s.total + w → (state_tree after).root ≡ (state_tree s).root → after.nodes ≡ take n written → take n before ≡ all → ((get_or before i d).own + w < 2 ^ 64 → written ≡ set before i (took w 0 (get_or before i d))) → after ≡ counted m s k w
        unfolding counted
        counted_in_slot after n before written table total root nodes front write =
            let less : i < n = omega (arith, (own_slot_some i d slot).0, ap length front, length-take n before) in
            let same : get_or all i d ≡ get_or before i d = ap (λ (xs : List (Node K)). get_or xs i d) (sym front) ∙ get_or-take n before i d less in
            let wrote = write (subst (λ (x : Node K). x.own + w < 2 ^ 64) same own_fits) in
            let moved : take n written ≡ set all i (took w 0 (get_or all i d)) = ap (take n) wrote ∙ take-set-lt n before i (took w 0 (get_or before i d)) less ∙ cc in
            let tree = counted_nodes in
            let width = table.width_same in
            let share = table.share_same in
            let slots = table.slots_same in
            let state : ◌≡◌ {A = State K} (record { width = after.width; share = after.share; slots = after.slots; total = after.total; root_own = after.root_own; root_ceiling = after.root_ceiling; nodes = after.nodes }) (counted m s k w) = cc in state

      -- at the root
      root_own_fits : m.name_of k ≡ [] → (state_tree s).root.own + w < 2 ^ 64
      root_own_fits e =
          let sum = subst (λ (p : Name). total_of (owns m (handed m w 0 p (made m (state_tree s) k (length (m.name_of k))))) ≡ s.total + w) e tree_after.adds_up in
          omega (arith, sum, owns_total m (root_took w 0 (made m (state_tree s) k (length (m.name_of k))).root) all, ap (λ (r : Root). r.own) made_root)

      pub counted_at_root : (after : State K) → SameTable s after → after.total ≡ s.total + w → own_slot a ≡ None → (state_tree after).root ≡ record { own = min ((state_tree s).root.own + w) (2 ^ 64 - 1); ceiling = max (state_tree s).root.ceiling 0 } → after.nodes ≡ all → after ≡ counted m s k w
      unfolding counted
      counted_at_root after table total slot grown nodes =
          let e = own_slot_none slot in
          let fit : min ((state_tree s).root.own + w) (2 ^ 64 - 1) ≡ (state_tree s).root.own + w = omega (arith, root_own_fits e) in
          let at_root : handed m w 0 (m.name_of k) (made m (state_tree s) k (length (m.name_of k))) ≡ record { root = root_took w 0 (made m (state_tree s) k (length (m.name_of k))).root; nodes = all } = ap (λ (p : Name). handed m w 0 p (made m (state_tree s) k (length (m.name_of k)))) e in
          let own = ap (λ (r : Root). r.own) grown in
          let ceiling = ap (λ (r : Root). r.ceiling) grown in
          let old_own = ap (λ (r : Root). r.own) made_root in
          let old_ceiling = ap (λ (r : Root). r.ceiling) made_root in
          let new_own = ap (λ (t : Tree K). t.root.own) at_root in
          let new_ceiling = ap (λ (t : Tree K). t.root.ceiling) at_root in
          let new_nodes = ap (λ (t : Tree K). t.nodes) at_root in
          let width = table.width_same in
          let share = table.share_same in
          let slots = table.slots_same in
          let state : ◌≡◌ {A = State K} (record { width = after.width; share = after.share; slots = after.slots; total = after.total; root_own = after.root_own; root_ceiling = after.root_ceiling; nodes = after.nodes }) (counted m s k w) = cc in state
