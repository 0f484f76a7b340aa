-- The bounds of a prefix in a sound tree: one that is not stored, a node's and the root's. No sum of them overflows.
use Rattle.std.proofs.Common.{◌≡◌, ℕ, ◌+◌, ◌-◌, ◌^◌, ◌<◌, ◌≤◌, true, false, ltb, List, [], ◌∷◌, ◌++◌, length, get_or, take, drop, Some, None, sym, refl, ap, ◌∙◌, subst, ⊎_elim, arith}
use Rattle.std.proofs.lemmas.List.{take-append-drop, take_all, drop_more, nil_from_length}
use Rattle.std.proofs.lemmas.List.Sums.{sum_by-cons, sum_by-append, sum_by-take-le}
use Rattle.std.proofs.lemmas.Bool.{cases_Bool}
use Rattle.std.specs.List.{prefix_len, take_while}
use Rattle.prefix.specs.Name.{Name}
use Rattle.prefix.specs.Meaning.{Meaning}
use Rattle.model.specs.declared.Node.{Node}
use Rattle.model.specs.declared.Root.{Root}
use Rattle.model.specs.State.{Tree, largest_total}
use Rattle.model.specs.Summary.{among, is_present, missing_up, name_at, names_of, node_of, ceiling_up, subtree, bounds_by, bounds_of}
use Rattle.model.specs.Sound.{Formed, Stands, SoundTree}
use Rattle.model.specs.Table.{run_of, own_sum, run_count}
use Rattle.figures.specs.Listed.{root_node}
use Rattle.table.specs.Ancestors.{Ancestors}
use Rattle.table.specs.declared.lookup.Ancestry.{Ancestry}
use Rattle.model.proofs.Names.{none_missing}
use Rattle.model.proofs.Nodes.{node_at, no_node}
use Rattle.model.proofs.Handing.{tree_of}
use Rattle.model.proofs.Counts.{all_middle, node_named, subtree_at, subtree_root, owns_total}

-- the length of a run by its nodes, and by their names
run_of_nodes : {K : Type 0} (m : Meaning K) (level : ℕ) (ns : List (Node K)) → prefix_len (λ n. ltb level (length (name_at m n))) ns ≡ run_of level (names_of m ns)
run_of_nodes m level [] = refl
run_of_nodes m level (n ∷ ns) = rw (run_of_nodes m level ns)

-- where a name of p is missing, p's is
itself_missing : (qs : List Name) → Formed qs → (p : Name) → 0 < missing_up qs p (length p) → among qs p ≡ false
itself_missing qs f [] h = absurd (omega arith)
itself_missing qs f (s ∷ p) h =
    let whole : take (length (s ∷ p)) (s ∷ p) ≡ s ∷ p = take_all (length (s ∷ p)) (s ∷ p) (omega arith) in
    ⊎_elim
    (λ (e : among qs (s ∷ p) ≡ true). absurd (omega (arith, none_missing qs f (s ∷ p) (length (s ∷ p)) (omega arith) (subst (λ (q : Name). is_present qs q ≡ true) (sym whole) e))))
    (λ e. e)
    (cases_Bool (among qs (s ∷ p)))

missing_named : (qs : List Name) (p : Name) → 0 < missing_up qs p (length p) → 0 < length p
missing_named qs [] h = h
missing_named qs (s ∷ p) h = omega arith

module _ {K : Type 0} (m : Meaning K) where
  -- the bounds of a prefix with a name
  named_bounds : (t : Tree K) (p : Name) → 0 < length p → bounds_of m t p ≡ bounds_by m (node_of m t.nodes p) (subtree m t p) (ceiling_up m t p (length p))
  unfolding bounds_of
  named_bounds t [] h = absurd (omega arith)
  named_bounds t (s ∷ p) h = refl

  -- the bounds of a node, from the nodes after it
  abbrev by_node : Node K → List (Node K) → ℕ × ℕ
  by_node n after =
      (n.own + run_count m (length (name_at m n)) after, n.own + run_count m (length (name_at m n)) after + n.slack)

  -- what `node_bounds` answers for a node and the run beneath it
  abbrev NodeAnswer : Node K → List (Node K) → ℕ × ℕ → Type 0
  NodeAnswer n run answer =
      n.own + (own_sum run + n.slack) < 2 ^ 64 → answer ≡ (n.own + own_sum run, n.own + own_sum run + n.slack)

  abbrev IsRun : Node K → List (Node K) → List (Node K) → Type 0
  IsRun n after run = run ≡ take_while (λ x. ltb (length (name_at m n)) (length (name_at m x))) after

  told_by_node : (n : Node K) (after run : List (Node K)) (answer : ℕ × ℕ) → IsRun n after run → NodeAnswer n run answer → n.own + (own_sum after + n.slack) < 2 ^ 64 → answer ≡ by_node n after
  told_by_node n after run answer e told small =
      let cut : run ≡ take (run_of (length (name_at m n)) (names_of m after)) after = e ∙ ap (λ k. take k after) (run_of_nodes m (length (name_at m n)) after) in
      let within = sum_by-take-le (λ (x : Node K). x.own) after (run_of (length (name_at m n)) (names_of m after)) in
      subst (λ (x : List (Node K)). NodeAnswer n x answer) cut told (omega (arith, within))

  module _ (total e : ℕ) (r : Root) where
    bounds_missing : (ns : List (Node K)) (p : Name) → SoundTree m total e (tree_of r ns) → 0 < missing_up (names_of m ns) p (length p) → bounds_of m (tree_of r ns) p ≡ (0, ceiling_up m (tree_of r ns) p (length p))
    bounds_missing ns p s h =
        named_bounds (tree_of r ns) p (missing_named (names_of m ns) p h) ∙ rw (no_node m ns p (itself_missing (names_of m ns) s.formed p h))

    bounds_node : (fs : List (Node K)) (n : Node K) (bs : List (Node K)) → SoundTree m total e (tree_of r (fs ++ n ∷ bs)) → bounds_of m (tree_of r (fs ++ n ∷ bs)) (name_at m n) ≡ by_node n bs
    bounds_node fs n bs s =
        named_bounds (tree_of r (fs ++ n ∷ bs)) (name_at m n) (node_named m fs n bs s.formed) ∙ rw (node_at m fs n bs s.formed.ordered, subtree_at m r fs n bs s.formed)

    -- the root's bounds are those of a node without slack
    bounds_root : (ns : List (Node K)) → SoundTree m total e (tree_of r ns) → bounds_of m (tree_of r ns) [] ≡ by_node (root_node m r) ns
    unfolding bounds_of
    bounds_root ns s =
        let count = subtree_root m r ns s.formed in
        let run : run_count m (length (name_at m (root_node m r))) ns ≡ run_count m 0 ns = ap (λ (p : Name). run_count m (length p) ns) m.root_nameless in
        let slack : r.own + run_count m 0 ns + 0 ≡ r.own + run_count m 0 ns = omega arith in
        cc

    -- own counts are at most the total, and a slack is at most the error
    node_fits : (fs : List (Node K)) (n : Node K) (bs : List (Node K)) → SoundTree m total e (tree_of r (fs ++ n ∷ bs)) → e ≤ largest_total → n.own + (own_sum bs + n.slack) < 2 ^ 64
    node_fits fs n bs s h =
        let small : n.slack ≤ e = (all_middle (Stands m e (names_of m (fs ++ n ∷ bs))) fs n bs s.stands).slack_small in
        omega (arith, s.adds_up, s.total_small, owns_total m r (fs ++ n ∷ bs), sum_by-append (λ (x : Node K). x.own) fs (n ∷ bs), sum_by-cons (λ (x : Node K). x.own) n bs)

    root_fits : (ns : List (Node K)) → SoundTree m total e (tree_of r ns) → r.own + (own_sum ns + 0) < 2 ^ 64
    root_fits ns s = omega (arith, s.adds_up, s.total_small, owns_total m r ns)

    module _ (ns : List (Node K)) (key : K) (a : Ancestry) (s : SoundTree m total e (tree_of r ns)) (known : Ancestors m ns key r a) where
      pub missing_answer : 0 < a.missing → (0, a.ceiling) ≡ bounds_of m (tree_of r ns) (m.name_of key)
      missing_answer h = let bounds = bounds_missing ns (m.name_of key) s (omega (arith, known.missing_is)) in cc known.ceiling_is

      pub stored_answer : (i : ℕ) (n : Node K) (after run : List (Node K)) (answer : ℕ × ℕ) → a.missing ≤ 0 → a.nearest ≡ Some i → n ≡ get_or ns i n → after ≡ drop (i + 1) ns → e ≤ largest_total → IsRun n after run → NodeAnswer n run answer → answer ≡ bounds_of m (tree_of r ns) (m.name_of key)
      stored_answer i n after run answer none near is rest small cut told =
          let p : Name = m.name_of key in
          let there = rw near at known.nearest_is in
          let named : name_at m n ≡ p = ap (name_at m) is ∙ (there.1 n ∙ take_all (length p - a.missing) p (omega arith)) in
          let more = drop_more ns i n there.0 in
          let tail : drop i ns ≡ n ∷ after = cc in
          let split : ns ≡ take i ns ++ n ∷ after = sym (take-append-drop i ns) ∙ ap (λ (xs : List (Node K)). take i ns ++ xs) tail in
          let sound : SoundTree m total e (tree_of r (take i ns ++ n ∷ after)) = rw (← split) s in
          told_by_node n after run answer cut told (node_fits (take i ns) n after sound small)
          ∙ (sym (bounds_node (take i ns) n after sound) ∙ rw (← split) (ap (bounds_of m (tree_of r ns)) named))

      pub root_answer : (n : Node K) (run : List (Node K)) (answer : ℕ × ℕ) → a.missing ≤ 0 → a.nearest ≡ None → n ≡ root_node m r → IsRun n ns run → NodeAnswer n run answer → answer ≡ bounds_of m (tree_of r ns) (m.name_of key)
      root_answer n run answer none near is cut told =
          let all-missing = rw near at known.nearest_is in
          let nameless : m.name_of key ≡ [] = nil_from_length (m.name_of key) (omega (arith, all-missing)) in
          told_by_node n ns run answer cut told (rw is (root_fits ns s)) ∙ (ap (λ (x : Node K). by_node x ns) is ∙ (sym (bounds_root ns s) ∙ ap (bounds_of m (tree_of r ns)) (sym nameless)))
