-- Counts of subtrees, from the run of nodes after a node.
use Rattle.std.proofs.Common.{◌≡◌, ℕ, ◌+◌, ◌<◌, true, false, cond, List, [], ◌∷◌, ◌++◌, map, length, take, drop, sum_by, refl, ap, arith}
use Rattle.std.specs.List.{AllByRecursion}
use Rattle.std.proofs.lemmas.List.{map-append, length-map, take_all, take-map, drop-map}
use Rattle.std.proofs.lemmas.List.Sums.{sum_by-cons, sum_by-append, sum_by-take-drop}
use Rattle.std.proofs.lemmas.List.Recursion.{is_sum_by}
use Rattle.std.proofs.lemmas.Bool.{lt-ltb, false_from_ne_true}
use Rattle.prefix.specs.Name.{Name, covers}
use Rattle.prefix.specs.Meaning.{Meaning}
use Rattle.prefix.proofs.Names.{ancestry_laws}
use Rattle.model.specs.declared.Node.{Node}
use Rattle.model.specs.declared.Root.{Root}
use Rattle.model.specs.Weights.{Weighted, total_of}
use Rattle.model.specs.Summary.{name_at, names_of, owns, subtree}
use Rattle.model.specs.Sound.{Placed, Formed}
use Rattle.model.specs.Table.{run_of, own_sum, run_count}
use Rattle.model.proofs.Among.{all_parts}
use Rattle.model.proofs.Names.{placed_here, run_beneath}

-- what holds of all holds of each
pub all_middle : {X : Type 0} (P : X → Type 0) (xs : List X) (y : X) (ys : List X) → AllByRecursion P (xs ++ y ∷ ys) → P y
all_middle P xs y ys h = (all_parts P xs (y ∷ ys) h).1.0

-- no name is the root's, so the run after the root is all of them
run_of_all : (all qs : List Name) → AllByRecursion (Placed all) qs → run_of 0 qs ≡ length qs
run_of_all all [] h = refl
run_of_all all (q ∷ qs) h = rw (lt-ltb 0 (length q) h.0.named) (omega (arith, run_of_all all qs h.1))

module _ {K : Type 0} (m : Meaning K) where
  pub node_named : (fs : List (Node K)) (n : Node K) (bs : List (Node K)) → Formed (names_of m (fs ++ n ∷ bs)) → 0 < length (name_at m n)
  node_named fs n bs f = (placed_here (names_of m fs) (name_at m n) (names_of m bs) (rw map-append at f)).named

  -- what a node counts at or beneath p
  abbrev part : Name → Node K → ℕ
  part p n = cond (covers p (name_at m n)) n.own 0

  parts_within : (p : Name) (ns : List (Node K)) → AllByRecursion (λ q. covers p q ≡ true) (names_of m ns) → sum_by (part p) ns ≡ own_sum ns
  parts_within p [] h = refl
  parts_within p (n ∷ ns) h =
      rw (sum_by-cons (part p) n ns, sum_by-cons (λ x. x.own) n ns, h.0, parts_within p ns h.1)

  parts_outside : (p : Name) (ns : List (Node K)) → AllByRecursion (λ q. covers p q ≡ false) (names_of m ns) → sum_by (part p) ns ≡ 0
  parts_outside p [] h = refl
  parts_outside p (n ∷ ns) h = rw (sum_by-cons (part p) n ns, h.0, parts_outside p ns h.1)

  -- a sum over the own counts of a tree
  sum_of_owns : (f : Weighted → ℕ) (r : Root) (ns : List (Node K)) → sum_by f (owns m (record { root = r; nodes = ns })) ≡ f (record { name = []; weight = r.own }) + sum_by (λ n. f (record { name = name_at m n; weight = n.own })) ns
  sum_of_owns f r ns =
      let own : Node K → Weighted = λ n. record { name = name_at m n; weight = n.own } in
      rw (sum_by-cons f) (ap (λ k. f (record { name = []; weight = r.own }) + k) (is_sum_by (λ xs. sum_by f (map own xs)) (λ n. f (own n)) refl (λ x xs. sum_by-cons f (own x) (map own xs)) ns))

  pub subtree_at : (r : Root) (fs : List (Node K)) (n : Node K) (bs : List (Node K)) → Formed (names_of m (fs ++ n ∷ bs)) → subtree m (record { root = r; nodes = fs ++ n ∷ bs }) (name_at m n) ≡ n.own + run_count m (length (name_at m n)) bs
  subtree_at r fs n bs f =
      let p : Name = name_at m n in
      let run : ℕ = run_of (length p) (names_of m bs) in
      let beneath = run_beneath (names_of m fs) p (names_of m bs) (rw map-append at f) in
      let outside = false_from_ne_true (covers p []) (λ c. omega (arith, ancestry_laws.ancestor_no_deeper p [] c, node_named fs n bs f)) in
      let root-part : cond (covers p []) r.own 0 ≡ 0 = rw outside in
      let own_part : part p n ≡ n.own = rw (ancestry_laws.reflexive p) in
      let front = parts_outside p fs beneath.2 in
      let in-run = parts_within p (take run bs) (rw take-map at beneath.0) in
      let after = parts_outside p (drop run bs) (rw drop-map at beneath.1) in
      let whole = sum_of_owns (λ x. cond (covers p x.name) x.weight 0) r (fs ++ n ∷ bs) in
      omega (arith, whole, root-part, own_part, front, in-run, after, sum_by-append (part p) fs (n ∷ bs), sum_by-cons (part p) n bs, sum_by-take-drop (part p) bs run)

  pub owns_total : (r : Root) (ns : List (Node K)) → total_of (owns m (record { root = r; nodes = ns })) ≡ r.own + own_sum ns
  owns_total = sum_of_owns (λ x. x.weight)

  pub subtree_root : (r : Root) (ns : List (Node K)) → Formed (names_of m ns) → subtree m (record { root = r; nodes = ns }) [] ≡ r.own + run_count m 0 ns
  subtree_root r ns f =
      rw (take_all (run_of 0 (names_of m ns)) ns (omega (arith, run_of_all (names_of m ns) (names_of m ns) f.placed, length-map ns (name_at m)))) (owns_total r ns)
