-- Where an add makes its nodes: all that are missing in one place of the table, from one ceiling.
use Rattle.std.proofs.Common.{◌≡◌, ℕ, zero, suc, ◌-◌, ◌<◌, ◌≤◌, true, false, cond, List, [], ◌∷◌, ◌++◌, length, take, drop, Some, sym, refl, ap, ◌∙◌, inl, inr, one-add, arith}
use Rattle.std.specs.List.{AllByRecursion}
use Rattle.std.proofs.ByRecursion.{All-append}
use Rattle.std.proofs.lemmas.Bool.{cases_Bool, or_parts, cond-true, cond-false}
use Rattle.std.proofs.lemmas.List.{append_assoc, map-append, take-append-drop, take_all, take-take, length-take-le}
use Rattle.prefix.specs.Name.{Name}
use Rattle.prefix.specs.Meaning.{Meaning}
use Rattle.prefix.proofs.Names.{ancestry_laws, name_refl}
use Rattle.model.specs.declared.Node.{Node}
use Rattle.model.specs.State.{Tree}
use Rattle.model.specs.Summary.{among, missing_up, name_at, names_of, node_of, ceiling_up, fresh, insert, made}
use Rattle.model.specs.Sound.{Formed}
use Rattle.model.specs.Table.{count_before, lineage}
use Rattle.model.proofs.Among.{among-append, present_from_among}
use Rattle.model.proofs.Names.{none_missing, missing_together}
use Rattle.model.proofs.Nodes.{no_node, node_behind, Earlier, not_among_earlier, front_earlier, rest_stops, insert_between}
use Rattle.model.proofs.Lineages.{ancestors_earlier}

-- new nodes in one place of a tree
abbrev lengthened : {K : Type 0} → Tree K → ℕ → List (Node K) → Tree K
lengthened t at new = record { root = t.root; nodes = take at t.nodes ++ (new ++ drop at t.nodes) }

lengthened_none : {K : Type 0} (t : Tree K) (at : ℕ) → lengthened t at [] ≡ t
lengthened_none t at = rw (take-append-drop at t.nodes)

module _ {K : Type 0} (m : Meaning K) where
  -- the last node that `made` makes, for a key of one step more than d
  abbrev pub extended : K → ℕ → Tree K → Tree K
  extended k d up =
      cond (among (names_of m up.nodes) (m.name_of k)) up (record { root = up.root; nodes = insert m (fresh k (ceiling_up m up (m.name_of k) d)) up.nodes })

  -- NEW NODES IN ONE PLACE

  parts_apart : (ns : List (Node K)) (at : ℕ) (p : Name) → among (names_of m ns) p ≡ false → (among (names_of m (take at ns)) p ≡ false) × (among (names_of m (drop at ns)) p ≡ false)
  parts_apart ns at p e = or_parts _ _ (rw (← among-append, ← map-append, take-append-drop) e)

  among_lengthened : (t : Tree K) (at : ℕ) (new : List (Node K)) (p : Name) → among (names_of m t.nodes) p ≡ false → AllByRecursion (Earlier m p) new → among (names_of m (lengthened t at new).nodes) p ≡ false
  among_lengthened t at new p e h =
      let old = parts_apart t.nodes at p e in
      rw (map-append, map-append, among-append, among-append, old.0, not_among_earlier m new p h, old.1)

  insert_lengthened : (t : Tree K) (new : List (Node K)) (n : Node K) → AllByRecursion (Earlier m (name_at m n)) new →
      let at : ℕ = count_before (names_of m t.nodes) (name_at m n) in
      insert m n (lengthened t at new).nodes ≡ (lengthened t at (new ++ n ∷ [])).nodes
  insert_lengthened t new n h =
      let p = name_at m n in
      let at = count_before (names_of m t.nodes) p in
      let fs = take at t.nodes in
      let bs = drop at t.nodes in
      let inserted = insert_between m n (fs ++ new) bs (All-append (Earlier m p) fs new (front_earlier m t.nodes p) h) (rest_stops m t.nodes p) in
      rw (append_assoc new (n ∷ []) bs) (rw (append_assoc fs new bs, append_assoc fs new (n ∷ bs)) at inserted)

  last_found : (t : Tree K) (at : ℕ) (k : K) (c j : ℕ) → among (names_of m t.nodes) (m.name_of k) ≡ false → 0 < length (m.name_of k) → node_of m (lengthened t at (lineage m k c (suc j))).nodes (m.name_of k) ≡ Some (fresh k c)
  last_found t at k c j e h =
      let p = m.name_of k in
      let fs = take at t.nodes in
      let bs = drop at t.nodes in
      let up = lineage m (m.parent_of k) c j in
      let front = node_behind m fs ((up ++ fresh k c ∷ []) ++ bs) p (parts_apart t.nodes at p e).0 in
      let ancestors = node_behind m up (fresh k c ∷ bs) p (not_among_earlier m up p (ancestors_earlier m k c j h)) in
      rw (front, append_assoc up (fresh k c ∷ []) bs, ancestors, name_refl p)

  -- FOR THE FRONT PARTS OF ONE NAME

  ceiling_of_front : (t : Tree K) (p : Name) (d i : ℕ) → i ≤ d → ceiling_up m t (take d p) i ≡ ceiling_up m t p i
  ceiling_of_front t p d zero h = refl
  ceiling_of_front t p d (suc i) h = rw (take-take (suc i) d p h, ceiling_of_front t p d i (omega arith))

  module _ (t : Tree K) (f : Formed (names_of m t.nodes)) (p : Name) where
    abbrev qs : List Name
    qs = names_of m t.nodes

    -- where p is or would be
    abbrev at : ℕ
    at = count_before qs p

    -- the tree with the missing nodes of p's front parts of 1 to d steps, for the key of the longest
    abbrev filled : K → ℕ → Tree K
    filled k d = lengthened t at (lineage m k (ceiling_up m t p d) (missing_up qs p d))

    filled_none : (k : K) (d : ℕ) → missing_up qs p d ≡ 0 → filled k d ≡ t
    filled_none k d e = rw e (lengthened_none t at)

    none_to : (d : ℕ) → suc d ≤ length p → among qs (take (suc d) p) ≡ true → missing_up qs p (suc d) ≡ 0
    none_to d h e = none_missing qs f p (suc d) h (present_from_among qs (take (suc d) p) e)

    filled_more : (k : K) (d : ℕ) → among qs (take (suc d) p) ≡ false → filled k (suc d) ≡ lengthened t at (lineage m k (ceiling_up m t p d) (suc (missing_up qs p d)))
    filled_more k d e = rw (e, no_node m t.nodes (take (suc d) p) e, one-add)

    -- the key's own ceiling if its node was made, and else nothing was
    filled_ceiling : (k : K) (d : ℕ) → d ≤ length p → m.name_of k ≡ take d p → ceiling_up m (filled k d) p d ≡ ceiling_up m t p d
    filled_ceiling k zero h e = refl
    filled_ceiling k (suc d) h e =
        elim (cases_Bool (among qs (take (suc d) p))) [
          | inl there ↦ ap (λ u. ceiling_up m u p (suc d)) (filled_none k (suc d) (none_to d h there))
          | inr gone ↦
              let found = last_found t at k (ceiling_up m t p d) (missing_up qs p d) (rw e gone) (rw e (omega (arith, length-take-le (suc d) p h))) in
              ap (λ u. ceiling_up m u p (suc d)) (filled_more k d gone) ∙ rw (rw e at found, no_node m t.nodes (take (suc d) p) gone)
        ]

    parent_front : (k : K) (d : ℕ) → suc d ≤ length p → m.name_of k ≡ take (suc d) p → m.name_of (m.parent_of k) ≡ take d p
    parent_front k d h e =
        let level : length (take (suc d) p) - 1 ≡ d = omega (arith, length-take-le (suc d) p h) in
        rw (m.parent_named k, e, ancestry_laws.parent_is_front (take (suc d) p), level, take-take d (suc d) p (omega arith))

    -- one more node, if the key's is missing
    filled_next : (k : K) (d : ℕ) → suc d ≤ length p → m.name_of k ≡ take (suc d) p → extended k d (filled (m.parent_of k) d) ≡ filled k (suc d)
    filled_next k d h e =
        let q = m.name_of k in
        let up = filled (m.parent_of k) d in
        elim (cases_Bool (among qs (take (suc d) p))) [
          | inl there ↦
              let none = none_to d h there in
              ap (extended k d) (filled_none (m.parent_of k) d (omega (arith, none))) ∙ cond-true (among qs q) t _ (rw e there) ∙ sym (filled_none k (suc d) none)
          | inr missing ↦
              let gone : among qs q ≡ false = rw e missing in
              let named : 0 < length q = rw e (omega (arith, length-take-le (suc d) p h)) in
              let c = ceiling_up m t p d in
              let new = lineage m (m.parent_of k) c (missing_up qs p d) in
              let earlier = ancestors_earlier m k c (missing_up qs p d) named in
              let together = missing_together qs f q p gone named (rw e (ancestry_laws.front_covers (suc d) p)) in
              let ceiling : ceiling_up m up q d ≡ c = rw (e, ceiling_of_front up p (suc d) d (omega arith)) (filled_ceiling (m.parent_of k) d (omega arith) (parent_front k d h e)) in
              cond-false (among (names_of m up.nodes) q) _ _ (among_lengthened t at new q gone earlier)
              ∙ ap (λ (i : ℕ). record { root = t.root; nodes = insert m (fresh k i) up.nodes }) ceiling
              ∙ ap (λ (ns : List (Node K)). record { root = t.root; nodes = ns }) (rw together at (insert_lengthened t new (fresh k c) earlier))
              ∙ sym (filled_more k d missing)
        ]

    made_filled : (d : ℕ) (k : K) → d ≤ length p → m.name_of k ≡ take d p → made m t k d ≡ filled k d
    made_filled zero k h e = sym (lengthened_none t at)
    made_filled (suc d) k h e = ap (extended k d) (made_filled d (m.parent_of k) (omega arith) (parent_front k d h e)) ∙ filled_next k d h e

  -- all missing nodes are made in one place, from one ceiling
  pub made_shape : (t : Tree K) (k : K) → Formed (names_of m t.nodes) →
      let p : Name = m.name_of k in
      let at : ℕ = count_before (names_of m t.nodes) p in
      made m t k (length p) ≡ record { root = t.root; nodes = take at t.nodes ++ (lineage m k (ceiling_up m t p (length p)) (missing_up (names_of m t.nodes) p (length p)) ++ drop at t.nodes) }
  made_shape t k f =
      let p = m.name_of k in
      made_filled t f p (length p) k (omega arith) (sym (take_all (length p) p (omega arith)))
