-- Lists of nodes whose names are in order: which node a prefix has, and what taking over, removing and inserting make of them.
use Rattle.std.proofs.Common.{◌≡◌, ℕ, ◌+◌, true, false, List, [], ◌∷◌, ◌++◌, take, drop, sum_by, Some, None, refl, arith}
use Rattle.std.specs.List.{AllByRecursion}
use Rattle.std.proofs.ByRecursion.{All-append, All-take, All-drop}
use Rattle.std.proofs.lemmas.List.{map-append, take-append-drop, take-map, drop-map}
use Rattle.std.proofs.lemmas.List.Sums.{sum_by-append, sum_by-cons, sum_by-take-drop}
use Rattle.std.proofs.lemmas.Bool.{false≢true}
use Rattle.prefix.specs.Name.{Name, same_name, name_before}
use Rattle.prefix.specs.Meaning.{Meaning}
use Rattle.prefix.proofs.Names.{name_refl}
use Rattle.model.specs.declared.Node.{Node}
use Rattle.model.specs.Summary.{among, any_beneath, name_at, names_of, node_of, took, taken, removed, insert}
use Rattle.model.specs.Sound.{Sorted}
use Rattle.model.specs.Table.{count_before}
use Rattle.model.proofs.Among.{earlier_other, all_among, among_middle}
use Rattle.model.proofs.Names.{prefix_len-map, Stops, leading_passes, leading_stops, any-append}

module _ {K : Type 0} (m : Meaning K) where
  -- LOOK-UPS

  -- an earlier node has another name
  earlier_node : (f : Node K) (fs : List (Node K)) (n : Node K) (bs : List (Node K)) → Sorted (names_of m (f ∷ (fs ++ n ∷ bs))) → same_name (name_at m f) (name_at m n) ≡ false
  earlier_node f fs n bs s =
      let there = rw (← map-append (name_at m) fs (n ∷ bs)) at (among_middle (names_of m fs) (name_at m n) (names_of m bs)) in
      earlier_other (name_at m f) (name_at m n) (all_among (λ q. name_before (name_at m f) q ≡ true) (names_of m (fs ++ n ∷ bs)) (name_at m n) s.0 there)

  pub node_at : (fs : List (Node K)) (n : Node K) (bs : List (Node K)) → Sorted (names_of m (fs ++ n ∷ bs)) → node_of m (fs ++ n ∷ bs) (name_at m n) ≡ Some n
  node_at [] n bs s = rw name_refl
  node_at (f ∷ fs) n bs s = rw (earlier_node f fs n bs s) (node_at fs n bs s.1)

  pub no_node : (ns : List (Node K)) (p : Name) → among (names_of m ns) p ≡ false → node_of m ns p ≡ None
  no_node [] p e = refl
  no_node (n ∷ ns) p e = grind (arith, no_node ns p)

  pub node_behind : (fs bs : List (Node K)) (p : Name) → among (names_of m fs) p ≡ false → node_of m (fs ++ bs) p ≡ node_of m bs p
  node_behind [] bs p e = refl
  node_behind (n ∷ fs) bs p e = grind (arith, node_behind fs bs p)

  -- REMOVING AND TAKING OVER

  pub removed_at : (fs : List (Node K)) (n : Node K) (bs : List (Node K)) → Sorted (names_of m (fs ++ n ∷ bs)) → removed m (name_at m n) (fs ++ n ∷ bs) ≡ fs ++ bs
  removed_at [] n bs s = rw name_refl
  removed_at (f ∷ fs) n bs s = rw (earlier_node f fs n bs s, removed_at fs n bs s.1)

  pub taken_at : (own load : ℕ) (fs : List (Node K)) (n : Node K) (bs : List (Node K)) → Sorted (names_of m (fs ++ n ∷ bs)) → taken m own load (name_at m n) (fs ++ n ∷ bs) ≡ fs ++ took own load n ∷ bs
  taken_at own load [] n bs s = rw name_refl
  taken_at own load (f ∷ fs) n bs s = rw (earlier_node f fs n bs s, taken_at own load fs n bs s.1)

  pub taken_front : (own load : ℕ) (p : Name) (fs bs : List (Node K)) → among (names_of m fs) p ≡ true → taken m own load p (fs ++ bs) ≡ taken m own load p fs ++ bs
  taken_front own load p [] bs e = absurd (false≢true e)
  taken_front own load p (f ∷ fs) bs e = grind (arith, taken_front own load p fs bs)

  pub names_taken : (own load : ℕ) (p : Name) (ns : List (Node K)) → names_of m (taken m own load p ns) ≡ names_of m ns
  names_taken own load p [] = refl
  names_taken own load p (n ∷ ns) = grind (arith, names_taken own load p ns)

  -- INSERTING

  -- its name comes before p
  abbrev pub Earlier : Name → Node K → Type 0
  Earlier p n = name_before (name_at m n) p ≡ true

  -- where p is or would be: behind all that come before it
  abbrev pub place : List (Node K) → Name → ℕ
  place ns p = count_before (names_of m ns) p

  pub not_among_earlier : (ns : List (Node K)) (p : Name) → AllByRecursion (Earlier p) ns → among (names_of m ns) p ≡ false
  not_among_earlier [] p h = refl
  not_among_earlier (n ∷ ns) p h = rw (earlier_other (name_at m n) p h.0) (not_among_earlier ns p h.1)

  pub front_earlier : (ns : List (Node K)) (p : Name) → AllByRecursion (Earlier p) (take (place ns p) ns)
  front_earlier ns p = rw prefix_len-map (leading_passes (λ n. name_before (name_at m n) p) ns)

  pub insert_between : (n : Node K) (fs bs : List (Node K)) → AllByRecursion (Earlier (name_at m n)) fs → Stops (λ x. name_before (name_at m x) (name_at m n)) bs → insert m n (fs ++ bs) ≡ fs ++ n ∷ bs
  insert_between n [] [] h stop = refl
  insert_between n [] (b ∷ bs) h stop = rw stop
  insert_between n (f ∷ fs) bs h stop = rw (h.0, insert_between n fs bs h.1 stop)

  pub rest_stops : (ns : List (Node K)) (p : Name) → Stops (λ n. name_before (name_at m n) p) (drop (place ns p) ns)
  rest_stops ns p = rw prefix_len-map (leading_stops (λ n. name_before (name_at m n) p) ns)

  insert_at : (n : Node K) (ns : List (Node K)) → insert m n ns ≡ take (place ns (name_at m n)) ns ++ n ∷ drop (place ns (name_at m n)) ns
  insert_at n ns = rw take-append-drop at (insert_between n _ _ (front_earlier ns (name_at m n)) (rest_stops ns (name_at m n)))

  pub names_insert : (n : Node K) (ns : List (Node K)) →
      let qs : List Name = names_of m ns in
      let at : ℕ = count_before qs (name_at m n) in
      names_of m (insert m n ns) ≡ take at qs ++ name_at m n ∷ drop at qs
  names_insert n ns = rw (insert_at, map-append, take-map, drop-map)

  pub all_insert : (P : Node K → Type 0) (n : Node K) (ns : List (Node K)) → P n → AllByRecursion P ns → AllByRecursion P (insert m n ns)
  all_insert P n ns h k = rw insert_at (All-append P _ (n ∷ _) (All-take P _ ns k) (h, All-drop P _ ns k))

  pub sum_insert : (f : Node K → ℕ) (n : Node K) (ns : List (Node K)) → sum_by f (insert m n ns) ≡ f n + sum_by f ns
  sum_insert f n ns = rw insert_at (omega (arith, sum_by-append f, sum_by-cons f, sum_by-take-drop f ns (place ns (name_at m n))))

  -- what has nothing beneath it after an insertion had nothing before
  pub beneath_insert : (q : Name) (n : Node K) (ns : List (Node K)) → any_beneath q (names_of m (insert m n ns)) ≡ false → any_beneath q (names_of m ns) ≡ false
  beneath_insert q n ns e =
      let qs = names_of m ns in
      let at = count_before qs (name_at m n) in
      grind (arith, rw names_insert at e, any-append q (take at qs) (name_at m n ∷ drop at qs), any-append q (take at qs) (drop at qs), take-append-drop at qs)
