-- What the calls of a summary come to, case by case.
use Rattle.std.proofs.Common.{◌≡◌, ℕ, ◌+◌, ◌-◌, ◌<◌, ◌≤◌, true, false, eqb, length, Ok, Err, refl, arith}
use Rattle.std.proofs.lemmas.Bool.{cond_both, lt-ltb, le-ltb, ne_eqb, le-leb, lt-leb}
use Rattle.refusal.specs.declared.Refusal.TheVariants.{KeyNotValid, TotalTooLarge, NoFreeSlot}
use Rattle.prefix.specs.Meaning.{Meaning}
use Rattle.model.specs.State.{state_tree, State, error, largest_total}
use Rattle.model.specs.Summary.{missing, has_room_for, roomy, swept, counted, settled, added, add_answer, bounds_of, bounds_answer}

module _ {K : Type 0} (m : Meaning K) (s : State K) (k : K) (w : ℕ) where
  pub add_not_valid : m.is_valid k ≡ false → (add_answer m s k w ≡ Err KeyNotValid) × (added m s k w ≡ s)
  unfolding add_answer added
  add_not_valid v = (rw v, rw v)

  pub add_no_weight : m.is_valid k ≡ true → w ≡ 0 → (add_answer m s k w ≡ Ok s.total) × (added m s k w ≡ s)
  unfolding add_answer added
  add_no_weight v z = (rw (v, z), rw (v, z))

  module _ (v : m.is_valid k ≡ true) (p : 0 < w) where
    some : eqb w 0 ≡ false
    some = ne_eqb w 0 (λ z. omega arith)

    pub add_too_much : largest_total < s.total + w → (add_answer m s k w ≡ Err TotalTooLarge) × (added m s k w ≡ s)
    unfolding add_answer added
    add_too_much l = let h = lt-ltb largest_total (s.total + w) l in (rw (v, some, h), rw (v, some, h))

    pub add_no_slot : s.total + w ≤ largest_total → has_room_for m (roomy m s k) k ≡ false → (add_answer m s k w ≡ Err NoFreeSlot) × (added m s k w ≡ roomy m s k)
    unfolding add_answer added
    add_no_slot l r = let h = le-ltb largest_total (s.total + w) l in (rw (v, some, h, r), rw (v, some, h, r))

    pub add_counts : s.total + w ≤ largest_total → has_room_for m (roomy m s k) k ≡ true → (add_answer m s k w ≡ Ok (s.total + w)) × (added m s k w ≡ settled m (error s) (counted m (roomy m s k) k w))
    unfolding add_answer added
    add_counts l r = let h = le-ltb largest_total (s.total + w) l in (rw (v, some, h, r), rw (v, some, h, r))

module _ {K : Type 0} (m : Meaning K) (s : State K) (k : K) where
  pub room_now : has_room_for m s k ≡ true → roomy m s k ≡ s
  unfolding roomy
  room_now r = rw r

  pub room_swept : has_room_for m s k ≡ false → roomy m s k ≡ swept m s
  unfolding roomy
  room_swept r = rw r

  -- a sweep leaves the total, so the error too
  pub roomy_total : (roomy m s k).total ≡ s.total
  unfolding roomy swept
  roomy_total = cond_both (has_room_for m s k) s (swept m s) (λ x. x.total ≡ s.total) (λ _. refl) (λ _. refl)

  pub roomy_error : error (roomy m s k) ≡ error s
  unfolding roomy swept
  roomy_error = cond_both (has_room_for m s k) s (swept m s) (λ x. error x ≡ error s) (λ _. refl) (λ _. refl)

  pub room_from : missing m s k ≤ s.slots - length s.nodes → has_room_for m s k ≡ true
  unfolding has_room_for
  room_from = le-leb (missing m s k) (s.slots - length s.nodes)

  pub no_room_from : s.slots - length s.nodes < missing m s k → has_room_for m s k ≡ false
  unfolding has_room_for
  no_room_from = lt-leb (missing m s k) (s.slots - length s.nodes)

  pub bounds_valid : m.is_valid k ≡ true → bounds_answer m s k ≡ Ok (bounds_of m (state_tree s) (m.name_of k))
  unfolding bounds_answer
  bounds_valid v = rw v

  pub bounds_not_valid : m.is_valid k ≡ false → bounds_answer m s k ≡ Err KeyNotValid
  unfolding bounds_answer
  bounds_not_valid v = rw v

module _ {K : Type 0} (m : Meaning K) (e : ℕ) (s : State K) where
  pub settled_swept : e < error s → settled m e s ≡ swept m s
  unfolding settled
  settled_swept h = rw (lt-ltb e (error s) h)

  pub settled_same : error s ≤ e → settled m e s ≡ s
  unfolding settled
  settled_same h = rw (le-ltb e (error s) h)
