-- What a summary's calls come to, from what the functions under them promise.
use Rattle.std.proofs.Common.{⊎_elim, nat_le, ◌≡◌, ℕ, ◌+◌, ◌-◌, ◌<◌, ◌≤◌, true, false, List, length, Some, None, Option, Ok, Err, sym, ap, ◌∙◌, subst, div-le_self, arith}
use Rattle.std.proofs.lemmas.List.{length-take-le}
use Rattle.std.specs.Bool.{then_some}
use Rattle.std.proofs.lemmas.Bool.{cases_lt, lt-leb, le-leb}
use Rattle.refusal.specs.declared.Refusal.TheVariants.{KeyNotValid, TotalTooLarge, NoFreeSlot}
use Rattle.prefix.specs.Meaning.{Meaning}
use Rattle.model.specs.declared.Node.{Node}
use Rattle.model.specs.declared.Root.{Root}
use Rattle.model.specs.State.{state_tree, Tree, State, error, largest_total}
use Rattle.model.specs.Summary.{names_of, swept_tree, swept, sweep_answer, has_room_for, roomy, counted, settled, added, add_answer, bounds_of, bounds_answer}
use Rattle.model.specs.Sound.{Formed, SoundTree, Sound}
use Rattle.model.specs.Answers.{Defined, Sweeps}
use Rattle.model.proofs.Folding.{swept_sound}
use Rattle.model.proofs.Adding.{counted_sound, roomy_sound, settled_sound}
use Rattle.model.proofs.Calls.{add_not_valid, add_no_weight, add_too_much, add_no_slot, add_counts, room_now, room_swept, roomy_total, roomy_error, room_from, no_room_from, settled_swept, settled_same, bounds_valid, bounds_not_valid}
use Rattle.table.specs.declared.lookup.Ancestry.{Ancestry}
use Rattle.table.specs.Ancestors.{Ancestors}
use Rattle.summary.specs.declared.counting.Summary.TheInside.{Inside}
use Rattle.summary.specs.View.{view_of, UsesItsSlots}
use Rattle.summary.specs.Room.{Fits, FindsRoom}

-- as many slots are in use as nodes are stored
pub used_is : {K : Type 0} (i : Inside K) (s : State K) → view_of i ≡ s → UsesItsSlots i → i.used ≡ length s.nodes
used_is i s seen within =
    sym (length-take-le i.used i.nodes.now (omega (arith, within))) ∙ ap (λ (t : State _). length t.nodes) seen

module _ {K : Type 0} (m : Meaning K) (s : State K) where
  pub error_small : Sound m s → error s ≤ largest_total
  error_small sound = omega (arith, div-le_self s.total s.width, sound.tree_sound.total_small)

  -- SWEEP

  pub sweep_defined : (after : State K) (t : Tree K) (e used kept : ℕ) → t ≡ state_tree s → e ≡ error s → Sweeps s after (used - kept) → used ≡ length s.nodes → kept ≤ used → ((total : ℕ) → SoundTree m total e t → e ≤ largest_total → state_tree after ≡ swept_tree m e t) → Sound m s → Defined m (sweep_answer m s) (swept m s) (used - kept) after
  unfolding swept sweep_answer
  sweep_defined after t e used kept same err always us ke value sound =
      let of_tree = subst (λ (x : Tree K). (total : ℕ) → SoundTree m total e x → e ≤ largest_total → state_tree after ≡ swept_tree m e x) same value in
      let of_error = subst (λ x. (total : ℕ) → SoundTree m total x (state_tree s) → x ≤ largest_total → state_tree after ≡ swept_tree m x (state_tree s)) err of_tree in
      let tree : (state_tree after) ≡ swept_tree m (error s) (state_tree s) = of_error s.total sound.tree_sound (error_small sound) in
      let w = always.table.width_same in
      let sh = always.table.share_same in
      let sl = always.table.slots_same in
      let to = always.total_same in
      let state : ◌≡◌ {A = State K} (record { width = after.width; share = after.share; slots = after.slots; total = after.total; root_own = after.root_own; root_ceiling = after.root_ceiling; nodes = after.nodes }) (swept m s) = cc in
      let count = ap (λ (t : Tree K). length t.nodes) tree in
      record {
        answer_is = omega (arith, us, always.fewer, count);
        state_is = state;
        stays_sound = subst (Sound m) (sym state) (swept_sound m s sound);
      }

  -- ROOM

  -- what a climb among the stored nodes finds
  pub known_here : (k : K) (a : Ancestry) (stored : List (Node K)) (root : Root) → stored ≡ s.nodes → root.ceiling ≡ s.root_ceiling → (Formed (names_of m stored) → (r : Root) → r.ceiling ≡ root.ceiling → Ancestors m stored k r a) → Formed (names_of m s.nodes) → Ancestors m s.nodes k (state_tree s).root a
  known_here k a stored root same ceiling known =
      let here = subst (λ (ns : List (Node K)). Formed (names_of m ns) → (r : Root) → r.ceiling ≡ root.ceiling → Ancestors m ns k r a) same known in
      λ f. here f (state_tree s).root (sym ceiling)

  pub fits : (k : K) (a : Ancestry) (free : ℕ) → free ≡ s.slots - length s.nodes → Ancestors m s.nodes k (state_tree s).root a → Fits m s k (then_some (nat_le a.missing free) a)
  fits k a free size known =
      ⊎_elim
      (λ full. subst (λ b. Fits m s k (then_some b a)) (sym (lt-leb a.missing free full)) (no_room_from m s k (omega (arith, known.missing_is))))
      (λ enough. subst (λ b. Fits m s k (then_some b a)) (sym (le-leb a.missing free enough)) (room_from m s k (omega (arith, known.missing_is)), known))
      (cases_lt free a.missing)

  pub room_at_once : (k : K) (a : Ancestry) → (Formed (names_of m s.nodes) → Fits m s k (Some a)) → Sound m s → FindsRoom m s k s (Some a)
  room_at_once k a known sound =
      let fits = known sound.tree_sound.formed in
      record { state_is = sym (room_now m s k fits.0); answer_is = fits }

  pub room_after_sweep : (k : K) (r : Option Ancestry) (after : State K) (folded : ℕ) → (Formed (names_of m s.nodes) → Fits m s k None) → (Sound m s → Defined m (sweep_answer m s) (swept m s) folded after) → (Formed (names_of m after.nodes) → Fits m after k r) → Sound m s → FindsRoom m s k after r
  room_after_sweep k r after folded full sweep known sound =
      let swept_is = sweep sound in
      record {
        state_is = swept_is.state_is ∙ sym (room_swept m s k (full sound.tree_sound.formed));
        answer_is = known swept_is.stays_sound.tree_sound.formed;
      }

  -- ADD

  module _ (k : K) (w : ℕ) where
    -- the state is as it was
    module _ (after : State K) (same : after ≡ s) where
      as_it_was : added m s k w ≡ s → Sound m s → (after ≡ added m s k w) × Sound m after
      as_it_was e sound = (same ∙ sym e, subst (Sound m) (sym same) sound)

      pub add_key_refused : m.is_valid k ≡ false → Sound m s → Defined m (add_answer m s k w) (added m s k w) (Err KeyNotValid) after
      add_key_refused v sound =
          let h = add_not_valid m s k w v in
          let g = as_it_was h.1 sound in record { answer_is = sym h.0; state_is = g.0; stays_sound = g.1 }

      pub add_without_weight : (total : ℕ) → total ≡ s.total → m.is_valid k ≡ true → w ≡ 0 → Sound m s → Defined m (add_answer m s k w) (added m s k w) (Ok total) after
      add_without_weight total same_total v z sound =
          let h = add_no_weight m s k w v z in
          let g = as_it_was h.1 sound in
          record { answer_is = ap (λ (n : ℕ). Ok n) same_total ∙ sym h.0; state_is = g.0; stays_sound = g.1 }

      pub add_total_refused : m.is_valid k ≡ true → 0 < w → largest_total < s.total + w → Sound m s → Defined m (add_answer m s k w) (added m s k w) (Err TotalTooLarge) after
      add_total_refused v p l sound =
          let h = add_too_much m s k w v p l in
          let g = as_it_was h.1 sound in record { answer_is = sym h.0; state_is = g.0; stays_sound = g.1 }

    module _ (v : m.is_valid k ≡ true) (p : 0 < w) (l : s.total + w ≤ largest_total) (mid : State K) where
      pub add_slot_refused : (Sound m s → FindsRoom m s k mid None) → Sound m s → Defined m (add_answer m s k w) (added m s k w) (Err NoFreeSlot) mid
      add_slot_refused found sound =
          let f = found sound in
          let none = subst (λ (t : State K). has_room_for m t k ≡ false) f.state_is f.answer_is in
          let h = add_no_slot m s k w v p l none in
          record {
            answer_is = sym h.0;
            state_is = f.state_is ∙ sym h.1;
            stays_sound = subst (Sound m) (sym f.state_is) (roomy_sound m s k sound);
          }

      pub add_counted : (a : Ancestry) (next after : State K) (total e : ℕ) → total ≡ s.total + w → e ≡ error mid → (Sound m s → FindsRoom m s k mid (Some a)) → (Sound m mid → Ancestors m mid.nodes k (state_tree mid).root a → m.is_valid k ≡ true → 0 < w → total ≡ mid.total + w → total ≤ largest_total → next ≡ counted m mid k w) → (Sound m next → after ≡ settled m e next) → Sound m s → Defined m (add_answer m s k w) (added m s k w) (Ok total) after
      add_counted a next after total e sum err found count settle sound =
          let f = found sound in
          let mid-sound = subst (Sound m) (sym f.state_is) (roomy_sound m s k sound) in
          let room = subst (λ (t : State K). has_room_for m t k ≡ true) f.state_is f.answer_is.0 in
          let h = add_counts m s k w v p l room in
          let mid-total : mid.total ≡ s.total = ap (λ (t : State K). t.total) f.state_is ∙ roomy_total m s k in
          let mid-error : e ≡ error s = err ∙ ap error f.state_is ∙ roomy_error m s k in
          let counts = count mid-sound f.answer_is.1 v p (omega arith) (omega arith) in
          let next-sound = subst (Sound m) (sym counts) (counted_sound m mid k w mid-sound v p (omega arith) f.answer_is.0) in
          let state : after ≡ added m s k w = settle next-sound ∙ ap (settled m e) (counts ∙ ap (λ (t : State K). counted m t k w) f.state_is) ∙ ap (λ x. settled m x (counted m (roomy m s k) k w)) mid-error ∙ sym h.1 in
          record {
            answer_is = ap (λ (n : ℕ). Ok n) sum ∙ sym h.0;
            state_is = state;
            stays_sound = subst (Sound m) (sym (settle next-sound)) (settled_sound m e next next-sound);
          }

  -- BOUNDS

  module _ (k : K) (after : State K) (same : after ≡ s) where
    pub bounds_refused : m.is_valid k ≡ false → Sound m s → Defined m (bounds_answer m s k) s (Err KeyNotValid) after
    bounds_refused v sound =
        record { answer_is = sym (bounds_not_valid m s k v); state_is = same; stays_sound = subst (Sound m) (sym same) sound }

    pub bounds_answered : (t : Tree K) (r : ℕ × ℕ) → t ≡ state_tree s → m.is_valid k ≡ true → ((total e : ℕ) → SoundTree m total e t → e ≤ largest_total → r ≡ bounds_of m t (m.name_of k)) → Sound m s → Defined m (bounds_answer m s k) s (Ok (r.0, r.1)) after
    bounds_answered t r tree v value sound =
        let is : r ≡ bounds_of m (state_tree s) (m.name_of k) = subst (λ (x : Tree K). (total e : ℕ) → SoundTree m total e x → e ≤ largest_total → r ≡ bounds_of m x (m.name_of k)) tree value s.total (error s) sound.tree_sound (error_small sound) in
        record {
          answer_is = ap (λ (x : ℕ × ℕ). Ok x) is ∙ sym (bounds_valid m s k v);
          state_is = same;
          stays_sound = subst (Sound m) (sym same) sound;
        }

module _ {K : Type 0} (m : Meaning K) (e : ℕ) (s after : State K) where
  pub settle_sweeps : (r x : ℕ) → x ≡ error s → e < x → (Sound m s → Defined m (sweep_answer m s) (swept m s) r after) → Sound m s → after ≡ settled m e s
  settle_sweeps r x err h sweep sound = (sweep sound).state_is ∙ sym (settled_swept m e s (omega arith))

  pub settle_stays : (x : ℕ) → x ≡ error s → x ≤ e → after ≡ s → after ≡ settled m e s
  settle_stays x err h same = same ∙ sym (settled_same m e s (omega arith))
