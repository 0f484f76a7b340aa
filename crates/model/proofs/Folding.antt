-- Folds and sweeps keep a tree sound, and make it no longer.
use Rattle.std.proofs.Common.{◌≡◌, ℕ, zero, suc, ◌+◌, ◌<◌, ◌≤◌, true, false, not, ◌&&◌, eqb, leb, List, [], ◌∷◌, ◌++◌, length, refl, ap, arith}
use Rattle.std.proofs.lemmas.List.{append_assoc, map-append}
use Rattle.std.proofs.ByRecursion.{All-weaker, All-append}
use Rattle.std.proofs.lemmas.List.Sums.{sum_by-cons, sum_by-append}
use Rattle.std.proofs.lemmas.Bool.{not-true, leb-true, and_parts, cond_both}
use Rattle.prefix.specs.Name.{Name, above, parent_name}
use Rattle.prefix.specs.Meaning.{Meaning}
use Rattle.prefix.proofs.Names.{ancestry_laws, name_same}
use Rattle.model.specs.declared.Node.{Node}
use Rattle.model.specs.declared.Root.{Root}
use Rattle.model.specs.State.{state_tree, Tree, State, error}
use Rattle.model.specs.Summary.{is_present, any_beneath, name_at, names_of, handed, removed, folded, is_foldable, folded_among, folded_from, swept}
use Rattle.model.specs.Sound.{Formed, Stands, SoundTree, Sound}
use Rattle.model.specs.Table.{own_sum}
use Rattle.model.proofs.Among.{among_left, present_if, all_parts}
use Rattle.model.proofs.Names.{any_from, any-append, parent_earlier}
use Rattle.model.proofs.Changes.{leaf_goes}
use Rattle.model.proofs.Nodes.{removed_at, taken_front}
use Rattle.model.proofs.Counts.{owns_total}
use Rattle.model.proofs.Handing.{length-handed, Ready, handed_sound, tree_of}

-- more nodes behind those of a tree
abbrev pub followed : {K : Type 0} → Tree K → List (Node K) → Tree K
followed t ns = record { root = t.root; nodes = t.nodes ++ ns }

-- NAMES

-- the root lies beneath nothing
beneath_present : (x p : Name) (qs : List Name) → above x p ≡ true → is_present qs p ≡ true → any_beneath x qs ≡ true
beneath_present x [] qs a h = absurd (omega (arith, ancestry_laws.above_is_shallower x [] a))
beneath_present x (s ∷ p) qs a h = any_from x qs (s ∷ p) h a

-- where something lay beneath x, and without q nothing does, x is q's parent: else the parent, which stays, lies beneath x
was_parent : (x : Name) (fs : List Name) (q : Name) (bs : List Name) → is_present (fs ++ bs) (parent_name q) ≡ true → any_beneath x (fs ++ q ∷ bs) ≡ true → any_beneath x (fs ++ bs) ≡ false → x ≡ parent_name q
was_parent x fs q bs p h g =
    let beneath : above x q ≡ true = grind (arith, any-append x fs (q ∷ bs), any-append x fs bs) in
    let near = ancestry_laws.parent_nearest x q beneath in
    grind (arith, name_same x (parent_name q), beneath_present x (parent_name q) (fs ++ bs))

module _ {K : Type 0} (m : Meaning K) where
  handed_front : (own load : ℕ) (p : Name) (r : Root) (fs bs : List (Node K)) → is_present (names_of m fs) p ≡ true → handed m own load p (tree_of r (fs ++ bs)) ≡ followed (handed m own load p (tree_of r fs)) bs
  handed_front own load [] r fs bs h = refl
  handed_front own load (s ∷ p) r fs bs h = ap (tree_of r) (taken_front m own load (s ∷ p) fs bs h)

  -- LENGTHS

  removed_no_longer : (p : Name) (ns : List (Node K)) → length (removed m p ns) ≤ length ns
  removed_no_longer p [] = omega arith
  removed_no_longer p (n ∷ ns) = grind (arith, removed_no_longer p ns)

  folded_no_longer : (t : Tree K) (n : Node K) → length (folded m t n).nodes ≤ length t.nodes
  folded_no_longer t n = omega (arith, length-handed m, removed_no_longer)

  level_no_longer : (e level : ℕ) (ns : List (Node K)) (t : Tree K) → length (folded_among m e level ns t).nodes ≤ length t.nodes
  level_no_longer e level [] t = omega arith
  level_no_longer e level (n ∷ ns) t =
      grind (arith, level_no_longer e level ns (folded m t n), folded_no_longer t n, level_no_longer e level ns t)

  levels_no_longer : (e level : ℕ) (t : Tree K) → length (folded_from m e level t).nodes ≤ length t.nodes
  levels_no_longer e zero t = omega arith
  levels_no_longer e (suc level) t =
      let after = folded_among m e (suc level) t.nodes t in
      omega (arith, levels_no_longer e level after, level_no_longer e (suc level) t.nodes t)

-- FOLDS

module _ {K : Type 0} (m : Meaning K) (total e : ℕ) where
  parent_before : (fs : List (Node K)) (n : Node K) (bs : List (Node K)) → Formed (names_of m (fs ++ n ∷ bs)) → is_present (names_of m fs) (parent_name (name_at m n)) ≡ true
  parent_before fs n bs f = parent_earlier (names_of m fs) (name_at m n) (names_of m bs) (rw map-append at f)

  -- a fold happens before the node that goes: at its parent there, or at the root
  pub fold_shape : (r : Root) (fs : List (Node K)) (n : Node K) (bs : List (Node K)) → SoundTree m total e (tree_of r (fs ++ n ∷ bs)) → folded m (tree_of r (fs ++ n ∷ bs)) n ≡ followed (handed m n.own (n.own + n.slack) (parent_name (name_at m n)) (tree_of r fs)) bs
  fold_shape r fs n bs s =
      let up = parent_name (name_at m n) in
      rw (removed_at m fs n bs s.formed.ordered) (handed_front m n.own (n.own + n.slack) up r fs bs (parent_before fs n bs s.formed))

  stays_ready : (before after : List Name) (n x : Node K) → 0 < n.own → (any_beneath (name_at m x) before ≡ true → any_beneath (name_at m x) after ≡ false → name_at m x ≡ parent_name (name_at m n)) → Stands m e before x → Ready m e after n.own (parent_name (name_at m n)) x
  stays_ready before after n x o up h = grind (arith, up, h.counted)

  pub fold_sound : (r : Root) (fs : List (Node K)) (n : Node K) (bs : List (Node K)) → SoundTree m total e (tree_of r (fs ++ n ∷ bs)) → is_foldable m e (tree_of r (fs ++ n ∷ bs)) n ≡ true → SoundTree m total e (folded m (tree_of r (fs ++ n ∷ bs)) n)
  fold_sound r fs n bs s f =
      let q = name_at m n in
      let up = parent_name q in
      let all = names_of m (fs ++ n ∷ bs) in
      let rest = names_of m (fs ++ bs) in
      let may = and_parts (not (any_beneath q all)) (leb (n.own + n.slack) e) f in
      let bare = not-true (any_beneath q all) may.0 in
      let small = leb-true (n.own + n.slack) e may.1 in
      let stands = all_parts (Stands m e all) fs (n ∷ bs) s.stands in
      let sum = sum_by-append (λ (x : Node K). x.own) fs in
      let formed = leaf_goes (names_of m fs) q (names_of m bs) (rw map-append at s.formed) (rw map-append at bare) in
      let there = present_if (names_of m fs) (names_of m fs ++ names_of m bs) up (among_left (names_of m fs) (names_of m bs) up) (parent_before fs n bs s.formed) in
      let ready =
      All-weaker (Stands m e all) (Ready m e rest n.own up)
      (λ x. stays_ready all rest n x (stands.1.0.counted bare) (λ h g. was_parent (name_at m x) (names_of m fs) q (names_of m bs) there (rw map-append at h) (rw map-append at g)))
      (fs ++ bs) (All-append (Stands m e all) fs bs stands.0 stands.1.1) in
      let adds : r.own + own_sum (fs ++ bs) + n.own ≡ total =
      omega (arith, owns_total m r (fs ++ n ∷ bs), s.adds_up, sum (n ∷ bs), sum bs, sum_by-cons (λ (x : Node K). x.own) n bs) in
      rw (removed_at m fs n bs s.formed.ordered)
      (handed_sound m total e n.own (n.own + n.slack) small up r (fs ++ bs) (rw map-append formed) (rw map-append there) ready s.root_small adds s.total_small)

  pub level_sound : (level : ℕ) (r : Root) (fs bs : List (Node K)) → SoundTree m total e (tree_of r (fs ++ bs)) → SoundTree m total e (folded_among m e level bs (tree_of r (fs ++ bs)))
  level_sound level r fs [] s = s
  level_sound level r fs (n ∷ bs) s =
      let t = tree_of r (fs ++ n ∷ bs) in
      let here = eqb (length (name_at m n)) level in
      let Holds : Tree K → Type 0 = λ u. SoundTree m total e (folded_among m e level bs u) in
      cond_both (here && is_foldable m e t n) (folded m t n) t Holds
      (λ c.
      let after = handed m n.own (n.own + n.slack) (parent_name (name_at m n)) (tree_of r fs) in
      let shape = fold_shape r fs n bs s in
      rw shape (level_sound level after.root after.nodes bs (rw shape at (fold_sound r fs n bs s (and_parts here (is_foldable m e t n) c).1))))
      (λ c.
      let same = append_assoc fs (n ∷ []) bs in
      rw same at (level_sound level r (fs ++ n ∷ []) bs (rw same s)))

  levels_sound : (level : ℕ) (t : Tree K) → SoundTree m total e t → SoundTree m total e (folded_from m e level t)
  levels_sound zero t s = s
  levels_sound (suc level) t s =
      levels_sound level (folded_among m e (suc level) t.nodes t) (level_sound (suc level) t.root [] t.nodes s)

pub swept_sound : {K : Type 0} (m : Meaning K) (s : State K) → Sound m s → Sound m (swept m s)
unfolding swept
swept_sound m s h =
    record {
      tree_sound = levels_sound m s.total (error s) m.depth (state_tree s) h.tree_sound;
      room = omega (arith, levels_no_longer m (error s) m.depth (state_tree s), h.room);
    }
