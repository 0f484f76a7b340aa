-- One walk over the nodes folds a level. The kept nodes, at the front, and those ahead are together the tree that the folds
-- so far made.
use Rattle.std.proofs.Common.{◌≡◌, ℕ, ◌+◌, ◌-◌, ◌<◌, ◌≤◌, Bool, true, false, cond, not, ◌&&◌, eqb, ltb, leb, ◌⊎◌, List, [], ◌∷◌, ◌++◌, length, get_or, take, drop, set, Some, Option, sym, refl, ap, ◌∙◌, subst, ⊎_elim, arith}
use Rattle.std.proofs.lemmas.List.{append-nil, append_assoc, length-take-le, take_at, take_more_set, drop_all, drop_more, drop-set-lt, get_or_default}
use Rattle.std.proofs.lemmas.Slice.{drop-append-drop}
use Rattle.std.proofs.lemmas.Bool.{and_from, and_left, and_right, lt-ltb, le-leb, lt-leb, eq-eqb, ne_eqb, cond-true, cond-false}
use Rattle.prefix.specs.Name.{Name}
use Rattle.prefix.specs.Meaning.{Meaning}
use Rattle.model.specs.declared.Node.{Node}
use Rattle.model.specs.declared.Root.{Root}
use Rattle.model.specs.State.{Tree, largest_total}
use Rattle.model.specs.Summary.{any_beneath, name_at, names_of, folded, is_foldable, folded_among}
use Rattle.model.specs.Table.{run_of}
use Rattle.model.specs.Sound.{Formed, SoundTree}
use Rattle.sweep.specs.Handing.{load_of, HandedUp}
use Rattle.model.proofs.Names.{starts_deeper, beneath_next}
use Rattle.model.proofs.Handing.{tree_of}
use Rattle.model.proofs.Folding.{fold_sound}
use Rattle.sweep.proofs.Parents.{ParentIs, parent_here, parent_before, parent_stays, handed_length, names_split, load_fits, folded_is}

-- with the kept nodes and those ahead: the tree is sound, and folding those ahead makes what folding all makes of the start
pub record Walked {K : Type 0} (m : Meaning K) (e level : ℕ) (start : Tree K) (total : ℕ) (r : Root) (fs ahead : List (Node K)) : Type 0 where
  pub sound : SoundTree m total e (tree_of r (fs ++ ahead))
  pub makes : folded_among m e level ahead (tree_of r (fs ++ ahead)) ≡ folded_among m e level start.nodes start

-- where the walk stands
pub record Walk {K : Type 0} (m : Meaning K) (e level : ℕ) (start : Tree K) (i kept : ℕ) (parent : Option ℕ) (r : Root) (nodes : List (Node K)) : Type 0 where
  pub behind : kept ≤ i
  pub last : ParentIs m (level - 1) (take kept nodes) parent
  pub walked : (total : ℕ) → SoundTree m total e start → e ≤ largest_total → Walked m e level start total r (take kept nodes) (drop i nodes)

-- the next node has more steps
abbrev pub deeper_next : {K : Type 0} → Meaning K → ℕ → List (Node K) → Bool
deeper_next m depth ns = ltb 0 (run_of depth (names_of m ns))

run_starts : (b : Bool) (k : ℕ) → b ≡ ltb 0 (cond b (1 + k) 0)
run_starts true k = sym (lt-ltb 0 (1 + k) (omega arith))
run_starts false k = refl

deeper_is : (l : ℕ) (qs : List Name) → starts_deeper l qs ≡ ltb 0 (run_of l qs)
deeper_is l [] = refl
deeper_is l (q ∷ qs) = run_starts (ltb l (length q)) (run_of l qs)

module _ {K : Type 0} (m : Meaning K) (ns : List (Node K)) where
  -- the answers about a node that was read

  pub steps_read : (i : ℕ) (n d : Node K) (steps : ℕ) → i < length ns → n ≡ get_or ns i n → steps ≡ length (name_at m (get_or ns i d)) → steps ≡ length (name_at m n)
  steps_read i n d steps within here e =
      e ∙ ap (λ (x : Node K). length (name_at m x)) (get_or_default ns i d n within ∙ sym here)

-- a reason for a node of so many steps and such a load to stay
abbrev pub Stays : {K : Type 0} → Meaning K → (e level depth load : ℕ) → List (Node K) → Type 0
Stays m e level depth load bs =
    (depth ≡ level → ⊥) ⊎ ((e < load) ⊎ (true ≡ deeper_next m depth bs))

-- what has to hold for it to go
pub record Goes {K : Type 0} (m : Meaning K) (e level depth load : ℕ) (bs : List (Node K)) : Type 0 where
  pub at_level : depth ≡ level
  pub light : load ≤ e
  pub bare : false ≡ deeper_next m depth bs

-- the parent after a node stayed: itself, if it is of the level above
abbrev pub Next : (level depth kept : ℕ) → Option ℕ → Option ℕ → Type 0
Next level depth kept p p' = ((depth ≡ level - 1) × (p' ≡ Some kept)) ⊎ ((depth ≡ level - 1 → ⊥) × (p' ≡ p))

module _ {K : Type 0} (m : Meaning K) (e level : ℕ) (start : Tree K) where
  -- ONE NODE

  foldable_is : (total : ℕ) (r : Root) (fs : List (Node K)) (n : Node K) (bs : List (Node K)) → SoundTree m total e (tree_of r (fs ++ n ∷ bs)) → e ≤ largest_total → is_foldable m e (tree_of r (fs ++ n ∷ bs)) n ≡ (not (deeper_next m (length (name_at m n)) bs) && leb (load_of n) e)
  foldable_is total r fs n bs s small =
      let q : Name = name_at m n in
      let split = names_split m fs n bs in
      let beneath : any_beneath q (names_of m (fs ++ n ∷ bs)) ≡ deeper_next m (length q) bs =
      ap (any_beneath q) split ∙ beneath_next (names_of m fs) q (names_of m bs) (subst Formed split s.formed) ∙ deeper_is (length q) (names_of m bs) in
      let load = load_fits m total e small r fs n bs s in
      ap (λ b. not b && leb (n.own + n.slack) e) beneath ∙ ap (λ k. not (deeper_next m (length q) bs) && leb k e) (sym load)

  -- whether the definition folds a node
  goes : Root → List (Node K) → Node K → List (Node K) → Bool
  goes r fs n bs = eqb (length (name_at m n)) level && is_foldable m e (tree_of r (fs ++ n ∷ bs)) n

  stays_so : (total : ℕ) (r : Root) (fs : List (Node K)) (n : Node K) (bs : List (Node K)) → SoundTree m total e (tree_of r (fs ++ n ∷ bs)) → e ≤ largest_total → Stays m e level (length (name_at m n)) (load_of n) bs → goes r fs n bs ≡ false
  unfolding goes
  stays_so total r fs n bs s small why =
      let q : Name = name_at m n in
      let here : Bool = eqb (length q) level in
      let bare : Bool = not (deeper_next m (length q) bs) in
      let is = foldable_is total r fs n bs s small in
      ap (λ b. here && b) is
      ∙ ⊎_elim
      (λ other. and_left here (bare && leb (load_of n) e) (ne_eqb (length q) level other))
      (λ rest.
      and_right here (bare && leb (load_of n) e)
      (⊎_elim
      (λ heavy. and_right bare (leb (load_of n) e) (lt-leb (load_of n) e heavy))
      (λ deeper. and_left bare (leb (load_of n) e) (ap not (sym deeper)))
      rest))
      why

  goes_so : (total : ℕ) (r : Root) (fs : List (Node K)) (n : Node K) (bs : List (Node K)) → SoundTree m total e (tree_of r (fs ++ n ∷ bs)) → e ≤ largest_total → Goes m e level (length (name_at m n)) (load_of n) bs → is_foldable m e (tree_of r (fs ++ n ∷ bs)) n ≡ true
  goes_so total r fs n bs s small why =
      foldable_is total r fs n bs s small
      ∙ and_from (not (deeper_next m (length (name_at m n)) bs)) (leb (load_of n) e) (ap not (sym why.bare)) (le-leb (load_of n) e why.light)

  walked_stays : (total : ℕ) (r : Root) (fs : List (Node K)) (n : Node K) (bs : List (Node K)) → e ≤ largest_total → Stays m e level (length (name_at m n)) (load_of n) bs → Walked m e level start total r fs (n ∷ bs) → Walked m e level start total r (fs ++ n ∷ []) bs
  unfolding goes
  walked_stays total r fs n bs small why w =
      let t : Tree K = tree_of r (fs ++ n ∷ bs) in
      let same : tree_of r ((fs ++ n ∷ []) ++ bs) ≡ t = ap (tree_of r) (append_assoc fs (n ∷ []) bs) in
      let left = cond-false (goes r fs n bs) (folded m t n) t (stays_so total r fs n bs w.sound small why) in
      record {
        sound = subst (SoundTree m total e) (sym same) w.sound;
        makes = ap (folded_among m e level bs) (same ∙ sym left) ∙ w.makes;
      }

  walked_goes : (total : ℕ) (r : Root) (fs : List (Node K)) (n : Node K) (bs : List (Node K)) (p : Option ℕ) (r' : Root) (fs' : List (Node K)) → e ≤ largest_total → 0 < level → Goes m e level (length (name_at m n)) (load_of n) bs → ParentIs m (level - 1) fs p → HandedUp p n r fs r' fs' → Walked m e level start total r fs (n ∷ bs) → Walked m e level start total r' fs' bs
  unfolding goes
  walked_goes total r fs n bs p r' fs' small deep why parent u w =
      let t : Tree K = tree_of r (fs ++ n ∷ bs) in
      let foldable = goes_so total r fs n bs w.sound small why in
      let is =
      folded_is m total e small (level - 1) r fs n bs p r' fs' w.sound (omega (arith, why.at_level)) parent u in
      let test = and_from (eqb (length (name_at m n)) level) (is_foldable m e t n) (eq-eqb (length (name_at m n)) level why.at_level) foldable in
      let left = cond-true (goes r fs n bs) (folded m t n) t test in
      record {
        sound = subst (SoundTree m total e) is (fold_sound m total e r fs n bs w.sound foldable);
        makes = ap (folded_among m e level bs) (sym (left ∙ is)) ∙ w.makes;
      }

  -- THE WALK

  -- the values after a turn, by what they are
  pub walk_at : (i kept kept' : ℕ) (p p' : Option ℕ) (r r' : Root) (nodes nodes' : List (Node K)) → kept' ≡ kept → p' ≡ p → r' ≡ r → nodes' ≡ nodes → Walk m e level start i kept p r nodes → Walk m e level start i kept' p' r' nodes'
  walk_at i kept kept' p p' r r' nodes nodes' a b c d w =
      subst (λ k. Walk m e level start i k p' r' nodes') (sym a)
      (subst (λ (o : Option ℕ). Walk m e level start i kept o r' nodes') (sym b)
      (subst (λ (x : Root). Walk m e level start i kept p x nodes') (sym c)
      (subst (λ (xs : List (Node K)). Walk m e level start i kept p r xs) (sym d) w)))

  module _ (i kept : ℕ) (p : Option ℕ) (r : Root) (nodes : List (Node K)) (w : Walk m e level start i kept p r nodes) where
    pub walk_ends : length nodes ≤ i → (total : ℕ) → SoundTree m total e start → e ≤ largest_total → tree_of r (take kept nodes) ≡ folded_among m e level start.nodes start
    walk_ends past total s small =
        let rest = drop_all i nodes past in
        let h = subst (λ (x : List (Node K)). Walked m e level start total r (take kept nodes) x) rest (w.walked total s small) in
        ap (tree_of r) (sym (append-nil (take kept nodes))) ∙ h.makes

    -- the turn at a node
    module _ (within : i < length nodes) (n : Node K) (here : n ≡ get_or nodes i n) where
      ahead_is : drop i nodes ≡ n ∷ drop (i + 1) nodes
      ahead_is =
          drop_more nodes i n within ∙ ap (λ (x : Node K). x ∷ drop (i + 1) nodes) (sym here)

      walked_here : (total : ℕ) → SoundTree m total e start → e ≤ largest_total → Walked m e level start total r (take kept nodes) (n ∷ drop (i + 1) nodes)
      walked_here total s small =
          subst (λ (x : List (Node K)). Walked m e level start total r (take kept nodes) x) ahead_is (w.walked total s small)

      -- its depth and its load, as they were answered
      module _ (depth load : ℕ) (steps : depth ≡ length (name_at m n)) (sum : load ≡ load_of n) where
        stays_here : Stays m e level depth load (drop (i + 1) nodes) → Stays m e level (length (name_at m n)) (load_of n) (drop (i + 1) nodes)
        stays_here why =
            subst (λ k. Stays m e level (length (name_at m n)) k (drop (i + 1) nodes)) sum
            (subst (λ k. Stays m e level k load (drop (i + 1) nodes)) steps why)

        goes_here : Goes m e level depth load (drop (i + 1) nodes) → Goes m e level (length (name_at m n)) (load_of n) (drop (i + 1) nodes)
        goes_here why =
            subst (λ k. Goes m e level (length (name_at m n)) k (drop (i + 1) nodes)) sum
            (subst (λ k. Goes m e level k load (drop (i + 1) nodes)) steps why)

        pub walk_stays : (p' : Option ℕ) → Stays m e level depth load (drop (i + 1) nodes) → Next level depth kept p p' → Walk m e level start (i + 1) (kept + 1) p' r (set nodes kept n)
        walk_stays p' why next =
            let less : kept < length nodes = omega (arith, w.behind) in
            let front = take_more_set nodes kept n less in
            let back = drop-set-lt (i + 1) nodes kept n (omega (arith, w.behind)) in
            let Parent : Option ℕ → Type 0 = ParentIs m (level - 1) (take kept nodes ++ n ∷ []) in
            let parent : Parent p' =
            ⊎_elim
            (λ up. subst Parent (sym up.1) (parent_here m (level - 1) (take kept nodes) n kept (length-take-le kept nodes (omega arith)) (sym steps ∙ up.0)))
            (λ other. subst Parent (sym other.1) (parent_before m (level - 1) (take kept nodes) n p (λ h. other.0 (steps ∙ h)) w.last))
            next in
            record {
              behind = omega (arith, w.behind);
              last = subst (λ (x : List (Node K)). ParentIs m (level - 1) x p') (sym front) parent;
              walked = λ total s small.
                  subst (λ (x : List (Node K)). Walked m e level start total r (take (kept + 1) (set nodes kept n)) x) (sym back)
                  (subst (λ (x : List (Node K)). Walked m e level start total r x (drop (i + 1) nodes)) (sym front)
                  (walked_stays total r (take kept nodes) n (drop (i + 1) nodes) small (stays_here why) (walked_here total s small)));
            }

        pub walk_goes : (r' : Root) (fs : List (Node K)) → 0 < level → Goes m e level depth load (drop (i + 1) nodes) → HandedUp p n r (take kept nodes) r' fs → Walk m e level start (i + 1) kept p r' (fs ++ drop kept nodes)
        walk_goes r' fs deep why u =
            let long : length fs ≡ kept =
            handed_length m p n r r' (take kept nodes) fs u ∙ length-take-le kept nodes (omega (arith, w.behind)) in
            let front = take_at fs (drop kept nodes) kept long in
            let back = drop-append-drop kept nodes fs (i + 1) (omega (arith, w.behind)) long in
            record {
              behind = omega (arith, w.behind);
              last = subst (λ (x : List (Node K)). ParentIs m (level - 1) x p) (sym front) (parent_stays m (level - 1) (take kept nodes) p n r r' fs u w.last);
              walked = λ total s small.
                  subst (λ (x : List (Node K)). Walked m e level start total r' (take kept (fs ++ drop kept nodes)) x) (sym back)
                  (subst (λ (x : List (Node K)). Walked m e level start total r' x (drop (i + 1) nodes)) (sym front)
                  (walked_goes total r (take kept nodes) n (drop (i + 1) nodes) p r' fs small deep (goes_here why) w.last u (walked_here total s small)));
            }
