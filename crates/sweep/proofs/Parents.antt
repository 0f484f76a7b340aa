-- The last kept node of the level above is the parent, and what a node hands up to it is what the definition says.
use Rattle.std.proofs.Common.{◌≡◌, ℕ, ◌+◌, ◌<◌, ◌≤◌, true, List, [], ◌∷◌, ◌++◌, map, length, get_or, set, Some, None, Option, sym, refl, ap, ◌∙◌, subst, ⊎_elim, arith}
use Rattle.std.specs.List.{AllByRecursion}
use Rattle.std.proofs.lemmas.List.{append_assoc, map-append, length-set, get_or_at, set_at}
use Rattle.std.proofs.ByRecursion.{All-push, All-map}
use Rattle.std.proofs.lemmas.List.Sums.{sum_by-cons, sum_by-append}
use Rattle.std.proofs.lemmas.Bool.{false≢true, or_cases}
use Rattle.prefix.specs.Name.{Name, same_name, parent_name}
use Rattle.prefix.specs.Meaning.{Meaning}
use Rattle.prefix.proofs.Names.{ancestry_laws, name_same}
use Rattle.model.specs.declared.Node.{Node}
use Rattle.model.specs.declared.Root.{Root}
use Rattle.model.specs.State.{Tree, largest_total}
use Rattle.model.specs.Weights.{Weighted, total_of}
use Rattle.model.specs.Summary.{among, is_present, name_at, names_of, took, root_took, taken, handed, folded, owns}
use Rattle.model.specs.Sound.{Placed, Formed, Stands, SoundTree}
use Rattle.sweep.specs.Handing.{capped, load_of, takes, root_takes, HandedUp}
use Rattle.model.proofs.Among.{sorted_left}
use Rattle.model.proofs.Names.{parent_earlier, last_is_parent}
use Rattle.model.proofs.Nodes.{taken_at}
use Rattle.model.proofs.Counts.{all_middle}
use Rattle.model.proofs.Folding.{followed, fold_shape}
use Rattle.model.proofs.Handing.{tree_of}

-- no node has so many steps
abbrev pub NoneOf : {K : Type 0} → Meaning K → ℕ → List (Node K) → Type 0
NoneOf m l ns = AllByRecursion (λ n. length (name_at m n) ≡ l → ⊥) ns

-- the last node of so many steps stands at an index
pub record LastOf {K : Type 0} (m : Meaning K) (l at : ℕ) (ns : List (Node K)) : Type 0 where
  pub front : List (Node K)
  pub node : Node K
  pub back : List (Node K)
  pub parts : ns ≡ front ++ node ∷ back
  pub place : length front ≡ at
  pub steps : length (name_at m node) ≡ l
  pub none_after : NoneOf m l back

-- the last node of so many steps, if there is one
abbrev pub ParentIs : {K : Type 0} → Meaning K → ℕ → List (Node K) → Option ℕ → Type 0
ParentIs m l ns None = NoneOf m l ns
ParentIs m l ns (Some at) = LastOf m l at ns

-- LISTS

all_front : {X : Type 0} (P : X → Type 0) (xs ys : List X) → AllByRecursion P (xs ++ ys) → AllByRecursion P xs
all_front P [] ys h = tt
all_front P (x ∷ xs) ys h = (h.0, all_front P xs ys h.1)

module _ {K : Type 0} (m : Meaning K) where
  -- THE PARENT AMONG THE KEPT NODES

  pub parent_here : (l : ℕ) (ns : List (Node K)) (n : Node K) (at : ℕ) → length ns ≡ at → length (name_at m n) ≡ l → ParentIs m l (ns ++ n ∷ []) (Some at)
  parent_here l ns n at e f =
      record { front = ns; node = n; back = []; parts = refl; place = e; steps = f; none_after = tt }

  pub parent_before : (l : ℕ) (ns : List (Node K)) (n : Node K) (p : Option ℕ) → (length (name_at m n) ≡ l → ⊥) → ParentIs m l ns p → ParentIs m l (ns ++ n ∷ []) p
  parent_before l ns n None e h = All-push (λ x. length (name_at m x) ≡ l → ⊥) ns n h e
  parent_before l ns n (Some at) e h =
      record {
        front = h.front;
        node = h.node;
        back = h.back ++ n ∷ [];
        parts = ap (λ (x : List (Node K)). x ++ n ∷ []) h.parts ∙ append_assoc h.front (h.node ∷ h.back) (n ∷ []);
        place = h.place;
        steps = h.steps;
        none_after = All-push (λ x. length (name_at m x) ≡ l → ⊥) h.back n h.none_after e;
      }

  -- the write at the parent's index
  write_at : (l at : ℕ) (ns : List (Node K)) (n : Node K) (h : LastOf m l at ns) → set ns at (takes n (get_or ns at n)) ≡ h.front ++ takes n h.node ∷ h.back
  write_at l at ns n h =
      let split : List (Node K) = h.front ++ h.node ∷ h.back in
      ap (λ (x : List (Node K)). set x at (takes n (get_or x at n))) h.parts
      ∙ ap (λ (y : Node K). set split at (takes n y)) (get_or_at h.front h.node h.back n at h.place)
      ∙ set_at h.front h.node h.back (takes n h.node) at h.place

  pub parent_stays : (l : ℕ) (ns : List (Node K)) (p : Option ℕ) (n : Node K) (r r' : Root) (ns' : List (Node K)) → HandedUp p n r ns r' ns' → ParentIs m l ns p → ParentIs m l ns' p
  parent_stays l ns None n r r' ns' u h = subst (NoneOf m l) (sym u.1) h
  parent_stays l ns (Some at) n r r' ns' u h =
      record {
        front = h.front;
        node = takes n h.node;
        back = h.back;
        parts = u.1 ∙ write_at l at ns n h;
        place = h.place;
        steps = h.steps;
        none_after = h.none_after;
      }

  pub handed_length : (p : Option ℕ) (n : Node K) (r r' : Root) (ns ns' : List (Node K)) → HandedUp p n r ns r' ns' → length ns' ≡ length ns
  handed_length None n r r' ns ns' u = ap length u.1
  handed_length (Some at) n r r' ns ns' u = ap length u.1 ∙ length-set ns at (takes n (get_or ns at n))

  -- OWN COUNTS

  weigh : Node K → Weighted
  weigh n = record { name = name_at m n; weight = n.own }

  weight_of : List (Node K) → ℕ
  weight_of ns = total_of (map weigh ns)

  weight_split : (fs : List (Node K)) (n : Node K) (bs : List (Node K)) → weight_of (fs ++ n ∷ bs) ≡ weight_of fs + (n.own + weight_of bs)
  unfolding weigh weight_of
  weight_split fs n bs =
      ap total_of (map-append weigh fs (n ∷ bs))
      ∙ sum_by-append (λ (x : Weighted). x.weight) (map weigh fs) (map weigh (n ∷ bs))
      ∙ ap (λ k. weight_of fs + k) (sum_by-cons (λ (x : Weighted). x.weight) (weigh n) (map weigh bs))

  total_split : (r : Root) (ns : List (Node K)) → total_of (owns m (tree_of r ns)) ≡ r.own + weight_of ns
  unfolding weigh weight_of
  total_split r ns =
      sum_by-cons (λ (x : Weighted). x.weight) (record { name = []; weight = r.own }) (map weigh ns)

  -- A NAME'S NODE OR THE ROOT

  not_among : (l : ℕ) (fs : List (Node K)) (q : Name) → NoneOf m l fs → length q ≡ l → among (names_of m fs) q ≡ true → ⊥
  not_among l [] q none h a = false≢true a
  not_among l (f ∷ fs) q none h a =
      ⊎_elim
      (λ same. none.0 (ap length (name_same (name_at m f) q same) ∙ h))
      (λ rest. not_among l fs q none.1 h rest)
      (or_cases (same_name (name_at m f) q) (among (names_of m fs) q) a)

  handed_to_root : (l own load : ℕ) (r : Root) (fs : List (Node K)) (q : Name) → NoneOf m l fs → length q ≡ l → is_present (names_of m fs) q ≡ true → handed m own load q (tree_of r fs) ≡ tree_of (root_took own load r) fs
  handed_to_root l own load r fs [] none h there = refl
  handed_to_root l own load r fs (s ∷ q) none h there = absurd (not_among l fs (s ∷ q) none h there)

  handed_to_node : (own load : ℕ) (t : Tree K) (q : Name) → 0 < length q → handed m own load q t ≡ tree_of t.root (taken m own load q t.nodes)
  handed_to_node own load t [] h = absurd (omega arith)
  handed_to_node own load t (s ∷ q) h = refl

  pub names_split : (fs : List (Node K)) (n : Node K) (bs : List (Node K)) → names_of m (fs ++ n ∷ bs) ≡ names_of m fs ++ name_at m n ∷ names_of m bs
  names_split fs n bs = map-append (name_at m) fs (n ∷ bs)

  module _ (total e : ℕ) where
    -- no sum of a fold reaches the largest number of 64 bits

    root_fits : (r : Root) (fs : List (Node K)) (n : Node K) (bs : List (Node K)) → SoundTree m total e (tree_of r (fs ++ n ∷ bs)) → r.own + n.own ≤ largest_total
    root_fits r fs n bs s =
        omega (arith, s.adds_up, s.total_small, total_split r (fs ++ n ∷ bs), weight_split fs n bs)

    node_fits : (r : Root) (xs : List (Node K)) (p : Node K) (ys : List (Node K)) (n : Node K) (bs : List (Node K)) → SoundTree m total e (tree_of r ((xs ++ p ∷ ys) ++ n ∷ bs)) → p.own + n.own ≤ largest_total
    node_fits r xs p ys n bs s =
        omega (arith, s.adds_up, s.total_small, total_split r ((xs ++ p ∷ ys) ++ n ∷ bs), weight_split (xs ++ p ∷ ys) n bs, weight_split xs p ys)

    module _ (small : e ≤ largest_total) where
      pub load_fits : (r : Root) (fs : List (Node K)) (n : Node K) (bs : List (Node K)) → SoundTree m total e (tree_of r (fs ++ n ∷ bs)) → load_of n ≡ n.own + n.slack
      load_fits r fs n bs s =
          let here = all_middle (Stands m e (names_of m (fs ++ n ∷ bs))) fs n bs s.stands in
          omega (arith, here.slack_small, root_fits r fs n bs s)

      -- A FOLD

      to_root : (l : ℕ) (r : Root) (fs : List (Node K)) (n : Node K) (bs : List (Node K)) → SoundTree m total e (tree_of r (fs ++ n ∷ bs)) → length (name_at m n) ≡ l + 1 → NoneOf m l fs → handed m n.own (n.own + n.slack) (parent_name (name_at m n)) (tree_of r fs) ≡ tree_of (root_takes n r) fs
      to_root l r fs n bs s h none =
          let q : Name = name_at m n in
          let formed = subst Formed (names_split fs n bs) s.formed in
          let sum : capped (r.own + n.own) ≡ r.own + n.own = omega (arith, root_fits r fs n bs s) in
          let load = load_fits r fs n bs s in
          let plain : root_took n.own (n.own + n.slack) r ≡ root_takes n r = cc in
          handed_to_root l n.own (n.own + n.slack) r fs (parent_name q) none (omega (arith, ancestry_laws.parent_level q)) (parent_earlier (names_of m fs) q (names_of m bs) formed)
          ∙ ap (λ (x : Root). tree_of x fs) plain

      to_node : (r : Root) (xs : List (Node K)) (p : Node K) (ys : List (Node K)) (n : Node K) (bs : List (Node K)) → SoundTree m total e (tree_of r ((xs ++ p ∷ ys) ++ n ∷ bs)) → length (name_at m n) ≡ length (name_at m p) + 1 → NoneOf m (length (name_at m p)) ys → handed m n.own (n.own + n.slack) (parent_name (name_at m n)) (tree_of r (xs ++ p ∷ ys)) ≡ tree_of r (xs ++ takes n p ∷ ys)
      to_node r xs p ys n bs s h none =
          let q : Name = name_at m n in
          let load : ℕ = n.own + n.slack in
          let fs : List (Node K) = xs ++ p ∷ ys in
          let formed = subst Formed (names_split fs n bs) s.formed in
          let front = subst (λ (x : List Name). Formed (x ++ q ∷ names_of m bs)) (names_split xs p ys) formed in
          let all : List Name = (names_of m xs ++ name_at m p ∷ names_of m ys) ++ q ∷ names_of m bs in
          let named =
          (all_middle (Placed all) (names_of m xs) (name_at m p) (names_of m ys) (all_front (Placed all) (names_of m xs ++ name_at m p ∷ names_of m ys) (q ∷ names_of m bs) front.placed)).named in
          let none' = All-map (λ y. length y ≡ length (name_at m p) → ⊥) (name_at m) ys none in
          let parent = last_is_parent (names_of m xs) (name_at m p) (names_of m ys) q (names_of m bs) front h none' in
          let sum : capped (p.own + n.own) ≡ p.own + n.own = omega (arith, node_fits r xs p ys n bs s) in
          let fits = load_fits r fs n bs s in
          let plain : took n.own load p ≡ takes n p = cc in
          ap (λ (x : Name). handed m n.own load x (tree_of r fs)) parent
          ∙ handed_to_node n.own load (tree_of r fs) (name_at m p) named
          ∙ ap (tree_of r) (taken_at m n.own load xs p ys (sorted_left (names_of m fs) (q ∷ names_of m bs) formed.ordered))
          ∙ ap (λ (x : Node K). tree_of r (xs ++ x ∷ ys)) plain

      handed_is : (l : ℕ) (r : Root) (fs : List (Node K)) (n : Node K) (bs : List (Node K)) (p : Option ℕ) (r' : Root) (fs' : List (Node K)) → SoundTree m total e (tree_of r (fs ++ n ∷ bs)) → length (name_at m n) ≡ l + 1 → ParentIs m l fs p → HandedUp p n r fs r' fs' → handed m n.own (n.own + n.slack) (parent_name (name_at m n)) (tree_of r fs) ≡ tree_of r' fs'
      handed_is l r fs n bs None r' fs' s h none u = let shape = to_root l r fs n bs s h none in cc
      handed_is l r fs n bs (Some at) r' fs' s h last u =
          let s' = subst (λ (x : List (Node K)). SoundTree m total e (tree_of r (x ++ n ∷ bs))) last.parts s in
          let none = subst (λ k. NoneOf m k last.back) (sym last.steps) last.none_after in
          let shape = to_node r last.front last.node last.back n bs s' (omega (arith, last.steps)) none in
          let written = write_at l at fs n last in
          ap (λ (x : List (Node K)). handed m n.own (n.own + n.slack) (parent_name (name_at m n)) (tree_of r x)) last.parts
          ∙ shape
          ∙ cc

      pub folded_is : (l : ℕ) (r : Root) (fs : List (Node K)) (n : Node K) (bs : List (Node K)) (p : Option ℕ) (r' : Root) (fs' : List (Node K)) → SoundTree m total e (tree_of r (fs ++ n ∷ bs)) → length (name_at m n) ≡ l + 1 → ParentIs m l fs p → HandedUp p n r fs r' fs' → folded m (tree_of r (fs ++ n ∷ bs)) n ≡ tree_of r' (fs' ++ bs)
      folded_is l r fs n bs p r' fs' s h parent u =
          fold_shape m total e r fs n bs s ∙ ap (λ (t : Tree K). followed t bs) (handed_is l r fs n bs p r' fs' s h parent u)
