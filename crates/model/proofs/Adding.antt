-- Adds keep a summary sound.
use Rattle.std.proofs.Common.{◌≡◌, ℕ, zero, suc, ◌+◌, ◌-◌, ◌/◌, ◌<◌, ◌≤◌, true, false, ltb, List, [], ◌∷◌, length, take, drop, refl, ap, arith}
use Rattle.std.specs.List.{AllByRecursion}
use Rattle.std.proofs.lemmas.Bool.{leb-true, cond_both}
use Rattle.std.proofs.lemmas.List.{length-append, take-append-drop, nil_from_length}
use Rattle.std.proofs.ByRecursion.{All-weaker}
use Rattle.prefix.specs.Name.{Name, above}
use Rattle.prefix.specs.Meaning.{Meaning}
use Rattle.prefix.proofs.Names.{ancestry_laws}
use Rattle.model.specs.declared.Node.{Node}
use Rattle.model.specs.declared.Root.{Root}
use Rattle.model.specs.State.{state_tree, Tree, State, error, largest_total}
use Rattle.model.specs.Summary.{among, is_present, any_beneath, missing_up, name_at, names_of, node_of, ceiling_or, ceiling_up, fresh, handed, has_room_for, roomy, insert, made, counted, settled, swept}
use Rattle.model.specs.Sound.{Formed, Stands, SoundTree, Sound}
use Rattle.model.specs.Table.{count_before, own_sum}
use Rattle.model.proofs.Among.{among_middle, present_from_among}
use Rattle.model.proofs.Names.{any_from}
use Rattle.model.proofs.Changes.{joins}
use Rattle.model.proofs.Nodes.{names_insert, all_insert, sum_insert, beneath_insert}
use Rattle.model.proofs.Lineages.{length_lineage}
use Rattle.model.proofs.Counts.{owns_total}
use Rattle.model.proofs.Handing.{length-handed, Ready, handed_sound}
use Rattle.model.proofs.Folding.{swept_sound}
use Rattle.model.proofs.Making.{extended, made_shape}

-- What the making of nodes down to the name p keeps, for p to take the weight w over: of all nodes only p's, the newest,
-- may have counted nothing with nothing beneath it.
record Grown {K : Type 0} (m : Meaning K) (e w : ℕ) (t : Tree K) (p : Name) (up : Tree K) : Type 0 where
  formed : Formed (names_of m up.nodes)
  there : is_present (names_of m up.nodes) p ≡ true
  ready : AllByRecursion (Ready m e (names_of m up.nodes) w p) up.nodes
  root_same : up.root ≡ t.root
  owns_same : own_sum up.nodes ≡ own_sum t.nodes

module _ {K : Type 0} (m : Meaning K) where
  ceiling_or_small : (e : ℕ) (ns : List (Node K)) → AllByRecursion (λ n. n.ceiling ≤ e) ns → (p : Name) (c : ℕ) → c ≤ e → ceiling_or (node_of m ns p) c ≤ e
  ceiling_or_small e [] h p c l = l
  ceiling_or_small e (n ∷ ns) h p c l = grind (arith, ceiling_or_small e ns h.1 p c l)

  ceiling_up_small : (e : ℕ) (t : Tree K) → t.root.ceiling ≤ e → AllByRecursion (λ n. n.ceiling ≤ e) t.nodes → (p : Name) (d : ℕ) → ceiling_up m t p d ≤ e
  ceiling_up_small e t r h p zero = r
  ceiling_up_small e t r h p (suc d) = ceiling_or_small e t.nodes h (take (suc d) p) (ceiling_up m t p d) (ceiling_up_small e t r h p d)

  module _ (total low e w : ℕ) (grows : low ≤ e) (some : 0 < w) (t : Tree K) (s : SoundTree m total low t) where
    -- a longer list of names in which p stands beneath the newest name so far
    still_ready : (all more : List Name) (q p : Name) (n : Node K) → above q p ≡ true → among more p ≡ true → (any_beneath (name_at m n) more ≡ false → any_beneath (name_at m n) all ≡ false) → Ready m e all w q n → Ready m e more w p n
    still_ready all more q p n a there kept h = grind (arith, h.counted, kept, any_from (name_at m n) more p there)

    fresh_ready : (all : List Name) (k : K) (c : ℕ) → m.is_valid k ≡ true → c ≤ e → Ready m e all w (m.name_of k) (fresh k c)
    fresh_ready all k c v h = grind arith

    stands_ready : (all : List Name) (p : Name) (n : Node K) → Stands m low all n → Ready m e all w p n
    stands_ready all p n h = grind (arith, h.counted)

    extended_grown : (up : Tree K) (k : K) (d : ℕ) → m.is_valid k ≡ true → length (m.name_of k) ≡ suc d → Grown m e w t (m.name_of (m.parent_of k)) up → Grown m e w t (m.name_of k) (extended m k d up)
    extended_grown up k d v long g =
        let p = m.name_of k in
        let q = m.name_of (m.parent_of k) in
        let qs = names_of m up.nodes in
        let beneath : above q p ≡ true = rw (m.parent_named k) (ancestry_laws.parent_above p (omega arith)) in
        let c = ceiling_up m up p d in
        let new = fresh k c in
        let ns = insert m new up.nodes in
        let longer = names_insert m new up.nodes in
        let at = count_before qs p in
        let there : among (names_of m ns) p ≡ true = rw longer (among_middle (take at qs) p (drop at qs)) in
        let root : up.root.ceiling ≤ e = omega (arith, s.root_small, ap (λ (x : Root). x.ceiling) g.root_same) in
        let low : c ≤ e = ceiling_up_small e up root (All-weaker (Ready m e qs w q) (λ n. n.ceiling ≤ e) (λ n h. h.ceiling_small) up.nodes g.ready) p d in
        cond_both (among qs p) up (record { root = up.root; nodes = ns }) (Grown m e w t p)
        (λ old.
        record {
          formed = g.formed;
          there = present_from_among qs p old;
          ready = All-weaker (Ready m e qs w q) (Ready m e qs w p) (λ n. still_ready qs qs q p n beneath old (λ b. b)) up.nodes g.ready;
          root_same = g.root_same;
          owns_same = g.owns_same;
        })
        (λ missing.
        record {
          formed = rw longer (joins qs p g.formed (omega arith) (rw (m.parent_named k) at g.there) missing);
          there = present_from_among (names_of m ns) p there;
          ready = all_insert m (Ready m e (names_of m ns) w p) new up.nodes
              (fresh_ready (names_of m ns) k c v low)
              (All-weaker (Ready m e qs w q) (Ready m e (names_of m ns) w p) (λ n. still_ready qs (names_of m ns) q p n beneath there (beneath_insert m (name_at m n) new up.nodes)) up.nodes g.ready);
          root_same = g.root_same;
          owns_same = omega (arith, sum_insert m (λ n. n.own) new up.nodes, g.owns_same);
        })

    made_grown : (d : ℕ) (k : K) → m.is_valid k ≡ true → length (m.name_of k) ≡ d → Grown m e w t (m.name_of k) (made m t k d)
    made_grown zero k v long =
        record {
          formed = s.formed;
          there = rw (nil_from_length (m.name_of k) long) refl;
          ready = All-weaker (Stands m low (names_of m t.nodes)) (Ready m e (names_of m t.nodes) w (m.name_of k)) (stands_ready (names_of m t.nodes) (m.name_of k)) t.nodes s.stands;
          root_same = refl;
          owns_same = refl;
        }
    made_grown (suc d) k v long =
        extended_grown (made m t (m.parent_of k) d) k d v long (made_grown d (m.parent_of k) (m.parent_valid k v) (rw (m.parent_named k) (omega (arith, ancestry_laws.parent_level (m.name_of k)))))

    -- the weight is counted
    counted_tree : (k : K) → m.is_valid k ≡ true → total + w ≤ largest_total → SoundTree m (total + w) e (handed m w 0 (m.name_of k) (made m t k (length (m.name_of k))))
    counted_tree k v fits =
        let up = made m t k (length (m.name_of k)) in
        let g = made_grown (length (m.name_of k)) k v refl in
        handed_sound m (total + w) e w 0 (omega arith) (m.name_of k) up.root up.nodes g.formed g.there g.ready
        (omega (arith, s.root_small, ap (λ (x : Root). x.ceiling) g.root_same))
        (omega (arith, owns_total m t.root t.nodes, s.adds_up, g.owns_same, ap (λ (x : Root). x.own) g.root_same))
        fits

  length-made : (t : Tree K) (k : K) → Formed (names_of m t.nodes) → length (made m t k (length (m.name_of k))).nodes ≡ length t.nodes + missing_up (names_of m t.nodes) (m.name_of k) (length (m.name_of k))
  length-made t k f =
      let at = count_before (names_of m t.nodes) (m.name_of k) in
      rw (made_shape m t k f) (omega (arith, length-append {A = Node K}, length_lineage m, ap length (take-append-drop at t.nodes)))

  pub counted_sound : (s : State K) (k : K) (w : ℕ) → Sound m s → m.is_valid k ≡ true → 0 < w → s.total + w ≤ largest_total → has_room_for m s k ≡ true → Sound m (counted m s k w)
  unfolding counted has_room_for
  counted_sound s k w h v p l r =
      let t = state_tree s in
      let name = m.name_of k in
      let up = made m t k (length name) in
      let grows : error s ≤ (s.total + w) / s.width = grind arith in
      record {
        tree_sound = counted_tree s.total (error s) ((s.total + w) / s.width) w grows p t h.tree_sound k v l;
        room = omega (arith, length-handed m w 0 name up, length-made t k h.tree_sound.formed, leb-true (missing_up (names_of m t.nodes) name (length name)) (s.slots - length t.nodes) r, h.room);
      }

  pub roomy_sound : (s : State K) (k : K) → Sound m s → Sound m (roomy m s k)
  unfolding roomy
  roomy_sound s k h = cond_both (has_room_for m s k) s (swept m s) (Sound m) (λ e. h) (λ e. swept_sound m s h)

  pub settled_sound : (e : ℕ) (s : State K) → Sound m s → Sound m (settled m e s)
  unfolding settled
  settled_sound e s h = cond_both (ltb e (error s)) (swept m s) s (Sound m) (λ g. swept_sound m s h) (λ g. h)
