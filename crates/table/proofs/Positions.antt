-- Where names stand in a table in order.
use Rattle.std.proofs.Common.{◌≡◌, ℕ, ◌-◌, ◌<◌, ◌≤◌, true, false, List, [], ◌∷◌, length, get_or, Ok, Err, refl, sym, ap, ◌∙◌, arith}
use lib.ListN.{length-map}
use Rattle.std.specs.List.Sorted.{IsPartitionedBy, IsPartitionPoint}
use Rattle.std.proofs.lemmas.List.{get_or_default, get_or-map}
use Rattle.std.proofs.lemmas.List.Sums.{prefix_len_is, prefix_len_passes}
use Rattle.std.proofs.lemmas.Bool.{both_ways, false_from_ne_true}
use Rattle.prefix.specs.Name.{Name, same_name, name_before, covers}
use Rattle.prefix.specs.Meaning.{Meaning}
use Rattle.prefix.proofs.Names.{name_same, name_refl, name_order, order_laws}
use Rattle.model.specs.declared.Node.{Node}
use Rattle.model.specs.Summary.{among, name_at, names_of}
use Rattle.model.specs.Sound.{Sorted}
use Rattle.model.specs.Table.{count_before}
use Rattle.table.specs.Ancestors.{Found}
use Rattle.model.proofs.Names.{before_counts, found_there as name_there_at}
use Rattle.model.proofs.Among.{among_at, at_or_beneath}

-- nothing comes before the root's name
pub none_before_root : (qs : List Name) (p : Name) → 0 ≡ length p → 0 ≡ count_before qs p
none_before_root [] p e = refl
none_before_root ([] ∷ qs) [] e = refl
none_before_root ((s ∷ q) ∷ qs) [] e = refl
none_before_root (q ∷ qs) (s ∷ p) e = absurd (omega arith)

-- what comes before a name above comes before the name
before_above : (x q p : Name) → covers q p ≡ true → name_before x q ≡ true → name_before x p ≡ true
before_above x q p c b = grind (arith, at_or_beneath q p c, name_order.transitive x q p b, order_laws.ancestor_first q p)

pub count_above : (qs : List Name) (q p : Name) → covers q p ≡ true → count_before qs q ≤ count_before qs p
count_above [] q p c = omega arith
count_above (x ∷ qs) q p c = grind (arith, before_above x q p c, count_above qs q p c)

module _ {K : Type 0} (m : Meaning K) (stored : List (Node K)) where
  names_long : length (names_of m stored) ≡ length stored
  names_long = length-map stored (name_at m)

  pub name_there : (i : ℕ) (d : Node K) (e : Name) → i < length stored → get_or (names_of m stored) i e ≡ name_at m (get_or stored i d)
  name_there i d e h = get_or-map (name_at m) stored i d e h

  pub among_names : (i : ℕ) (d : Node K) → i < length stored → among (names_of m stored) (name_at m (get_or stored i d)) ≡ true
  among_names i d h =
      let e = name_at m d in
      rw (name_there i d e h) at (among_at (names_of m stored) i e (omega (arith, names_long)))

  -- HALVING: the names that come before one stand in front, and there are `count_before` of them

  pub parted : (p : Name) → Sorted (names_of m stored) → IsPartitionedBy (λ n. name_before (name_at m n) p) stored
  parted p s i j d low high e =
      let there : name_before (get_or (names_of m stored) j p) p ≡ true = rw (name_there j d p high) e in
      let later = before_counts (names_of m stored) p j p s (omega (arith, names_long)) there in
      rw (← name_there i d p (omega arith)) (prefix_len_passes (λ q. name_before q p) (names_of m stored) i p (omega arith))

  pub point_counts : (p : Name) (i : ℕ) (d : Node K) → i ≤ length stored → IsPartitionPoint (λ n. name_before (name_at m n) p ≡ true) (λ n. name_before (name_at m n) p ≡ false) stored i → i ≡ count_before (names_of m stored) p
  point_counts p i d h point =
      sym (
      prefix_len_is (λ q. name_before q p) (names_of m stored) i p
      (omega (arith, names_long))
      (λ k l. rw (name_there k d p (omega arith)) (point.0 k d (omega arith) l))
      (λ l. rw (name_there i d p (omega (arith, names_long))) (point.1 i d (omega arith) (omega (arith, names_long)))))

  -- FINDING: the node at a name's place tells whether the name is there

  -- where the last node before a key's place comes before a name above the key, the two places are one
  pub place_above_is : (p : Name) (own : ℕ) (d : Node K) → Sorted (names_of m stored) → own ≤ length stored → 0 < own → count_before (names_of m stored) p ≤ own → name_before (name_at m (get_or stored (own - 1) d)) p ≡ true → own ≡ count_before (names_of m stored) p
  place_above_is p own d s h some few b =
      let there : name_before (get_or (names_of m stored) (own - 1) p) p ≡ true = rw (name_there (own - 1) d p (omega arith)) b in
      let more = before_counts (names_of m stored) p (own - 1) p s (omega (arith, names_long)) there in
      omega arith

  module _ (p : Name) (i : ℕ) (place : Sorted (names_of m stored) → i ≡ count_before (names_of m stored) p) where
    pub found_there : (d : Node K) → i < length stored → same_name (name_at m (get_or stored i d)) p ≡ true → Found m stored p (Ok i)
    found_there d h e =
        let named = name_same (name_at m (get_or stored i d)) p e in
        record {
          within = h;
          there = λ d'. ap (name_at m) (get_or_default stored i d' d h) ∙ named;
          place = place;
          known = λ _. rw (← named) (among_names i d h);
        }

    none_there : i ≤ length stored → (i < length stored → same_name (get_or (names_of m stored) i p) p ≡ false) → Found m stored p (Err i)
    none_there h other =
        record {
          within = h;
          there = tt;
          place = place;
          known = λ s. false_from_ne_true (among (names_of m stored) p) (λ f.
              let there = name_there_at (names_of m stored) p s f in
              let here : get_or (names_of m stored) i p ≡ p = ap (λ k. get_or (names_of m stored) k p) (place s) ∙ there.1 p in
              both_ways (same_name (get_or (names_of m stored) i p) p) (other (omega (arith, there.0, place s, names_long))) (rw here (name_refl p)));
        }

    pub none_past : i ≤ length stored → length stored ≤ i → Found m stored p (Err i)
    none_past h past = none_there h (λ l. absurd (omega arith))

    pub other_there : (d : Node K) → i < length stored → same_name (name_at m (get_or stored i d)) p ≡ false → Found m stored p (Err i)
    other_there d h e = none_there (omega arith) (λ l. rw (name_there i d p l) e)
