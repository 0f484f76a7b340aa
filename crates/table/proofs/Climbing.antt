-- Climbing from a key to its nearest stored ancestor.
use Rattle.std.proofs.Common.{◌≡◌, ℕ, zero, suc, ◌+◌, ◌-◌, ◌<◌, ◌≤◌, true, false, List, ◌∷◌, ◌++◌, length, get_or, take, drop, Ok, Err, Some, None, refl, sym, ap, ◌∙◌, subst, arith}
use Rattle.std.specs.List.{HoldsAt}
use Rattle.std.proofs.lemmas.List.{take-append-drop, take_all, drop_more}
use Rattle.prefix.specs.Name.{Name}
use Rattle.prefix.specs.Meaning.{Meaning}
use Rattle.prefix.proofs.Names.{Climbed, climbed_more, ancestry_laws}
use Rattle.model.specs.declared.Node.{Node}
use Rattle.model.specs.declared.Root.{Root}
use Rattle.model.specs.State.{Tree}
use Rattle.model.specs.Summary.{among, missing_up, name_at, names_of, node_of, ceiling_or, ceiling_up}
use Rattle.model.specs.Sound.{Sorted, Formed}
use Rattle.table.specs.declared.lookup.Ancestry.{Ancestry}
use Rattle.table.specs.Ancestors.{Found, Ancestors}
use Rattle.model.proofs.Names.{none_missing}
use Rattle.model.proofs.Nodes.{node_at, no_node}
use Rattle.model.proofs.Among.{present_from_among}
use Rattle.model.specs.Table.{count_before}
use Rattle.table.proofs.Positions.{among_names, count_above}

-- a root of which only the ceiling is known
abbrev pub bare : ℕ → Root
bare c = record { own = 0; ceiling = c }

module _ {K : Type 0} (m : Meaning K) (root : Root) (stored : List (Node K)) where
  abbrev tree : Tree K
  tree = record { root = root; nodes = stored }

  node_there : (i : ℕ) (d : Node K) → i < length stored → Sorted (names_of m stored) → node_of m stored (name_at m (get_or stored i d)) ≡ Some (get_or stored i d)
  node_there i d h =
      let n = get_or stored i d in
      let split : take i stored ++ n ∷ drop (i + 1) stored ≡ stored = ap (λ (ns : List (Node K)). take i stored ++ ns) (sym (drop_more stored i d h)) ∙ take-append-drop i stored in
      subst (λ ns. Sorted (names_of m ns) → node_of m ns (name_at m n) ≡ Some n) split (node_at m (take i stored) n (drop (i + 1) stored))

  -- a front part that is not stored: one more is missing, and the ceiling is that of the front parts above it
  missing_more : (p : Name) (k : ℕ) → among (names_of m stored) (take (suc k) p) ≡ false → missing_up (names_of m stored) p (suc k) ≡ 1 + missing_up (names_of m stored) p k
  missing_more p k e = rw e

  ceiling_more : (p : Name) (k : ℕ) → among (names_of m stored) (take (suc k) p) ≡ false → ceiling_up m tree p (suc k) ≡ ceiling_up m tree p k
  ceiling_more p k e = rw (no_node m stored (take (suc k) p) e)

  -- one that is stored has the ceiling
  ceiling_there : (p : Name) (k : ℕ) (n : Node K) → 0 < k → node_of m stored (take k p) ≡ Some n → n.ceiling ≡ ceiling_up m tree p k
  ceiling_there p zero n h e = absurd (omega arith)
  ceiling_there p (suc k) n h e = rw e

  module _ (key : K) where
    -- after so many parent questions, with none of the names stored so far
    pub record Passed (i : ℕ) (up : K) : Type 0 where
      pub climbed : Climbed m key i up
      pub counted :
          Formed (names_of m stored) → (i + missing_up (names_of m stored) (m.name_of key) (length (m.name_of key) - i) ≡ missing_up (names_of m stored) (m.name_of key) (length (m.name_of key))) × (ceiling_up m tree (m.name_of key) (length (m.name_of key) - i) ≡ ceiling_up m tree (m.name_of key) (length (m.name_of key)))

    pub passed_more : (i j : ℕ) (up next : K) → Passed i up → Found m stored (m.name_of up) (Err j) → next ≡ m.parent_of up → i < length (m.name_of key) → Passed (i + 1) next
    passed_more i j up next was found n h =
        let p : Name = m.name_of key in
        let k : ℕ = length p - (i + 1) in
        let more : length p - i ≡ suc k = omega arith in
        let up_is : take (suc k) p ≡ m.name_of up = ap (λ l. take l p) (sym more) ∙ sym was.climbed in
        record {
          climbed = climbed_more m key i up next n h was.climbed;
          counted =
              λ f.
              let none : among (names_of m stored) (m.name_of up) ≡ false = found.known f.ordered in
              let gone : among (names_of m stored) (take (suc k) p) ≡ false = ap (among (names_of m stored)) up_is ∙ none in (
                omega (arith, (was.counted f).0, ap (missing_up (names_of m stored) p) more, missing_more p k gone),
                sym (ceiling_more p k gone) ∙ ap (ceiling_up m tree p) (sym more) ∙ (was.counted f).1,
              );
        }

    -- what is known of the place of a name on the way up, from the place of the key's own
    pub known_above : (own i : ℕ) (up : K) → Passed i up → own ≤ length stored → (Sorted (names_of m stored) → own ≡ count_before (names_of m stored) (m.name_of key)) → (own ≤ length stored) × (Sorted (names_of m stored) → (count_before (names_of m stored) (m.name_of up) ≤ own) × (i ≡ 0 → own ≡ count_before (names_of m stored) (m.name_of up)))
    known_above own i up was h place =
        let p : Name = m.name_of key in
        let qs : List Name = names_of m stored in
        let k : ℕ = length p - i in (
          h,
          λ s.
              let fewer = count_above qs (take k p) p (ancestry_laws.front_covers k p) in (
                rw was.climbed (omega (arith, place s, fewer)),
                λ none. place s ∙ ap (count_before qs) (sym (was.climbed ∙ take_all k p (omega (arith, none)))),
              ),
        )

    -- the first name that is stored
    ancestors_found : (at i j : ℕ) (up : K) (d : Node K) → Passed i up → i < length (m.name_of key) → j < length stored → HoldsAt (λ n. name_at m n ≡ m.name_of up) stored j → (Sorted (names_of m stored) → at ≡ count_before (names_of m stored) (m.name_of key)) → Formed (names_of m stored) → Ancestors m stored key root (record { missing = i; at = at; nearest = Some j; ceiling = (get_or stored j d).ceiling })
    ancestors_found at i j up d was h l there place f =
        let p : Name = m.name_of key in
        let k : ℕ = length p - i in
        let some : 0 < k = omega arith in
        let is : take k p ≡ name_at m (get_or stored j d) = sym was.climbed ∙ sym (there d) in
        let here : among (names_of m stored) (take k p) ≡ true = ap (among (names_of m stored)) is ∙ among_names m stored j d l in
        let none = none_missing (names_of m stored) f p k (omega arith) (present_from_among (names_of m stored) (take k p) here) in
        record {
          missing_is = omega (arith, (was.counted f).0);
          ceiling_is =
              ceiling_there p k (get_or stored j d) some (ap (node_of m stored) is ∙ node_there j d l f.ordered) ∙ (was.counted f).1;
          at_is = place f.ordered;
          nearest_is = (l, λ e. there e ∙ was.climbed);
        }

    -- none of the names is
    ancestors_none : (at i : ℕ) (up : K) → Passed i up → i ≡ length (m.name_of key) → (Sorted (names_of m stored) → at ≡ count_before (names_of m stored) (m.name_of key)) → Formed (names_of m stored) → Ancestors m stored key root (record { missing = i; at = at; nearest = None; ceiling = root.ceiling })
    ancestors_none at i up was h place f =
        let p : Name = m.name_of key in
        let none : length p - i ≡ 0 = omega arith in
        record {
          missing_is = omega (arith, (was.counted f).0, ap (missing_up (names_of m stored) p) none);
          ceiling_is = ap (ceiling_up m tree p) (sym none) ∙ (was.counted f).1;
          at_is = place f.ordered;
          nearest_is = h;
        }

module _ {K : Type 0} (m : Meaning K) (stored : List (Node K)) (key : K) (root : Root) where
  -- the ceiling above a name is not changed by what the root has counted
  ceiling_up_at : (p : Name) (k : ℕ) → ceiling_up m (record { root = bare root.ceiling; nodes = stored }) p k ≡ ceiling_up m (record { root = root; nodes = stored }) p k
  ceiling_up_at p zero = refl
  ceiling_up_at p (suc k) = ap (ceiling_or (node_of m stored (take (suc k) p))) (ceiling_up_at p k)

  -- so the ancestry holds for every root of that ceiling
  any_root : (a : Ancestry) → Ancestors m stored key (bare root.ceiling) a → Ancestors m stored key root a
  any_root a h =
      record {
        missing_is = h.missing_is;
        ceiling_is = h.ceiling_is ∙ ceiling_up_at (m.name_of key) (length (m.name_of key));
        at_is = h.at_is;
        nearest_is = h.nearest_is;
      }

  module _ (ceiling at i : ℕ) (up : K) (was : Passed m (bare ceiling) stored key i up) (place : Sorted (names_of m stored) → at ≡ count_before (names_of m stored) (m.name_of key)) (f : Formed (names_of m stored)) (e : root.ceiling ≡ ceiling) where
    pub climbed_found : (j : ℕ) (d : Node K) → Found m stored (m.name_of up) (Ok j) → i < length (m.name_of key) → Ancestors m stored key root (record { missing = i; at = at; nearest = Some j; ceiling = (get_or stored j d).ceiling })
    climbed_found j d found h =
        any_root _ (ancestors_found m (bare root.ceiling) stored key at i j up d (rw e was) h found.within found.there place f)

    pub climbed_all : (level : ℕ) → level ≡ length (m.name_of key) → i ≡ level → Ancestors m stored key root (record { missing = level; at = at; nearest = None; ceiling = ceiling })
    climbed_all level h done =
        rw (← done, ← e) (any_root _ (ancestors_none m (bare root.ceiling) stored key at i up (rw e was) (done ∙ h) place f))
