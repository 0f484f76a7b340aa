-- In a table in name order, the nodes whose names come after a name stand behind all others.
use Rattle.std.proofs.Common.{◌≡◌, ℕ, zero, suc, ◌+◌, ◌<◌, true, false, not, List, [], ◌∷◌, length, get_or, drop, ⊎_elim, arith}
use Rattle.std.specs.List.{All}
use Rattle.std.specs.List.Sorted.{IsPartitionedBy, IsPartitionPoint}
use Rattle.std.proofs.ByRecursion.{All-get_or}
use Rattle.std.proofs.lemmas.List.{length-map, length-drop, get_or-map, get_or-drop}
use Rattle.std.proofs.lemmas.Bool.{both_ways, cases_eq, not-true, not-false, not_from_false, false_from_ne_true}
use Rattle.prefix.specs.Name.{Name, name_before}
use Rattle.prefix.specs.Meaning.{Meaning}
use Rattle.prefix.proofs.Names.{name_order}
use Rattle.model.specs.declared.Node.{Node}
use Rattle.model.specs.Summary.{name_at, names_of}
use Rattle.model.specs.Sound.{Sorted}

module _ {K : Type 0} (m : Meaning K) where
  earlier_before : (ns : List (Node K)) (i j : ℕ) (d : Node K) → Sorted (names_of m ns) → i < j → j < length ns → name_before (name_at m (get_or ns i d)) (name_at m (get_or ns j d)) ≡ true
  earlier_before [] i j d s h l = absurd (omega arith)
  earlier_before (n ∷ ns) i zero d s h l = absurd (omega arith)
  earlier_before (n ∷ ns) zero (suc j) d s h l =
      let there = get_or-map (name_at m) ns j d (name_at m d) (omega arith) in
      rw (← there) (All-get_or (λ q. name_before (name_at m n) q ≡ true) (names_of m ns) j (name_at m d) (omega (arith, length-map ns (name_at m))) s.0)
  earlier_before (n ∷ ns) (suc i) (suc j) d s h l = earlier_before ns i j d s.1 (omega arith) (omega arith)

  module _ (p : Name) (ns : List (Node K)) where
    pub parted : Sorted (names_of m ns) → IsPartitionedBy (λ n. not (name_before p (name_at m n))) ns
    parted s i j d low high e =
        ⊎_elim
        (λ same. rw same e)
        (λ other.
        not_from_false (name_before p (name_at m (get_or ns i d))) (false_from_ne_true (name_before p (name_at m (get_or ns i d))) (λ b.
        both_ways (name_before p (name_at m (get_or ns j d)))
        (not-true (name_before p (name_at m (get_or ns j d))) e)
        (name_order.transitive p (name_at m (get_or ns i d)) (name_at m (get_or ns j d)) b (earlier_before ns i j d s (omega arith) high)))))
        (cases_eq i j)

    pub later_from : (i : ℕ) → IsPartitionPoint (λ n. not (name_before p (name_at m n)) ≡ true) (λ n. not (name_before p (name_at m n)) ≡ false) ns i → All (λ n. name_before p (name_at m n) ≡ true) (drop i ns)
    later_from i point k d l =
        rw (get_or-drop i ns k d) (not-false (name_before p (name_at m (get_or ns (i + k) d))) (point.1 (i + k) d (omega arith) (omega (arith, length-drop i ns))))
