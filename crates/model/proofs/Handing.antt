-- The root or a stored prefix takes an own count over, and the tree stays sound.
use Rattle.std.proofs.Common.{◌≡◌, ℕ, ◌+◌, ◌<◌, ◌≤◌, true, false, ◌⊎◌, List, [], ◌∷◌, length, sym, refl, ap, ◌∙◌, arith}
use Rattle.std.specs.List.{AllByRecursion}
use Rattle.std.proofs.lemmas.List.{length-map}
use Rattle.std.proofs.ByRecursion.{All-weaker}
use Rattle.std.proofs.lemmas.List.Sums.{sum_by-cons}
use Rattle.std.proofs.lemmas.Bool.{both_ways, cond_both, false≢true}
use Rattle.prefix.specs.Name.{Name, same_name, name_before}
use Rattle.prefix.specs.Meaning.{Meaning}
use Rattle.prefix.proofs.Names.{name_same, name_refl, not_before_itself}
use Rattle.model.specs.declared.Node.{Node}
use Rattle.model.specs.declared.Root.{Root}
use Rattle.model.specs.State.{Tree, largest_total}
use Rattle.model.specs.Summary.{among, is_present, any_beneath, name_at, names_of, took, taken, handed}
use Rattle.model.specs.Sound.{Sorted, Placed, Formed, Stands, SoundTree}
use Rattle.model.specs.Table.{own_sum}
use Rattle.model.proofs.Nodes.{names_taken}
use Rattle.model.proofs.Counts.{owns_total}

abbrev pub tree_of : {K : Type 0} → Root → List (Node K) → Tree K
tree_of r ns = record { root = r; nodes = ns }

module _ {K : Type 0} (m : Meaning K) where
  own_taken : (own load : ℕ) (p : Name) (ns : List (Node K)) → among (names_of m ns) p ≡ true → own_sum (taken m own load p ns) ≡ own_sum ns + own
  own_taken own load p [] h = absurd (false≢true h)
  own_taken own load p (n ∷ ns) h =
      let sum = sum_by-cons (λ (x : Node K). x.own) in
      grind (arith, sum n ns, sum (took own load n) ns, sum n (taken m own load p ns), own_taken own load p ns)

  pub length-handed : (own load : ℕ) (p : Name) (t : Tree K) → length (handed m own load p t).nodes ≡ length t.nodes
  length-handed own load [] t = refl
  length-handed own load (s ∷ p) t =
      omega (arith, length-map {A = Node K} {B = Name}, ap length (names_taken m own load (s ∷ p) t.nodes))

-- what a node keeps once the prefix p has taken an own count over
pub record Ready {K : Type 0} (m : Meaning K) (e : ℕ) (all : List Name) (own : ℕ) (p : Name) (n : Node K) : Type 0 where
  pub valid : m.is_valid n.key ≡ true
  pub counted : any_beneath (name_at m n) all ≡ false → (0 < n.own) ⊎ ((name_at m n ≡ p) × (0 < own))
  pub slack_small : n.slack ≤ e
  pub ceiling_small : n.ceiling ≤ e

module _ {K : Type 0} (m : Meaning K) (e : ℕ) (all : List Name) (own : ℕ) (p : Name) where
  other_stands : (n : Node K) → (name_at m n ≡ p → ⊥) → Ready m e all own p n → Stands m e all n
  other_stands n d h = grind (arith, h.counted)

  others_stand : (ns : List (Node K)) → AllByRecursion (λ q. q ≡ p → ⊥) (names_of m ns) → AllByRecursion (Ready m e all own p) ns → AllByRecursion (Stands m e all) ns
  others_stand [] d h = tt
  others_stand (n ∷ ns) d h = (other_stands n d.0 h.0, others_stand ns d.1 h.1)

  module _ (load : ℕ) (small : load ≤ e) where
    taker_stands : (n : Node K) → Ready m e all own p n → Stands m e all (took own load n)
    taker_stands n h = grind (arith, h.counted)

    taken_stands : (ns : List (Node K)) → Sorted (names_of m ns) → AllByRecursion (Ready m e all own p) ns → AllByRecursion (Stands m e all) (taken m own load p ns)
    taken_stands [] s h = tt
    taken_stands (n ∷ ns) s h =
        cond_both (same_name (name_at m n) p) (took own load n ∷ ns) (n ∷ taken m own load p ns) (AllByRecursion (Stands m e all))
        (λ c.
        let later = All-weaker (λ q. name_before (name_at m n) q ≡ true) (λ q. q ≡ p → ⊥) (λ q b d. not_before_itself (name_at m n) q (name_same (name_at m n) p c ∙ sym d) b) (names_of m ns) s.0 in
        (taker_stands n h.0, others_stand ns later h.1))
        (λ c. (other_stands n (λ d. both_ways (same_name (name_at m n) p) c (rw d (name_refl p))) h.0, taken_stands ns s.1 h.1))

module _ {K : Type 0} (m : Meaning K) (total e own load : ℕ) (small : load ≤ e) where
  pub handed_sound : (p : Name) (r : Root) (ns : List (Node K)) → Formed (names_of m ns) → is_present (names_of m ns) p ≡ true → AllByRecursion (Ready m e (names_of m ns) own p) ns → r.ceiling ≤ e → r.own + own_sum ns + own ≡ total → total ≤ largest_total → SoundTree m total e (handed m own load p (tree_of r ns))
  handed_sound [] r ns f i h c a s =
      let qs = names_of m ns in
      record {
        formed = f;
        stands = others_stand m e qs own [] ns (All-weaker (Placed qs) (λ q. q ≡ [] → ⊥) (λ q k d. omega (arith, k.named, ap length d)) qs f.placed) h;
        root_small = omega arith;
        adds_up = omega (arith, owns_total m (handed m own load [] (tree_of r ns)).root ns);
        total_small = s;
      }
  handed_sound (q ∷ p) r ns f i h c a s =
      let after = taken m own load (q ∷ p) ns in
      let same = names_taken m own load (q ∷ p) ns in
      record {
        formed = rw same f;
        stands = rw same (taken_stands m e (names_of m ns) own (q ∷ p) load small ns f.ordered h);
        root_small = c;
        adds_up = omega (arith, owns_total m r after, own_taken m own load (q ∷ p) ns i);
        total_small = s;
      }
