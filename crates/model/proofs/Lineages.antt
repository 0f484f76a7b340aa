-- Lineages: the nodes that an add makes for a key and its ancestors.
use Rattle.std.proofs.Common.{◌≡◌, ℕ, zero, suc, ◌<◌, true, [], ◌∷◌, length, refl, arith}
use Rattle.std.specs.List.{AllByRecursion}
use Rattle.std.proofs.lemmas.List.{length_push}
use Rattle.std.proofs.ByRecursion.{All-push}
use Rattle.prefix.specs.Name.{Name, name_before, parent_name}
use Rattle.prefix.specs.Meaning.{Meaning}
use Rattle.prefix.proofs.Names.{name_order}
use Rattle.model.specs.Summary.{fresh}
use Rattle.model.specs.Table.{lineage}
use Rattle.model.proofs.Names.{parent_first}
use Rattle.model.proofs.Nodes.{Earlier}

parent_before : (q p : Name) → name_before q p ≡ true → name_before (parent_name q) p ≡ true
parent_before [] p e = e
parent_before (s ∷ q) p e = name_order.transitive (parent_name (s ∷ q)) (s ∷ q) p (parent_first (s ∷ q) (omega arith)) e

module _ {K : Type 0} (m : Meaning K) where
  pub length_lineage : (k : K) (c j : ℕ) → length (lineage m k c j) ≡ j
  length_lineage k c zero = refl
  length_lineage k c (suc j) =
      omega (arith, length_push (lineage m (m.parent_of k) c j) (fresh k c), length_lineage (m.parent_of k) c j)

  lineage_earlier : (k : K) (c j : ℕ) (p : Name) → name_before (m.name_of k) p ≡ true → AllByRecursion (Earlier m p) (lineage m k c j)
  lineage_earlier k c zero p e = tt
  lineage_earlier k c (suc j) p e =
      let up = lineage_earlier (m.parent_of k) c j p (rw (m.parent_named k) (parent_before (m.name_of k) p e)) in
      All-push (Earlier m p) (lineage m (m.parent_of k) c j) (fresh k c) up e

  -- those of the ancestors alone come before the key
  pub ancestors_earlier : (k : K) (c j : ℕ) → 0 < length (m.name_of k) → AllByRecursion (Earlier m (m.name_of k)) (lineage m (m.parent_of k) c j)
  ancestors_earlier k c j h = lineage_earlier (m.parent_of k) c j (m.name_of k) (rw (m.parent_named k) (parent_first (m.name_of k) h))
