-- The nodes made for a key.
use Rattle.std.proofs.Common.{◌≡◌, ℕ, zero, suc, ◌-◌, ◌<◌, ◌≤◌, min, List, [], ◌++◌, length, take, drop, set, sym, refl, ap, ◌∙◌, subst, append_assoc, add-one, arith, length-drop, length-set}
use Rattle.std.specs.List.{AllWithin}
use Rattle.std.proofs.lemmas.List.Elements.{AllWithin-none, AllWithin-push}
use Rattle.std.proofs.lemmas.List.{drop_at, drop-set, take_at}
use Rattle.prefix.specs.Meaning.{Meaning}
use Rattle.model.specs.declared.Node.{Node}
use Rattle.model.specs.Summary.{fresh}
use Rattle.model.specs.Table.{lineage}
use Rattle.table.specs.Ancestors.{Starts}

module _ {K : Type 0} (m : Meaning K) (key : K) (ceiling : ℕ) where
  -- the slots from i on are written, for the key and its ancestors beneath up
  abbrev pub Written : List (Node K) → K → ℕ → Type 0
  Written made up i = lineage m up ceiling i ++ drop i made ≡ lineage m key ceiling (length made)

  written_step : (made : List (Node K)) (up : K) (k : ℕ) → k < length made → lineage m (m.parent_of up) ceiling k ++ drop k (set made k (fresh up ceiling)) ≡ lineage m up ceiling (suc k) ++ drop (suc k) made
  written_step made up k h = rw (drop-set made k (fresh up ceiling) h, add-one, append_assoc)

  pub written_more : (made : List (Node K)) (up next : K) (n : Node K) (i : ℕ) → 0 < i → i ≤ length made → n ≡ fresh up ceiling → next ≡ m.parent_of up → Written made up i → Written (set made (i - 1) n) next (i - 1)
  written_more made up next n i some within e f was =
      let k : ℕ = i - 1 in
      let h : k < length made = omega arith in
      let place : suc k ≡ i = omega arith in
      rw (e, f, length-set made k (fresh up ceiling)) (written_step made up k h ∙ ap (λ j. lineage m up ceiling j ++ drop j made) place ∙ was)

  -- all of them start from the ceiling
  lineage_starts : (up : K) (count : ℕ) → AllWithin (λ n. Starts n ceiling) (lineage m up ceiling count) 0 (length (lineage m up ceiling count))
  lineage_starts up zero = AllWithin-none (λ n. Starts n ceiling) [] 0
  lineage_starts up (suc count) =
      AllWithin-push (λ n. Starts n ceiling) (lineage m (m.parent_of up) ceiling count) (fresh up ceiling) (lineage_starts (m.parent_of up) count) (record { own_none = refl; slack_is = refl; ceiling_is = refl })

  pub written_starts : (made : List (Node K)) (up : K) (i : ℕ) → i ≤ 0 → Written made up i → AllWithin (λ n. Starts n ceiling) made 0 (length made)
  written_starts made up zero h was =
      subst (λ ns. AllWithin (λ n. Starts n ceiling) ns 0 (length ns)) (sym was) (lineage_starts key (length made))
  written_starts made up (suc i) h was = absurd (omega arith)

  -- nodes made at the front of slots whose last ones were moved there
  pub inserted : (slots rotated made : List (Node K)) (missing count k : ℕ) → count ≡ min missing (length slots) → k ≡ count → rotated ≡ drop (length slots - count) slots ++ take (length slots - count) slots → made ≡ lineage m key ceiling (length (take k rotated)) → made ++ drop k rotated ≡ lineage m key ceiling (min missing (length slots)) ++ take (length slots - missing) slots
  inserted slots rotated made missing count k e f r made_is =
      let size : ℕ = length slots in
      let front : length (drop (size - count) slots) ≡ k = length-drop (size - count) slots ∙ omega arith in
      let left : drop k rotated ≡ take (size - count) slots = ap (drop k) r ∙ drop_at (drop (size - count) slots) (take (size - count) slots) k front in
      let long : length (take k rotated) ≡ min missing size = ap (λ (ns : List (Node K)). length (take k ns)) r ∙ ap length (take_at (drop (size - count) slots) (take (size - count) slots) k front) ∙ front ∙ f ∙ e in
      let rest : size - count ≡ size - missing = omega arith in
      rw (made_is, long, left, rest)
