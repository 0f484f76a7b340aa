-- The slots in use as a part of the table.
use Rattle.std.proofs.Common.{◌≡◌, ℕ, ◌+◌, ◌-◌, ◌≤◌, min, List, ◌++◌, length, take, drop, sym, refl, ap, ◌∙◌, arith}
use Rattle.std.proofs.lemmas.List.{append_assoc, length-append, length-take-le, length-drop, take-append-le, take_at, take-take, drop-take}
use Rattle.prefix.specs.Meaning.{Meaning}
use Rattle.model.specs.declared.Node.{Node}
use Rattle.model.specs.declared.Root.{Root}
use Rattle.model.specs.State.{Tree, largest_total}
use Rattle.model.specs.Summary.{swept_tree}
use Rattle.model.specs.Sound.{SoundTree}
use Rattle.model.specs.Table.{lineage}
use Rattle.model.proofs.Handing.{tree_of}
use Rattle.model.proofs.Lineages.{length_lineage}

-- what the front part is swept to stands at the front of the whole
pub swept_part : {K : Type 0} (m : Meaning K) (last after : List (Node K)) (kept : ℕ) (root' : Root) (e : ℕ) (t : Tree K) → kept ≤ length last → ((total : ℕ) → SoundTree m total e t → e ≤ largest_total → tree_of root' (take kept last) ≡ swept_tree m e t) → (total : ℕ) → SoundTree m total e t → e ≤ largest_total → tree_of root' (take kept (last ++ after)) ≡ swept_tree m e t
swept_part m last after kept root' e t within value =
    λ total s small. ap (tree_of root') (take-append-le kept last after within) ∙ value total s small

-- New nodes between the slots in use: `part` has them in place of the free slots at its end.
inserted_part : {X : Type 0} (ns made after : List X) (used at missing n : ℕ) → at ≤ used → used + missing ≤ length ns → length made ≡ missing → n ≡ used + missing - at → take (used + missing) (take at ns ++ ((made ++ take (length (take n (drop at ns)) - missing) (take n (drop at ns))) ++ after)) ≡ take at (take used ns) ++ (made ++ drop at (take used ns))
inserted_part {X} ns made after used at missing n low fits long size =
    let slots = take n (drop at ns) in
    let size' : length slots ≡ n = length-take-le n (drop at ns) (omega (arith, length-drop at ns)) in
    let shown : length slots - missing ≡ used - at = omega arith in
    let kept : take (length slots - missing) slots ≡ drop at (take used ns) = ap (λ i. take i slots) shown ∙ take-take (used - at) n (drop at ns) (omega arith) ∙ sym (drop-take at (used - at) ns) ∙ ap (λ i. drop at (take i ns)) (omega arith) in
    let front : take at (take used ns) ≡ take at ns = take-take at used ns low in
    let whole = take at ns ++ (made ++ drop at (take used ns)) in
    let wide : length whole ≡ used + missing = length-append (take at ns) (made ++ drop at (take used ns)) ∙ omega (arith, length-take-le at ns (omega arith), length-append made (drop at (take used ns)), length-drop at (take used ns), length-take-le used ns (omega arith)) in
    ap (λ (xs : List X). take (used + missing) (take at ns ++ ((made ++ xs) ++ after))) kept
    ∙ ap (take (used + missing)) (sym (append_assoc (take at ns) (made ++ drop at (take used ns)) after))
    ∙ take_at whole after (used + missing) wide
    ∙ ap (λ (xs : List X). xs ++ (made ++ drop at (take used ns))) (sym front)

pub inserted_slots : {K : Type 0} (m : Meaning K) (k : K) (c : ℕ) (ns last after : List (Node K)) (used at missing : ℕ) → at ≤ used → used + missing ≤ length ns → last ≡ lineage m k c (min missing (length (take (used + missing - at) (drop at ns)))) ++ take (length (take (used + missing - at) (drop at ns)) - missing) (take (used + missing - at) (drop at ns)) → take (used + missing) (take at ns ++ (last ++ after)) ≡ take at (take used ns) ++ (lineage m k c missing ++ drop at (take used ns))
inserted_slots {K} m k c ns last after used at missing low fits made =
    let size = used + missing - at in
    let long : length (take size (drop at ns)) ≡ size = length-take-le size (drop at ns) (omega (arith, length-drop at ns)) in
    let all : min missing (length (take size (drop at ns))) ≡ missing = omega arith in
    ap (λ (xs : List (Node K)). take (used + missing) (take at ns ++ (xs ++ after))) (made ∙ ap (λ j. lineage m k c j ++ take (length (take size (drop at ns)) - missing) (take size (drop at ns))) all)
    ∙ inserted_part ns (lineage m k c missing) after used at missing size low fits (length_lineage m k c missing) refl
