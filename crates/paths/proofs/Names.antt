-- A part is told by its steps, and two parts come in the order of their steps.
use Rattle.std.proofs.Common.{◌≡◌, ℕ, zero, suc, ◌<◌, Bool, true, false, ◌&&◌, ◌||◌, eqb, ltb, List, [], ◌∷◌, ◌++◌, sym, refl, ap, ◌∙◌, ⊎_elim, arith}
use Rattle.std.proofs.lemmas.Bool.{and_parts, cases_Bool, eqb-true, ne_eqb, lt-ltb, le-ltb, false≢true}
use Rattle.std.proofs.lemmas.Bool.Decides.{same_from_decides, nat_tests, Decides-eqb}
use Rattle.std.proofs.lemmas.Slice.Eq.{slice_eq-Decides}
use Rattle.std.specs.Cmp.Lexicographic.{pointwise}
use Rattle.prefix.specs.Name.{Step, Name, same_step, same_name, step_before, name_before}
use Rattle.prefix.proofs.Names.{name_same, name_refl}
use Rattle.paths.specs.Path.{slash, head_of, steps_of, is_empty, class_of, may_stand, all_stand, is_part, ranked_before}
use Rattle.paths.specs.Laws.{part_holds}

-- the bytes of a part, put together again from its steps

abbrev segments_of : Name → List ℕ
segments_of [] = []
segments_of (s ∷ p) = slash ∷ (s ++ segments_of p)

rejoined : (bs : List ℕ) → head_of bs ++ segments_of (steps_of bs) ≡ bs
rejoined [] = refl
rejoined (b ∷ bs) =
    let rest = rejoined bs in
    ⊎_elim
    (λ (t : eqb b slash ≡ true). rw (t, eqb-true b slash t) (ap (λ (x : List ℕ). slash ∷ x) rest))
    (λ (t : eqb b slash ≡ false). rw t (ap (λ (x : List ℕ). b ∷ x) rest))
    (cases_Bool (eqb b slash))

empty_is : (s : Step) → is_empty s ≡ true → s ≡ []
empty_is [] e = refl
empty_is (b ∷ s) e = absurd (false≢true e)

headless : (bs : List ℕ) → is_part bs ≡ true → head_of bs ≡ []
headless bs e = empty_is (head_of bs) (part_holds bs e).0

part_rejoined : (bs : List ℕ) → is_part bs ≡ true → segments_of (steps_of bs) ≡ bs
part_rejoined bs e = ap (λ (h : Step). h ++ segments_of (steps_of bs)) (sym (headless bs e)) ∙ rejoined bs

-- the order of two lists of bytes that may stand, with the bytes before their first '/' as a step of their own

-- the byte 0 stands in no part
standing : (b : ℕ) → may_stand (class_of b) ≡ true → 0 < b
standing zero e = absurd (false≢true e)
standing (suc b) e = omega arith

both_plain : (x y s t u n : Bool) → s ≡ (t || (u && n)) → (x || (y && s)) ≡ ((x || (y && t)) || ((y && u) && n))
both_plain x y s t u n e = grind (arith, nat_tests)

-- a list of bytes as a name: the step before its first '/', and those after
abbrev named : List ℕ → Name
named bs = head_of bs ∷ steps_of bs

ranked_named : (p q : List ℕ) → all_stand p ≡ true → all_stand q ≡ true → ranked_before p q ≡ name_before (named p) (named q)
ranked_named [] [] e f = refl
ranked_named [] (b ∷ q) e f =
    ⊎_elim (λ (t : eqb b slash ≡ true). rw t) (λ (t : eqb b slash ≡ false). rw t) (cases_Bool (eqb b slash))
ranked_named (a ∷ p) [] e f =
    ⊎_elim (λ (t : eqb a slash ≡ true). rw t) (λ (t : eqb a slash ≡ false). rw t) (cases_Bool (eqb a slash))
ranked_named (a ∷ p) (b ∷ q) e f =
    let h = and_parts (may_stand (class_of a)) (all_stand p) e in
    let k = and_parts (may_stand (class_of b)) (all_stand q) f in
    let rest = ranked_named p q h.1 k.1 in
    let some = standing a h.0 in
    let more = standing b k.0 in
    ⊎_elim
    (λ (t : eqb a slash ≡ true).
    ⊎_elim
    (λ (u : eqb b slash ≡ true). rw (t, u) rest)
    (λ (u : eqb b slash ≡ false). rw (t, u, lt-ltb 0 b more))
    (cases_Bool (eqb b slash)))
    (λ (t : eqb a slash ≡ false).
    ⊎_elim
    (λ (u : eqb b slash ≡ true). rw (t, u, le-ltb a 0 (omega arith), ne_eqb a 0 (λ z. omega arith)))
    (λ (u : eqb b slash ≡ false).
    rw (t, u)
    (both_plain (ltb a b) (eqb a b) (ranked_before p q) (step_before (head_of p) (head_of q)) (same_step (head_of p) (head_of q)) (name_before (steps_of p) (steps_of q)) rest))
    (cases_Bool (eqb b slash)))
    (cases_Bool (eqb a slash))

pub same_parts : (p q : List ℕ) (r : Bool) → r ≡ pointwise eqb p q → is_part p ≡ true → is_part q ≡ true → r ≡ same_name (steps_of p) (steps_of q)
same_parts p q r h e f =
    same_from_decides r (same_name (steps_of p) (steps_of q)) (slice_eq-Decides Decides-eqb p q r h) (
      (λ s. sym (part_rejoined p e) ∙ ap segments_of (name_same (steps_of p) (steps_of q) s) ∙ part_rejoined q f),
      (λ s. ap (λ (bs : List ℕ). same_name (steps_of bs) (steps_of q)) s ∙ name_refl (steps_of q)),
    )

pub part_order : (p q : List ℕ) → is_part p ≡ true → is_part q ≡ true → ranked_before p q ≡ name_before (steps_of p) (steps_of q)
part_order p q e f =
    let one = ap (λ (h : Step). h ∷ steps_of p) (headless p e) in
    let other = ap (λ (h : Step). h ∷ steps_of q) (headless q f) in
    ranked_named p q (part_holds p e).1 (part_holds q f).1
    ∙ ap (λ (n : Name). name_before n (named q)) one ∙ ap (name_before ([] ∷ steps_of p)) other
