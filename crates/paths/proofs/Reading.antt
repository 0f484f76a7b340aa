-- What a walk from the end of a part to its front keeps.
use Rattle.std.proofs.Common.{◌≡◌, ℕ, ◌+◌, ◌≤◌, Bool, true, false, cond, not, ◌&&◌, ◌||◌, eqb, leb, List, [], ◌∷◌, ◌++◌, length, Some, None, sym, refl, ap, ◌∙◌, ⊎_elim, arith}
use Rattle.std.proofs.lemmas.Bool.{and_parts, cases_Bool, both_ways, cond-false}
use Rattle.std.proofs.lemmas.List.{append_assoc, length-append}
use Rattle.paths.specs.declared.ByteClass.{ByteClass}
use Rattle.paths.specs.declared.ByteClass.TheVariants.{Slash, KeyEnd, Plain, Outside}
use Rattle.paths.specs.Path.{slash, head_of, steps_of, is_empty, class_of, may_stand, all_stand, none_empty, is_part, segment_count}
use Rattle.paths.specs.Laws.{at_slash, past_slash, part_holds}

-- classes

abbrev is_slash : ByteClass → Bool
is_slash Slash = true
is_slash KeyEnd = false
is_slash Plain = false
is_slash Outside = false

other_class : (x y : Bool) → is_slash (cond x KeyEnd (cond y Plain Outside)) ≡ false
other_class true y = refl
other_class false true = refl
other_class false false = refl

class_is_slash : (b : ℕ) → is_slash (class_of b) ≡ eqb b slash
class_is_slash b =
    ⊎_elim
    (λ t. rw t)
    (λ t. rw t (other_class (eqb b 63 || eqb b 35) (leb 0x21 b && leb b 0x7E)))
    (cases_Bool (eqb b slash))

refused_class : (k : ByteClass) → (k ≡ Slash → ⊥) → (k ≡ Plain → ⊥) → may_stand k ≡ false
refused_class Slash f g = absurd (f refl)
refused_class KeyEnd f g = refl
refused_class Plain f g = absurd (g refl)
refused_class Outside f g = refl

-- what has been read is s: all of it may stand, its steps are counted and not empty, and whether its head is filled
abbrev pub Read : List ℕ → ℕ → Bool → Type 0
Read s count filled =
    (all_stand s ≡ true) × (none_empty (steps_of s) ≡ true) × (count ≡ length (steps_of s)) × (filled ≡ not (is_empty (head_of s)))

-- the bytes are those that are left and behind them those that have been read
abbrev pub Walked : List ℕ → List ℕ → ℕ → Bool → Type 0
Walked xs rest count filled = (s : List ℕ) × (xs ≡ rest ++ s) × Read s count filled

moved : (xs front s : List ℕ) (b : ℕ) → xs ≡ (front ++ b ∷ []) ++ s → xs ≡ front ++ b ∷ s
moved xs front s b e = e ∙ append_assoc front (b ∷ []) s

steps_few : (bs : List ℕ) → length (steps_of bs) ≤ length bs
steps_few [] = omega arith
steps_few (b ∷ bs) =
    ⊎_elim
    (λ t. omega (arith, ap length (at_slash b bs t), steps_few bs))
    (λ t. omega (arith, ap length (past_slash b bs t), steps_few bs))
    (cases_Bool (eqb b slash))

pub count_few : (xs rest : List ℕ) (count : ℕ) (filled : Bool) → Walked xs rest count filled → count + length rest ≤ length xs
count_few xs rest count filled h = omega (arith, steps_few h.0, ap length h.1, length-append rest h.0, h.2.2)

-- what stands at the end of a part

back_stands : (front s : List ℕ) → all_stand (front ++ s) ≡ true → all_stand s ≡ true
back_stands [] s e = e
back_stands (b ∷ bs) s e = back_stands bs s (and_parts (may_stand (class_of b)) (all_stand (bs ++ s)) e).1

back_filled : (front s : List ℕ) → none_empty (steps_of (front ++ s)) ≡ true → none_empty (steps_of s) ≡ true
back_filled [] s e = e
back_filled (b ∷ bs) s e =
    ⊎_elim
    (λ t. back_filled bs s (and_parts (not (is_empty (head_of (bs ++ s)))) (none_empty (steps_of (bs ++ s))) (sym (ap none_empty (at_slash b (bs ++ s) t)) ∙ e)).1)
    (λ t. back_filled bs s (sym (ap none_empty (past_slash b (bs ++ s) t)) ∙ e))
    (cases_Bool (eqb b slash))

not_counted : (xs : List ℕ) → (is_part xs ≡ true → ⊥) → None ≡ segment_count xs
not_counted xs f =
    ⊎_elim
    (λ e. absurd (f e))
    (λ e. sym (cond-false (is_part xs) (Some (length (steps_of xs))) None e))
    (cases_Bool (is_part xs))

pub refused_byte : (xs rest front : List ℕ) (b count : ℕ) (filled : Bool) (k : ByteClass) → rest ≡ front ++ b ∷ [] → k ≡ class_of b → (k ≡ Slash → ⊥) → (k ≡ Plain → ⊥) → Walked xs rest count filled → None ≡ segment_count xs
refused_byte xs rest front b count filled k last e f g h =
    let whole = moved xs front h.0 b (h.1 ∙ ap (λ (r : List ℕ). r ++ h.0) last) in
    not_counted xs
    (λ part.
    let stand = back_stands front (b ∷ h.0) (sym (ap all_stand whole) ∙ (part_holds xs part).1) in
    both_ways (may_stand (class_of b)) (sym (ap may_stand e) ∙ refused_class k f g) (and_parts (may_stand (class_of b)) (all_stand h.0) stand).0)

pub refused_empty : (xs rest front : List ℕ) (b count : ℕ) (filled : Bool) → rest ≡ front ++ b ∷ [] → Slash ≡ class_of b → filled ≡ false → Walked xs rest count filled → None ≡ segment_count xs
refused_empty xs rest front b count filled last e f h =
    let t : eqb b slash ≡ true = sym (class_is_slash b) ∙ sym (ap is_slash e) in
    let s = h.0 in
    let whole = moved xs front s b (h.1 ∙ ap (λ (r : List ℕ). r ++ s) last) in
    not_counted xs
    (λ part.
    let full : none_empty (head_of s ∷ steps_of s) ≡ true =
    sym (ap none_empty (at_slash b s t)) ∙ back_filled front (b ∷ s) (sym (ap (λ (x : List ℕ). none_empty (steps_of x)) whole) ∙ (part_holds xs part).2) in
    both_ways (not (is_empty (head_of s))) (sym h.2.3 ∙ f) (and_parts (not (is_empty (head_of s))) (none_empty (steps_of s)) full).0)
