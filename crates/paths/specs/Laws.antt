-- What the laws of the path hierarchy rest on.
use Rattle.std.specs.Prelude.{◌≡◌, ℕ, zero, suc, ◌+◌, ◌≤◌, true, false, cond, not, ◌&&◌, List, [], ◌∷◌, length, take, drop, ◌==◌, nat_le, refl}
use Rattle.std.proofs.Common.{sym, ap, ◌∙◌, ⊎_elim, length-take, arith}
use Rattle.std.proofs.lemmas.Bool.{and_parts, and_from, cases_Bool, leb-true, le-leb, false≢true, both_ways, or_parts, or_from, cond-true, cond-false}
use Rattle.std.proofs.lemmas.List.{take-take}
use Rattle.prefix.specs.Name.{Step, Name, parent_name}
use Rattle.prefix.proofs.Names.{parent_level}
use Rattle.paths.specs.declared.Place.{Place}
use Rattle.paths.specs.Path.{slash, head_of, steps_of, is_empty, class_of, may_stand, all_stand, none_empty, is_segments, is_part, has_slash, last_slash}
use Rattle.paths.specs.Hierarchy.{bytes_at, lies, is_path, path_name, root_place, parent_place}

-- a front part of a part's bytes

last_slash_within : (bs : List ℕ) → last_slash bs ≤ length bs
last_slash_within [] = omega arith
last_slash_within (b ∷ bs) =
    elim (has_slash bs) as (λ v. cond v (suc (last_slash bs)) 0 ≤ suc (length bs))
    [ true ↦ omega (arith, last_slash_within bs) | false ↦ omega arith ]

front_headless : (n : ℕ) (bs : List ℕ) → is_empty (head_of bs) ≡ true → is_empty (head_of (take n bs)) ≡ true
front_headless zero bs e = refl
front_headless (suc n) [] e = refl
front_headless (suc n) (b ∷ bs) e =
    ⊎_elim
    (λ s. rw s)
    (λ s. absurd (false≢true (rw s at e)))
    (cases_Bool (b == slash))

front_stands : (n : ℕ) (bs : List ℕ) → all_stand bs ≡ true → all_stand (take n bs) ≡ true
front_stands zero bs e = refl
front_stands (suc n) [] e = refl
front_stands (suc n) (b ∷ bs) e =
    let h = and_parts (may_stand (class_of b)) (all_stand bs) e in
    and_from (may_stand (class_of b)) (all_stand (take n bs)) h.0 (front_stands n bs h.1)

-- a name without its last step

parent_none_empty : (p : Name) → none_empty p ≡ true → none_empty (parent_name p) ≡ true
parent_none_empty [] e = refl
parent_none_empty (s ∷ []) e = refl
parent_none_empty (s ∷ (t ∷ q)) e =
    let h = and_parts (not (is_empty s)) (none_empty (t ∷ q)) e in
    and_from (not (is_empty s)) (none_empty (parent_name (t ∷ q))) h.0 (parent_none_empty (t ∷ q) h.1)

-- a step before the last is followed by another
parent_cons : (s : Step) (p : Name) → is_empty p ≡ false → parent_name (s ∷ p) ≡ s ∷ parent_name p
parent_cons s [] e = absurd (false≢true (sym e))
parent_cons s (t ∷ q) e = refl

-- the cut at the last '/'

stepless : (bs : List ℕ) → has_slash bs ≡ false → steps_of bs ≡ []
stepless [] e = refl
stepless (b ∷ bs) e =
    let h = or_parts (b == slash) (has_slash bs) e in
    rw h.0 (stepless bs h.1)

stepped : (bs : List ℕ) → has_slash bs ≡ true → is_empty (steps_of bs) ≡ false
stepped [] e = absurd (false≢true e)
stepped (b ∷ bs) e =
    ⊎_elim
    (λ s. rw s)
    (λ s. rw s (stepped bs (rw s at e)))
    (cases_Bool (b == slash))

-- what a byte adds, by whether it is a '/'

pub at_slash : (b : ℕ) (bs : List ℕ) → (b == slash) ≡ true → steps_of (b ∷ bs) ≡ head_of bs ∷ steps_of bs
at_slash b bs e = rw e

pub past_slash : (b : ℕ) (bs : List ℕ) → (b == slash) ≡ false → steps_of (b ∷ bs) ≡ steps_of bs
past_slash b bs e = rw e

pub head_at_slash : (b : ℕ) (bs : List ℕ) → (b == slash) ≡ true → head_of (b ∷ bs) ≡ []
head_at_slash b bs e = rw e

pub head_past_slash : (b : ℕ) (bs : List ℕ) → (b == slash) ≡ false → head_of (b ∷ bs) ≡ b ∷ head_of bs
head_past_slash b bs e = rw e

cut_later : (b : ℕ) (bs : List ℕ) → has_slash bs ≡ true → take (last_slash (b ∷ bs)) (b ∷ bs) ≡ b ∷ take (last_slash bs) bs
cut_later b bs e = rw e

cut_here : (b : ℕ) (bs : List ℕ) → has_slash bs ≡ false → take (last_slash (b ∷ bs)) (b ∷ bs) ≡ []
cut_here b bs e = rw e

cut_head : (bs : List ℕ) → has_slash bs ≡ true → head_of (take (last_slash bs) bs) ≡ head_of bs
cut_head [] e = refl
cut_head (b ∷ bs) e =
    ⊎_elim
    (λ s.
    let rest = cut_head bs s in
    let cut = ap head_of (cut_later b bs s) in
    ⊎_elim
    (λ (t : (b == slash) ≡ true). cut ∙ rw t)
    (λ (t : (b == slash) ≡ false). cut ∙ rw t (ap (λ (h : Step). b ∷ h) rest))
    (cases_Bool (b == slash)))
    (λ s.
    ⊎_elim
    (λ (t : (b == slash) ≡ true). ap head_of (cut_here b bs s) ∙ rw t)
    (λ t. absurd (both_ways (has_slash (b ∷ bs)) (or_from (b == slash) (has_slash bs) t s) e))
    (cases_Bool (b == slash)))
    (cases_Bool (has_slash bs))

pub cut_steps : (bs : List ℕ) → steps_of (take (last_slash bs) bs) ≡ parent_name (steps_of bs)
cut_steps [] = refl
cut_steps (b ∷ bs) =
    ⊎_elim
    (λ s.
    let rest = cut_steps bs in
    let front = take (last_slash bs) bs in
    let cut = ap steps_of (cut_later b bs s) in
    ⊎_elim
    (λ t.
    let head = cut_head bs s in
    let joined : head_of front ∷ steps_of front ≡ head_of bs ∷ parent_name (steps_of bs) = cc in
    cut ∙ at_slash b front t ∙ joined ∙ sym (parent_cons (head_of bs) (steps_of bs) (stepped bs s)) ∙ ap parent_name (sym (at_slash b bs t)))
    (λ (t : (b == slash) ≡ false). cut ∙ rw t rest)
    (cases_Bool (b == slash)))
    (λ s.
    let none = stepless bs s in
    let cut = ap steps_of (cut_here b bs s) in
    ⊎_elim
    (λ (t : (b == slash) ≡ true). cut ∙ rw (t, none))
    (λ (t : (b == slash) ≡ false). cut ∙ rw (t, none))
    (cases_Bool (b == slash)))
    (cases_Bool (has_slash bs))

-- what makes a part

pub part_holds : (bs : List ℕ) → is_part bs ≡ true → (is_empty (head_of bs) ≡ true) × (all_stand bs ≡ true) × (none_empty (steps_of bs) ≡ true) × (length (steps_of bs) ≤ 8)
part_holds bs e =
    let h = and_parts (is_segments bs) (nat_le (length (steps_of bs)) 8) e in
    let k = and_parts (is_empty (head_of bs)) (all_stand bs && none_empty (steps_of bs)) h.0 in
    let m = and_parts (all_stand bs) (none_empty (steps_of bs)) k.1 in
    (k.0, m.0, m.1, leb-true (length (steps_of bs)) 8 h.1)

pub part_from : (bs : List ℕ) → is_empty (head_of bs) ≡ true → all_stand bs ≡ true → none_empty (steps_of bs) ≡ true → length (steps_of bs) ≤ 8 → is_part bs ≡ true
part_from bs headless stand filled few =
    and_from (is_segments bs) (nat_le (length (steps_of bs)) 8)
    (and_from (is_empty (head_of bs)) (all_stand bs && none_empty (steps_of bs)) headless (and_from (all_stand bs) (none_empty (steps_of bs)) stand filled))
    (le-leb (length (steps_of bs)) 8 few)

pub cut_part : (bs : List ℕ) → is_part bs ≡ true → is_part (take (last_slash bs) bs) ≡ true
cut_part bs e =
    let h = part_holds bs e in
    let n = last_slash bs in
    let steps = cut_steps bs in
    part_from (take n bs) (front_headless n bs h.0) (front_stands n bs h.1)
    (ap none_empty steps ∙ parent_none_empty (steps_of bs) h.2)
    (omega (arith, ap length steps, parent_level (steps_of bs), h.3))

-- the laws

pub valid_named : (text : List ℕ) (k : Place) → is_path text k ≡ true → path_name text k ≡ steps_of (bytes_at text k)
valid_named text k e = cond-true (is_path text k) (steps_of (bytes_at text k)) [] e

pub not_valid_nameless : (text : List ℕ) (k : Place) → is_path text k ≡ false → path_name text k ≡ []
not_valid_nameless text k e = cond-false (is_path text k) (steps_of (bytes_at text k)) [] e

pub not_deeper : (text : List ℕ) (k : Place) → length (path_name text k) ≤ 8
not_deeper text k =
    ⊎_elim
    (λ e.
    let part = (and_parts (lies text k) (is_part (bytes_at text k)) e).1 in
    omega (arith, ap length (valid_named text k e), (part_holds (bytes_at text k) part).3))
    (λ e. omega (arith, ap length (not_valid_nameless text k e)))
    (cases_Bool (is_path text k))

pub root_valid : (text : List ℕ) → is_path text root_place ≡ true
root_valid text = and_from (nat_le 0 (length text)) true (le-leb 0 (length text) (omega arith)) refl

pub root_nameless : (text : List ℕ) → path_name text root_place ≡ []
root_nameless text = rw (root_valid text)

-- the parent of a path has its offset, and ends where its last segment starts
cut_at : List ℕ → Place → Place
cut_at text k = record { offset = k.offset; length = last_slash (bytes_at text k) }

parent_is_cut : (text : List ℕ) (k : Place) → is_path text k ≡ true → parent_place text k ≡ cut_at text k
unfolding cut_at
parent_is_cut text k e = cond-true (is_path text k) (cut_at text k) k e

cut_short : (text : List ℕ) (k : Place) → last_slash (bytes_at text k) ≤ k.length
cut_short text k = omega (arith, last_slash_within (bytes_at text k), length-take k.length (drop k.offset text))

cut_bytes : (text : List ℕ) (k : Place) → bytes_at text (cut_at text k) ≡ take (last_slash (bytes_at text k)) (bytes_at text k)
unfolding cut_at
cut_bytes text k = sym (take-take (last_slash (bytes_at text k)) k.length (drop k.offset text) (cut_short text k))

cut_valid : (text : List ℕ) (k : Place) → is_path text k ≡ true → is_path text (cut_at text k) ≡ true
unfolding cut_at
cut_valid text k e =
    let h = and_parts (lies text k) (is_part (bytes_at text k)) e in
    let p = cut_at text k in
    and_from (lies text p) (is_part (bytes_at text p))
    (le-leb (p.offset + p.length) (length text) (omega (arith, cut_short text k, leb-true (k.offset + k.length) (length text) h.0)))
    (ap is_part (cut_bytes text k) ∙ cut_part (bytes_at text k) h.1)

pub parent_valid : (text : List ℕ) (k : Place) → is_path text k ≡ true → is_path text (parent_place text k) ≡ true
parent_valid text k e = ap (is_path text) (parent_is_cut text k e) ∙ cut_valid text k e

pub parent_named : (text : List ℕ) (k : Place) → path_name text (parent_place text k) ≡ parent_name (path_name text k)
unfolding cut_at
parent_named text k =
    ⊎_elim
    (λ e.
    ap (path_name text) (parent_is_cut text k e) ∙ valid_named text (cut_at text k) (cut_valid text k e) ∙ ap steps_of (cut_bytes text k)
    ∙ cut_steps (bytes_at text k) ∙ ap parent_name (sym (valid_named text k e)))
    (λ e.
    let nameless = not_valid_nameless text k e in
    ap (path_name text) (cond-false (is_path text k) (cut_at text k) k e) ∙ nameless ∙ ap parent_name (sym nameless))
    (cases_Bool (is_path text k))
