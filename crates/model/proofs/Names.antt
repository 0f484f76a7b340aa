-- Names in order, with every parent among them: where a name is looked up, which ancestors are there, and which names
-- lie beneath a prefix.
use Rattle.std.proofs.Common.{◌≡◌, ℕ, zero, suc, ◌+◌, ◌<◌, ◌≤◌, Bool, true, false, ltb, List, [], ◌∷◌, ◌++◌, ◌||◌, map, length, get_or, take, drop, sym, refl, ◌∙◌, inl, inr, one-add, arith}
use Rattle.std.specs.List.{prefix_len, AllByRecursion}
use Rattle.std.proofs.lemmas.List.{take-append-drop, take-take, length-take-le}
use Rattle.std.proofs.ByRecursion.{All-get_or}
use Rattle.std.proofs.lemmas.Bool.{false≢true, false_from_ne_true, cases_Bool, or_from, cond_both, ltb-true, ltb-false}
use Rattle.std.proofs.lemmas.List.Sums.{prefix_len_passes}
use Rattle.prefix.specs.Name.{Name, name_before, covers, above, parent_name}
use Rattle.prefix.proofs.Names.{order_laws, ancestry_laws, name_order, name_refl, not_before_itself}
use Rattle.model.specs.Summary.{among, is_present, any_beneath, missing_up}
use Rattle.model.specs.Sound.{Sorted, Placed, Formed}
use Rattle.model.specs.Table.{count_before, run_of}
use Rattle.model.proofs.Among.{at_or_beneath, later_beneath, covers_not_earlier, between_deeper, among_left, among_right, among_cases, among_here, among_later, among-cons, among_middle, among_parts, all_among, from_among, present_among, present_from, present_if, sorted_right, sorted_across, in_front, behind, earlier_in_front, sorted_left}

-- LONGEST FRONTS

pub prefix_len-map : {X Y : Type 0} (f : Y → Bool) (g : X → Y) (xs : List X) → prefix_len f (map g xs) ≡ prefix_len (λ x. f (g x)) xs
prefix_len-map f g [] = refl
prefix_len-map f g (x ∷ xs) = rw (prefix_len-map f g xs)

module _ {X : Type 0} (f : X → Bool) where
  pub leading_passes : (xs : List X) → AllByRecursion (λ x. f x ≡ true) (take (prefix_len f xs) xs)
  leading_passes [] = tt
  leading_passes (x ∷ xs) =
      cond_both (f x) (1 + prefix_len f xs) 0 (λ n. AllByRecursion (λ x. f x ≡ true) (take n (x ∷ xs))) (λ e. rw one-add (e, leading_passes xs)) (λ e. tt)

  -- the first of what is left fails
  abbrev pub Stops : List X → Type 0
  Stops [] = Unit {0}
  Stops (x ∷ xs) = f x ≡ false

  pub leading_stops : (xs : List X) → Stops (drop (prefix_len f xs) xs)
  leading_stops [] = tt
  leading_stops (x ∷ xs) =
      cond_both (f x) (1 + prefix_len f xs) 0 (λ n. Stops (drop n (x ∷ xs))) (λ e. rw one-add (leading_stops xs)) (λ e. e)

  leading_same : (g : X → Bool) (xs : List X) → AllByRecursion (λ x. f x ≡ g x) xs → prefix_len f xs ≡ prefix_len g xs
  leading_same g [] a = refl
  leading_same g (x ∷ xs) a = rw (a.0, leading_same g xs a.1)

-- LOOK-UPS

-- the two ways of a step of a binary search
pub before_counts : (qs : List Name) (p : Name) (i : ℕ) (d : Name) → Sorted qs → i < length qs → name_before (get_or qs i d) p ≡ true → i < count_before qs p
before_counts [] p i d s h e = absurd (omega arith)
before_counts (q ∷ qs) p zero d s h e = rw e (omega arith)
before_counts (q ∷ qs) p (suc i) d s h e =
    let short : i < length qs = omega arith in
    let first = name_order.transitive q (get_or qs i d) p (All-get_or (λ x. name_before q x ≡ true) qs i d short s.0) e in
    rw first (omega (arith, before_counts qs p i d s.1 short e))

pub after_counts : (qs : List Name) (p : Name) (i : ℕ) (d : Name) → i < length qs → name_before (get_or qs i d) p ≡ false → count_before qs p ≤ i
after_counts qs p i d h e = grind (arith, prefix_len_passes (λ q. name_before q p) qs i d)

-- a name that is there stands behind all that come before it
pub found_there : (qs : List Name) (p : Name) → Sorted qs → among qs p ≡ true → (count_before qs p < length qs) × ((d : Name) → get_or qs (count_before qs p) d ≡ p)
found_there [] p s e = absurd (false≢true e)
found_there (q ∷ qs) p s e =
    elim (among-cons q qs p e) [
      | inl k ↦ let first = false_from_ne_true (name_before q p) (not_before_itself q p k) in rw first (omega arith, λ d. k)
      | inr k ↦
          let first = all_among (λ x. name_before q x ≡ true) qs p s.0 k in
          let rest = found_there qs p s.1 k in
          rw (first, one-add) (omega arith, rest.1)
    ]

-- ANCESTORS

-- by the number of steps
ancestors_within : (qs : List Name) → Formed qs → (n : ℕ) (q p : Name) → length p ≤ n → among qs p ≡ true → covers q p ≡ true → 0 < length q → among qs q ≡ true
ancestors_within qs f zero q p l e c h = absurd (omega (arith, ancestry_laws.ancestor_no_deeper q p c))
ancestors_within qs f (suc n) q p l e c h =
    let up = parent_name p in
    let placed = all_among (Placed qs) qs p f.placed e in
    grind (arith, at_or_beneath q p c, ancestry_laws.parent_nearest q p, ancestry_laws.parent_level p, ancestry_laws.ancestor_no_deeper q up, present_among qs up, placed.parented, ancestors_within qs f n q up)

ancestors_present : (qs : List Name) → Formed qs → (q p : Name) → among qs p ≡ true → covers q p ≡ true → 0 < length q → among qs q ≡ true
ancestors_present qs f q p e c h = ancestors_within qs f (length p) q p (omega arith) e c h

-- where a front part is there, all shorter ones are
pub none_missing : (qs : List Name) → Formed qs → (p : Name) (k : ℕ) → k ≤ length p → is_present qs (take k p) ≡ true → missing_up qs p k ≡ 0
none_missing qs f p zero h e = refl
none_missing qs f p (suc k) h e =
    let front = take (suc k) p in
    let there = present_among qs front (omega (arith, length-take-le (suc k) p h)) e in
    let shorter = rw (take-take k (suc k) p (omega arith)) at (ancestry_laws.front_covers k front) in
    let up = present_from qs (take k p) (ancestors_present qs f (take k p) front there shorter) in
    rw there (omega (arith, none_missing qs f p k (omega arith) up))

-- a missing ancestor of p would stand where p would
pub missing_together : (qs : List Name) → Formed qs → (q p : Name) → among qs q ≡ false → 0 < length q → covers q p ≡ true → count_before qs q ≡ count_before qs p
missing_together qs f q p e h c =
    elim (at_or_beneath q p c) [
      | inl s ↦ rw s
      | inr a ↦
          let down : (x : Name) → name_before x q ≡ true → name_before x p ≡ true = λ x b. name_order.transitive x q p b (order_laws.ancestor_first q p a) in
          let back : (x : Name) → among qs x ≡ true → name_before x p ≡ true → name_before x q ≡ true =
          λ x k b. grind (arith, name_order.total x q, order_laws.beneath_together q x p a, ancestors_present qs f q x k) in
          leading_same (λ x. name_before x q) (λ x. name_before x p) qs
          (from_among (λ x. name_before x q ≡ name_before x p) qs (λ x k. grind (arith, down x, back x k)))
    ]

-- the parent comes before
pub parent_first : (p : Name) → 0 < length p → name_before (parent_name p) p ≡ true
parent_first p h = order_laws.ancestor_first (parent_name p) p (ancestry_laws.parent_above p h)

-- what holds of q in the midst
pub placed_here : (fs : List Name) (q : Name) (bs : List Name) → Formed (fs ++ q ∷ bs) → Placed (fs ++ q ∷ bs) q
placed_here fs q bs f = all_among (Placed (fs ++ q ∷ bs)) (fs ++ q ∷ bs) q f.placed (among_middle fs q bs)

-- the parent stands earlier
pub parent_earlier : (fs : List Name) (q : Name) (bs : List Name) → Formed (fs ++ q ∷ bs) → is_present fs (parent_name q) ≡ true
parent_earlier fs q bs f =
    let here = placed_here fs q bs f in
    present_if (fs ++ q ∷ bs) fs (parent_name q) (λ e. earlier_in_front fs q bs f.ordered (parent_name q) e (parent_first q here.named)) here.parented

-- of the names before q, the last of the level above it is its parent
pub last_is_parent : (xs : List Name) (p : Name) (ys : List Name) (q : Name) (bs : List Name) → Formed ((xs ++ p ∷ ys) ++ q ∷ bs) → length q ≡ length p + 1 → AllByRecursion (λ y. length y ≡ length p → ⊥) ys → parent_name q ≡ p
last_is_parent xs p ys q bs f h n =
    let fs = xs ++ p ∷ ys in
    let up = parent_name q in
    let level = ancestry_laws.parent_level q in
    let there = among_middle xs p ys in
    let named = (all_among (Placed (fs ++ q ∷ bs)) (fs ++ q ∷ bs) p f.placed (among_left fs (q ∷ bs) p there)).named in
    let sorted = sorted_left fs (q ∷ bs) f.ordered in
    let parts = among_parts xs p ys up (present_among fs up (omega arith) (parent_earlier fs q bs f)) in
    grind (arith, parts, between_deeper up p q (ancestry_laws.parent_above q (omega arith)), in_front xs p ys sorted up, in_front fs q bs f.ordered p there, all_among (λ y. length y ≡ length p → ⊥) ys up n)

-- WHAT LIES BENEATH

-- the next name, if there is one, has more steps
abbrev pub starts_deeper : ℕ → List Name → Bool
starts_deeper l [] = false
starts_deeper l (b ∷ bs) = ltb l (length b)

pub any_from : (p : Name) (qs : List Name) (q : Name) → among qs q ≡ true → above p q ≡ true → any_beneath p qs ≡ true
any_from p [] q e a = absurd (false≢true e)
any_from p (x ∷ qs) q e a = grind (arith, among-cons x qs q e, any_from p qs q)

none_from : (p : Name) (qs : List Name) → ((q : Name) → among qs q ≡ true → above p q ≡ false) → any_beneath p qs ≡ false
none_from p [] h = refl
none_from p (x ∷ qs) h =
    or_from (above p x) (any_beneath p qs) (h x (among_here x qs)) (none_from p qs (λ q e. h q (among_later x qs q e)))

pub any-append : (p : Name) (fs bs : List Name) → any_beneath p (fs ++ bs) ≡ (any_beneath p fs || any_beneath p bs)
any-append p [] bs = refl
any-append p (f ∷ fs) bs = grind (arith, any-append p fs bs)

-- more steps than q
abbrev deeper : Name → Name → Bool
deeper q b = ltb (length q) (length b)

module _ (fs : List Name) (q : Name) (ms rs : List Name) (f : Formed (fs ++ q ∷ (ms ++ rs))) where
  later : (b : Name) → among (ms ++ rs) b ≡ true → name_before q b ≡ true
  later = behind fs q (ms ++ rs) f.ordered

  sorted : Sorted (ms ++ rs)
  sorted = (sorted_right fs (q ∷ (ms ++ rs)) f.ordered).1

  not_in_front : (a : Name) → among fs a ≡ true → covers q a ≡ false
  not_in_front a e = false_from_ne_true (covers q a) (λ c. covers_not_earlier q a c (in_front fs q (ms ++ rs) f.ordered a e))

  -- after names with more steps, a name with more steps: its front part of q's length is none of them, so it is q
  run_covered : AllByRecursion (λ b. deeper q b ≡ true) ms → (b : Name) → among ms b ≡ true → covers q b ≡ true
  run_covered deep b h =
      let longer : (x : Name) → among ms x ≡ true → length q < length x = λ x k. ltb-true (length q) (length x) (all_among (λ x. deeper q x ≡ true) ms x deep k) in
      let front = take (length q) b in
      let level = length-take-le (length q) b (omega (arith, longer b h)) in
      let up = ancestry_laws.front_covers (length q) b in
      let after = later b (among_left ms rs b h) in
      let inside = among_right fs (q ∷ (ms ++ rs)) b (among_later q (ms ++ rs) b (among_left ms rs b h)) in
      let there = ancestors_present (fs ++ q ∷ (ms ++ rs)) f front b inside up (omega (arith, (placed_here fs q (ms ++ rs) f).named)) in
      let before = in_front fs q (ms ++ rs) f.ordered front in
      grind (arith, among_parts fs q (ms ++ rs) front there, among_cases ms rs front, before, name_order.transitive front q b, later_beneath front b up, between_deeper front q b, longer front, covers_not_earlier front b up, sorted_across ms rs sorted b front h)

-- once a name has no more steps than q, nothing lies beneath q any more
rest_not_covered : (fs : List Name) (q : Name) (ms rs : List Name) → Formed (fs ++ q ∷ (ms ++ rs)) → Stops (deeper q) rs → (b : Name) → among rs b ≡ true → covers q b ≡ false
rest_not_covered fs q ms [] f stop b h = absurd (false≢true h)
rest_not_covered fs q ms (r ∷ rs) f stop b h =
    let low = ltb-false (length q) (length r) stop in
    let after = later fs q ms (r ∷ rs) f in
    let behind-r = behind ms r rs (sorted fs q ms (r ∷ rs) f) b in
    grind (arith, low, among-cons r rs b h, later_beneath q b, after b (among_right ms (r ∷ rs) b h), ancestry_laws.above_is_shallower q b, between_deeper q r b, after r (among_middle ms r rs), behind-r)

-- the names beneath q are the run after it of names with more steps
pub run_beneath : (fs : List Name) (q : Name) (bs : List Name) → Formed (fs ++ q ∷ bs) → AllByRecursion (λ b. covers q b ≡ true) (take (run_of (length q) bs) bs) × AllByRecursion (λ b. covers q b ≡ false) (drop (run_of (length q) bs) bs) × AllByRecursion (λ a. covers q a ≡ false) fs
run_beneath fs q bs f =
    let n = run_of (length q) bs in
    let ms = take n bs in
    let rs = drop n bs in
    let g : Formed (fs ++ q ∷ (ms ++ rs)) = rw take-append-drop f in (
      from_among (λ b. covers q b ≡ true) ms (run_covered fs q ms rs g (leading_passes (deeper q) bs)),
      from_among (λ b. covers q b ≡ false) rs (rest_not_covered fs q ms rs g (leading_stops (deeper q) bs)),
      from_among (λ a. covers q a ≡ false) fs (not_in_front fs q ms rs g),
    )

-- where the next name has no more steps, nothing lies beneath q
beneath_none : (fs : List Name) (q : Name) (bs : List Name) → Formed (fs ++ q ∷ bs) → Stops (deeper q) bs → any_beneath q (fs ++ q ∷ bs) ≡ false
beneath_none fs q bs f stop =
    none_from q (fs ++ q ∷ bs) (λ x e. grind (arith, among_parts fs q bs x e, not_in_front fs q [] bs f x, name_refl, rest_not_covered fs q [] bs f stop x))

pub beneath_next : (fs : List Name) (q : Name) (bs : List Name) → Formed (fs ++ q ∷ bs) → any_beneath q (fs ++ q ∷ bs) ≡ starts_deeper (length q) bs
beneath_next fs q [] f = beneath_none fs q [] f tt
beneath_next fs q (b ∷ bs) f =
    elim (cases_Bool (deeper q b)) [
      | inl e ↦
          let down = run_covered fs q (b ∷ []) bs f (e, tt) b (among_here b []) in
          let beneath = later_beneath q b down (behind fs q (b ∷ bs) f.ordered b (among_here b bs)) in
          grind (arith, any-append q fs (q ∷ b ∷ bs))
      | inr e ↦ beneath_none fs q (b ∷ bs) f e ∙ sym e
    ]
