-- Two names, the names that a list has, and lists of names in order.
use Rattle.std.proofs.Common.{◌≡◌, ℕ, ◌<◌, true, false, ◌||◌, ◌⊎◌, List, [], ◌∷◌, ◌++◌, length, get_or, refl, inl, inr, subst, arith}
use Rattle.std.specs.List.{AllByRecursion}
use Rattle.std.proofs.ByRecursion.{All-append, All-get_or}
use Rattle.std.proofs.lemmas.Bool.{false≢true, or_right}
use Rattle.prefix.specs.Name.{Name, same_name, name_before, covers, above}
use Rattle.prefix.proofs.Names.{order_laws, ancestry_laws, name_order, name_same, name_refl, not_before_itself}
use Rattle.model.specs.Summary.{among, is_present}
use Rattle.model.specs.Sound.{Sorted}

-- TWO NAMES

-- a name does not come before one that is it, or that comes before it
not_back : (p q : Name) → name_before p q ≡ true → name_before q p ≡ true → ⊥
not_back p q e f = grind (arith, name_order.transitive p q p, name_order.irreflexive)

pub earlier_other : (p q : Name) → name_before p q ≡ true → same_name p q ≡ false
earlier_other p q e = grind (arith, name_same p q, name_order.irreflexive)

-- a name at or beneath p is p, or beneath it
pub at_or_beneath : (p q : Name) → covers p q ≡ true → (p ≡ q) ⊎ (above p q ≡ true)
at_or_beneath p q e = grind (arith, name_same p q)

pub later_beneath : (p q : Name) → covers p q ≡ true → name_before p q ≡ true → above p q ≡ true
later_beneath p q e f = grind (arith, name_same p q, name_order.irreflexive)

pub covers_not_earlier : (p q : Name) → covers p q ≡ true → name_before q p ≡ true → ⊥
covers_not_earlier p q e f = grind (arith, at_or_beneath p q e, not_before_itself q p, not_back q p, order_laws.ancestor_first p q)

-- what stands between a prefix and a name beneath it has more steps
pub between_deeper : (p q r : Name) → above p r ≡ true → name_before p q ≡ true → name_before q r ≡ true → length p < length q
between_deeper p q r e f g = ancestry_laws.above_is_shallower p q (order_laws.beneath_together p q r e f g)

-- AMONG

pub among-append : (fs bs : List Name) (p : Name) → among (fs ++ bs) p ≡ (among fs p || among bs p)
among-append [] bs p = refl
among-append (f ∷ fs) bs p = grind (arith, among-append fs bs p)

pub among_left : (fs bs : List Name) (p : Name) → among fs p ≡ true → among (fs ++ bs) p ≡ true
among_left fs bs p e = rw (among-append, e)

pub among_right : (fs bs : List Name) (p : Name) → among bs p ≡ true → among (fs ++ bs) p ≡ true
among_right fs bs p e = grind (arith, among-append)

pub among_cases : (fs bs : List Name) (p : Name) → among (fs ++ bs) p ≡ true → (among fs p ≡ true) ⊎ (among bs p ≡ true)
among_cases fs bs p e = grind (arith, among-append)

pub among_here : (q : Name) (bs : List Name) → among (q ∷ bs) q ≡ true
among_here q bs = rw name_refl

pub among_later : (q : Name) (bs : List Name) (p : Name) → among bs p ≡ true → among (q ∷ bs) p ≡ true
among_later q bs p e = or_right (same_name q p) (among bs p) e

pub among-cons : (q : Name) (bs : List Name) (p : Name) → among (q ∷ bs) p ≡ true → (q ≡ p) ⊎ (among bs p ≡ true)
among-cons q bs p e = grind (arith, name_same q p)

-- with q in the midst: q itself, and what is in front of it or behind it
pub among_middle : (fs : List Name) (q : Name) (bs : List Name) → among (fs ++ q ∷ bs) q ≡ true
among_middle fs q bs = among_right fs (q ∷ bs) q (among_here q bs)

pub among_wider : (fs : List Name) (q : Name) (bs : List Name) (p : Name) → among (fs ++ bs) p ≡ true → among (fs ++ q ∷ bs) p ≡ true
among_wider fs q bs p e = grind (arith, among-append)

pub among_but : (fs : List Name) (q : Name) (bs : List Name) (p : Name) → among (fs ++ q ∷ bs) p ≡ true → (q ≡ p) ⊎ (among (fs ++ bs) p ≡ true)
among_but fs q bs p e = grind (arith, among-append, name_same q p)

pub among_parts : (fs : List Name) (q : Name) (bs : List Name) (p : Name) → among (fs ++ q ∷ bs) p ≡ true → (among fs p ≡ true) ⊎ ((q ≡ p) ⊎ (among bs p ≡ true))
among_parts fs q bs p e = grind (arith, among-append, name_same q p)

-- what holds of each holds of one among them, and back
pub all_among : (P : Name → Type 0) (qs : List Name) (p : Name) → AllByRecursion P qs → among qs p ≡ true → P p
all_among P [] p a e = absurd (false≢true e)
all_among P (q ∷ qs) p a e = elim (among-cons q qs p e) [ inl s ↦ subst P s a.0 | inr h ↦ all_among P qs p a.1 h ]

pub from_among : (P : Name → Type 0) (qs : List Name) → ((p : Name) → among qs p ≡ true → P p) → AllByRecursion P qs
from_among P [] h = tt
from_among P (q ∷ qs) h = (h q (among_here q qs), from_among P qs (λ p e. h p (among_later q qs p e)))

pub among_at : (qs : List Name) (i : ℕ) (d : Name) → i < length qs → among qs (get_or qs i d) ≡ true
among_at qs i d h = All-get_or (λ q. among qs q ≡ true) qs i d h (from_among (λ q. among qs q ≡ true) qs (λ q e. e))

-- the root is present anyway
pub present_among : (qs : List Name) (p : Name) → 0 < length p → is_present qs p ≡ true → among qs p ≡ true
present_among qs [] h e = absurd (omega arith)
present_among qs (s ∷ p) h e = e

pub present_from : (qs : List Name) (p : Name) → (0 < length p → among qs p ≡ true) → is_present qs p ≡ true
present_from qs [] h = refl
present_from qs (s ∷ p) h = h (omega arith)

pub present_from_among : (qs : List Name) (p : Name) → among qs p ≡ true → is_present qs p ≡ true
present_from_among qs p e = present_from qs p (λ _. e)

pub present_if : (qs rs : List Name) (p : Name) → (among qs p ≡ true → among rs p ≡ true) → is_present qs p ≡ true → is_present rs p ≡ true
present_if qs rs p h e = present_from rs p (λ l. h (present_among qs p l e))

-- IN ORDER

pub all_parts : {X : Type 0} (P : X → Type 0) (xs ys : List X) → AllByRecursion P (xs ++ ys) → AllByRecursion P xs × AllByRecursion P ys
all_parts P [] ys h = (tt, h)
all_parts P (x ∷ xs) ys h = let rest = all_parts P xs ys h.1 in ((h.0, rest.0), rest.1)

pub sorted_left : (fs bs : List Name) → Sorted (fs ++ bs) → Sorted fs
sorted_left [] bs s = tt
sorted_left (f ∷ fs) bs s = ((all_parts (λ q. name_before f q ≡ true) fs bs s.0).0, sorted_left fs bs s.1)

pub sorted_right : (fs bs : List Name) → Sorted (fs ++ bs) → Sorted bs
sorted_right [] bs s = s
sorted_right (f ∷ fs) bs s = sorted_right fs bs s.1

pub sorted_across : (fs bs : List Name) → Sorted (fs ++ bs) → (p q : Name) → among fs p ≡ true → among bs q ≡ true → name_before p q ≡ true
sorted_across [] bs s p q e g = absurd (false≢true e)
sorted_across (f ∷ fs) bs s p q e g =
    grind (arith, among-cons f fs p e, all_among (λ x. name_before f x ≡ true) (fs ++ bs) q s.0 (among_right fs bs q g), sorted_across fs bs s.1 p q)

pub sorted_append : (fs bs : List Name) → Sorted fs → Sorted bs → ((p q : Name) → among fs p ≡ true → among bs q ≡ true → name_before p q ≡ true) → Sorted (fs ++ bs)
sorted_append [] bs s t h = t
sorted_append (f ∷ fs) bs s t h = (
  All-append (λ q. name_before f q ≡ true) fs bs s.0 (from_among (λ q. name_before f q ≡ true) bs (λ q. h f q (among_here f fs))),
  sorted_append fs bs s.1 t (λ p q e. h p q (among_later f fs p e)),
)

-- around q
module _ (fs : List Name) (q : Name) (bs : List Name) (s : Sorted (fs ++ q ∷ bs)) where
  pub in_front : (p : Name) → among fs p ≡ true → name_before p q ≡ true
  in_front p e = sorted_across fs (q ∷ bs) s p q e (among_here q bs)

  pub behind : (p : Name) → among bs p ≡ true → name_before q p ≡ true
  behind p e = all_among (λ p. name_before q p ≡ true) bs p (sorted_right fs (q ∷ bs) s).0 e

  -- one that comes before q is in front of it
  pub earlier_in_front : (p : Name) → among (fs ++ q ∷ bs) p ≡ true → name_before p q ≡ true → among fs p ≡ true
  earlier_in_front p e h = grind (arith, among_parts fs q bs p e, behind p, not_back p q, not_before_itself p q)
