-- Lists compared element by element have the laws of their elements' order.
use Rattle.std.proofs.Common.{◌≡◌, ℕ, zero, suc, ◌≤◌, Bool, true, false, ◌&&◌, ◌||◌, eqb, ltb, ◌⊎◌, List, [], ◌∷◌, length, take, sym, refl, ap, ◌∙◌, inl, inr, ⊎_elim, arith, length-take}
use Rattle.std.proofs.lemmas.Bool.{and_parts, and_from, and_right, or_cases, or_from, or_left, or_right, false≢true, both_ways, ltb-true, lt-ltb, le-ltb, cases_order}
use Rattle.std.proofs.lemmas.Bool.Decides.{Decides-eqb}
use Rattle.prefix.specs.Order.{same_by, front_by, before_by, StrictTotalOrder}

pub byte_order : StrictTotalOrder eqb ltb
byte_order =
    record {
      same_is_equal = Decides-eqb;
      irreflexive = λ x. le-ltb x x (omega arith);
      transitive = λ x y z e f. lt-ltb x z (omega (arith, ltb-true x y e, ltb-true y z f));
      total = λ x y.
          ⊎_elim
          (λ e. inl e)
          (λ h. ⊎_elim (λ l. inr (inl (lt-ltb x y l))) (λ l. inr (inr (lt-ltb y x l))) h)
          (cases_order x y);
    }

module _ {A : Type 0} (same before : A → A → Bool) (o : StrictTotalOrder same before) where
  pub same_equal : (p q : List A) → same_by same p q ≡ true → p ≡ q
  same_equal [] [] e = refl
  same_equal [] (b ∷ q) e = absurd (false≢true e)
  same_equal (a ∷ p) [] e = absurd (false≢true e)
  same_equal (a ∷ p) (b ∷ q) e =
      let h = and_parts (same a b) (same_by same p q) e in
      let first = (o.same_is_equal a b).0 h.0 in
      let rest = same_equal p q h.1 in cc

  pub same_refl : (p : List A) → same_by same p p ≡ true
  same_refl [] = refl
  same_refl (a ∷ p) = and_from (same a a) (same_by same p p) ((o.same_is_equal a a).1 refl) (same_refl p)

  -- two elements that are the same, with another
  like_before : (a b c : A) → same a b ≡ true → before b c ≡ true → before a c ≡ true
  like_before a b c e f = ap (λ (x : A). before x c) ((o.same_is_equal a b).0 e) ∙ f

  before_like : (a b c : A) → before a b ≡ true → same b c ≡ true → before a c ≡ true
  before_like a b c e f = ap (before a) (sym ((o.same_is_equal b c).0 f)) ∙ e

  like_like : (a b c : A) → same a b ≡ true → same b c ≡ true → same a c ≡ true
  like_like a b c e f = ap (λ (x : A). same x c) ((o.same_is_equal a b).0 e) ∙ f

  not_itself : (a : A) → before a a ≡ true → ⊥
  not_itself a e = both_ways (before a a) (o.irreflexive a) e

  list_irreflexive : (p : List A) → before_by same before p p ≡ false
  list_irreflexive [] = refl
  list_irreflexive (a ∷ p) =
      or_from (before a a) (same a a && before_by same before p p) (o.irreflexive a)
      (and_right (same a a) (before_by same before p p) (list_irreflexive p))

  -- what comes of the first elements of two lists
  First : A → A → Bool → Type 0
  First a b rest = (before a b ≡ true) ⊎ ((same a b ≡ true) × (rest ≡ true))

  firsts : (a b : A) (p q : List A) → before_by same before (a ∷ p) (b ∷ q) ≡ true → First a b (before_by same before p q)
  unfolding First
  firsts a b p q e =
      ⊎_elim
      (λ h. inl h)
      (λ h. inr (and_parts (same a b) (before_by same before p q) h))
      (or_cases (before a b) (same a b && before_by same before p q) e)

  by_first : (a b : A) (rest : Bool) → before a b ≡ true → (before a b || (same a b && rest)) ≡ true
  by_first a b rest h = or_left (before a b) (same a b && rest) h

  by_rest : (a b : A) (rest : Bool) → same a b ≡ true → rest ≡ true → (before a b || (same a b && rest)) ≡ true
  by_rest a b rest h k = or_right (before a b) (same a b && rest) (and_from (same a b) rest h k)

  list_transitive : (p q r : List A) → before_by same before p q ≡ true → before_by same before q r ≡ true → before_by same before p r ≡ true
  unfolding First
  list_transitive [] [] r e f = absurd (false≢true e)
  list_transitive [] (b ∷ q) [] e f = absurd (false≢true f)
  list_transitive [] (b ∷ q) (c ∷ r) e f = refl
  list_transitive (a ∷ p) [] r e f = absurd (false≢true e)
  list_transitive (a ∷ p) (b ∷ q) [] e f = absurd (false≢true f)
  list_transitive (a ∷ p) (b ∷ q) (c ∷ r) e f =
      let rest = before_by same before p r in
      ⊎_elim
      (λ h.
      ⊎_elim
      (λ k. by_first a c rest (o.transitive a b c h k))
      (λ k. by_first a c rest (before_like a b c h k.0))
      (firsts b c q r f))
      (λ h.
      ⊎_elim
      (λ k. by_first a c rest (like_before a b c h.0 k))
      (λ k. by_rest a c rest (like_like a b c h.0 k.0) (list_transitive p q r h.1 k.1))
      (firsts b c q r f))
      (firsts a b p q e)

  list_total : (p q : List A) → (p ≡ q) ⊎ ((before_by same before p q ≡ true) ⊎ (before_by same before q p ≡ true))
  list_total [] [] = inl refl
  list_total [] (b ∷ q) = inr (inl refl)
  list_total (a ∷ p) [] = inr (inr refl)
  list_total (a ∷ p) (b ∷ q) =
      let left = before_by same before p q in
      let right = before_by same before q p in
      ⊎_elim
      (λ e.
      ⊎_elim
      (λ h. inl cc)
      (λ h.
      ⊎_elim
      (λ k. inr (inl (by_rest a b left ((o.same_is_equal a b).1 e) k)))
      (λ k. inr (inr (by_rest b a right ((o.same_is_equal b a).1 (sym e)) k)))
      h)
      (list_total p q))
      (λ h.
      ⊎_elim
      (λ k. inr (inl (by_first a b left k)))
      (λ k. inr (inr (by_first b a right k)))
      h)
      (o.total a b)

  pub list_order : StrictTotalOrder (same_by same) (before_by same before)
  list_order =
      record {
        same_is_equal = λ p q. (same_equal p q, λ e. ap (same_by same p) (sym e) ∙ same_refl p);
        irreflexive = list_irreflexive;
        transitive = list_transitive;
        total = list_total;
      }

  -- a front part comes first, unless it is all
  pub front_first : (p q : List A) → front_by same p q ≡ true → (p ≡ q) ⊎ (before_by same before p q ≡ true)
  front_first [] [] e = inl refl
  front_first [] (b ∷ q) e = inr refl
  front_first (a ∷ p) [] e = absurd (false≢true e)
  front_first (a ∷ p) (b ∷ q) e =
      let h = and_parts (same a b) (front_by same p q) e in
      let first = (o.same_is_equal a b).0 h.0 in
      ⊎_elim
      (λ k. inl cc)
      (λ k. inr (by_rest a b (before_by same before p q) h.0 k))
      (front_first p q h.1)

  -- what stands between a list and one that it is a front part of
  pub front_between : (p q r : List A) → front_by same p r ≡ true → before_by same before p q ≡ true → before_by same before q r ≡ true → front_by same p q ≡ true
  unfolding First
  front_between [] q r e f g = refl
  front_between (a ∷ p) q [] e f g = absurd (false≢true e)
  front_between (a ∷ p) [] (c ∷ r) e f g = absurd (false≢true f)
  front_between (a ∷ p) (b ∷ q) (c ∷ r) e f g =
      let h = and_parts (same a c) (front_by same p r) e in
      let back : (x : A) → before x c ≡ true → before x a ≡ true = λ x k. ap (before x) ((o.same_is_equal a c).0 h.0) ∙ k in
      ⊎_elim
      (λ k.
      ⊎_elim
      (λ m. absurd (not_itself a (o.transitive a b a k (back b m))))
      (λ m. absurd (not_itself a (back a (before_like a b c k m.0))))
      (firsts b c q r g))
      (λ k.
      ⊎_elim
      (λ m. absurd (not_itself a (like_before a b a k.0 (back b m))))
      (λ m. and_from (same a b) (front_by same p q) k.0 (front_between p q r h.1 k.1 m.1))
      (firsts b c q r g))
      (firsts a b p q f)

  pub front_refl : (p : List A) → front_by same p p ≡ true
  front_refl [] = refl
  front_refl (a ∷ p) = and_from (same a a) (front_by same p p) ((o.same_is_equal a a).1 refl) (front_refl p)

  pub front_trans : (p q r : List A) → front_by same p q ≡ true → front_by same q r ≡ true → front_by same p r ≡ true
  front_trans [] q r e f = refl
  front_trans (a ∷ p) [] r e f = absurd (false≢true e)
  front_trans (a ∷ p) (b ∷ q) [] e f = absurd (false≢true f)
  front_trans (a ∷ p) (b ∷ q) (c ∷ r) e f =
      let h = and_parts (same a b) (front_by same p q) e in
      let k = and_parts (same b c) (front_by same q r) f in
      and_from (same a c) (front_by same p r) (like_like a b c h.0 k.0) (front_trans p q r h.1 k.1)

  -- two front parts of one list
  pub fronts_compare : (p q r : List A) → front_by same p r ≡ true → front_by same q r ≡ true → (front_by same p q ≡ true) ⊎ (front_by same q p ≡ true)
  fronts_compare [] q r e f = inl refl
  fronts_compare (a ∷ p) [] r e f = inr refl
  fronts_compare (a ∷ p) (b ∷ q) [] e f = absurd (false≢true e)
  fronts_compare (a ∷ p) (b ∷ q) (c ∷ r) e f =
      let h = and_parts (same a c) (front_by same p r) e in
      let k = and_parts (same b c) (front_by same q r) f in
      let first : a ≡ b = (o.same_is_equal a c).0 h.0 ∙ sym ((o.same_is_equal b c).0 k.0) in
      ⊎_elim
      (λ m. inl (and_from (same a b) (front_by same p q) ((o.same_is_equal a b).1 first) m))
      (λ m. inr (and_from (same b a) (front_by same q p) ((o.same_is_equal b a).1 (sym first)) m))
      (fronts_compare p q r h.1 k.1)

  pub front_of_take : (n : ℕ) (p : List A) → front_by same (take n p) p ≡ true
  front_of_take zero p = refl
  front_of_take (suc n) [] = refl
  front_of_take (suc n) (a ∷ p) = and_from (same a a) (front_by same (take n p) p) ((o.same_is_equal a a).1 refl) (front_of_take n p)

  pub take_front : (p q : List A) → front_by same p q ≡ true → take (length p) q ≡ p
  take_front [] q e = refl
  take_front (a ∷ p) [] e = absurd (false≢true e)
  take_front (a ∷ p) (b ∷ q) e =
      let h = and_parts (same a b) (front_by same p q) e in
      let first = (o.same_is_equal a b).0 h.0 in
      let rest = take_front p q h.1 in cc

  pub front_no_longer : (p q : List A) → front_by same p q ≡ true → length p ≤ length q
  front_no_longer p q e = omega (arith, ap length (take_front p q e), length-take (length p) q)
