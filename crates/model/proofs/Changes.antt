-- A list of names stays formed where a name with nothing beneath it goes, and where a name with its parent there comes in.
use Rattle.std.proofs.Common.{◌≡◌, ◌<◌, true, false, List, [], ◌∷◌, ◌++◌, length, take, drop, subst, inl, inr, arith}
use Rattle.std.specs.List.{AllByRecursion}
use Rattle.std.proofs.lemmas.List.{take-append-drop}
use Rattle.std.proofs.ByRecursion.{All-weaker}
use Rattle.prefix.specs.Name.{Name, name_before, parent_name}
use Rattle.prefix.proofs.Names.{ancestry_laws, name_order}
use Rattle.model.specs.Summary.{among, is_present, any_beneath}
use Rattle.model.specs.Sound.{Sorted, Placed, Formed}
use Rattle.model.specs.Table.{count_before}
use Rattle.model.proofs.Among.{among-append, among_but, among_here, among_later, among-cons, among_wider, all_among, from_among, present_if, sorted_left, sorted_right, sorted_across, sorted_append}
use Rattle.model.proofs.Names.{Stops, leading_passes, leading_stops, any_from}

placed_if : (qs rs : List Name) (p : Name) → (among qs (parent_name p) ≡ true → among rs (parent_name p) ≡ true) → Placed qs p → Placed rs p
placed_if qs rs p more h = record { named = h.named; parented = present_if qs rs (parent_name p) more h.parented }

pub leaf_goes : (fs : List Name) (q : Name) (bs : List Name) → Formed (fs ++ q ∷ bs) → any_beneath q (fs ++ q ∷ bs) ≡ false → Formed (fs ++ bs)
leaf_goes fs q bs f e =
    let all = fs ++ q ∷ bs in
    let keeps : (x : Name) → among (fs ++ bs) x ≡ true → Placed (fs ++ bs) x =
    λ x h.
    let there = among_wider fs q bs x h in
    let was = all_among (Placed all) all x f.placed there in
    let up = ancestry_laws.parent_above x was.named in
    placed_if all (fs ++ bs) x (λ k. grind (arith, among_but fs q bs (parent_name x) k, any_from q all x there)) was in
    record {
      ordered = sorted_append fs bs (sorted_left fs (q ∷ bs) f.ordered) (sorted_right fs (q ∷ bs) f.ordered).1 (λ x y h k. sorted_across fs (q ∷ bs) f.ordered x y h (among_later q bs y k));
      placed = from_among (Placed (fs ++ bs)) (fs ++ bs) keeps;
    }

-- into its place
joins_between : (fs : List Name) (q : Name) (bs : List Name) → Formed (fs ++ bs) → 0 < length q → is_present (fs ++ bs) (parent_name q) ≡ true → AllByRecursion (λ a. name_before a q ≡ true) fs → AllByRecursion (λ b. name_before q b ≡ true) bs → Formed (fs ++ q ∷ bs)
joins_between fs q bs f h e before after =
    let all = fs ++ q ∷ bs in
    let new : Placed all q = record { named = h; parented = present_if (fs ++ bs) all (parent_name q) (among_wider fs q bs (parent_name q)) e } in
    let places : (x : Name) → among all x ≡ true → Placed all x =
    λ x k.
    elim (among_but fs q bs x k) [
      | inl s ↦ subst (Placed all) s new
      | inr l ↦ placed_if (fs ++ bs) all x (among_wider fs q bs (parent_name x)) (all_among (Placed (fs ++ bs)) (fs ++ bs) x f.placed l)
    ] in
    let across : (x y : Name) → among fs x ≡ true → among (q ∷ bs) y ≡ true → name_before x y ≡ true =
    λ x y k l. grind (arith, among-cons q bs y l, all_among (λ a. name_before a q ≡ true) fs x before k, sorted_across fs bs f.ordered x y k) in
    record {
      ordered = sorted_append fs (q ∷ bs) (sorted_left fs bs f.ordered) (after, sorted_right fs bs f.ordered) across;
      placed = from_among (Placed all) all places;
    }

-- from the first name on that does not come before p, all come after it
stops_after : (qs : List Name) (p : Name) → Sorted qs → Stops (λ q. name_before q p) qs → among qs p ≡ false → AllByRecursion (λ q. name_before p q ≡ true) qs
stops_after [] p s stop n = tt
stops_after (q ∷ qs) p s stop n =
    let first : name_before p q ≡ true = grind (arith, name_order.total p q, among_here q qs) in
    (first, All-weaker (λ x. name_before q x ≡ true) (λ x. name_before p x ≡ true) (λ x l. name_order.transitive p q x first l) qs s.0)

pub joins : (qs : List Name) (p : Name) → Formed qs → 0 < length p → is_present qs (parent_name p) ≡ true → among qs p ≡ false → Formed (take (count_before qs p) qs ++ p ∷ drop (count_before qs p) qs)
joins qs p f h e n =
    let k = count_before qs p in
    let fs = take k qs in
    let bs = drop k qs in
    let formed : Formed (fs ++ bs) = rw take-append-drop f in
    let parent : is_present (fs ++ bs) (parent_name p) ≡ true = rw take-append-drop e in
    let new : among bs p ≡ false = grind (arith, rw (← take-append-drop k qs) at n, among-append fs bs p) in
    joins_between fs p bs formed h parent (leading_passes (λ q. name_before q p) qs)
    (stops_after bs p (sorted_right fs bs formed.ordered) (leading_stops (λ q. name_before q p) qs) new)
