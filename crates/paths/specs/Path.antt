-- A path as bytes: its segments, its steps, and the order of paths by their steps.
use Rattle.std.specs.Prelude.{ℕ, suc, Bool, true, false, cond, not, ◌&&◌, ◌||◌, List, [], ◌∷◌, length, Some, None, Option, ◌==◌, nat_le, nat_lt}
use Rattle.prefix.specs.Name.{Step, Name}
use Rattle.paths.specs.declared.ByteClass.{ByteClass}
use Rattle.paths.specs.declared.ByteClass.TheVariants.{Slash, KeyEnd, Plain, Outside}

abbrev pub slash : ℕ
slash = 47

-- '/' starts a segment; '?' and '#' stand in no segment; the other bytes from 0x21 to 0x7E fill one
abbrev pub class_of : ℕ → ByteClass
class_of b =
    cond (b == slash) Slash (cond (b == 63 || b == 35) KeyEnd (cond (nat_le 0x21 b && nat_le b 0x7E) Plain Outside))

abbrev pub may_stand : ByteClass → Bool
may_stand Slash = true
may_stand KeyEnd = false
may_stand Plain = true
may_stand Outside = false

-- the bytes before the first '/', and the step after each '/'
abbrev pub head_of : List ℕ → Step
head_of [] = []
head_of (b ∷ bs) = cond (b == slash) [] (b ∷ head_of bs)

abbrev pub steps_of : List ℕ → Name
steps_of [] = []
steps_of (b ∷ bs) = cond (b == slash) (head_of bs ∷ steps_of bs) (steps_of bs)

abbrev pub is_empty : {A : Type 0} → List A → Bool
is_empty [] = true
is_empty (x ∷ xs) = false

abbrev pub all_stand : List ℕ → Bool
all_stand [] = true
all_stand (b ∷ bs) = may_stand (class_of b) && all_stand bs

abbrev pub none_empty : Name → Bool
none_empty [] = true
none_empty (s ∷ p) = not (is_empty s) && none_empty p

-- empty, or made of segments: each a '/' and then one or more bytes that may stand in a segment
abbrev pub is_segments : List ℕ → Bool
is_segments bs = is_empty (head_of bs) && (all_stand bs && none_empty (steps_of bs))

-- empty or one to eight segments
abbrev pub is_part : List ℕ → Bool
is_part bs = is_segments bs && nat_le (length (steps_of bs)) 8

-- how many segments a part has; none for bytes that are no part
abbrev pub segment_count : List ℕ → Option ℕ
segment_count bs = cond (is_part bs) (Some (length (steps_of bs))) None

abbrev pub has_slash : List ℕ → Bool
has_slash [] = false
has_slash (b ∷ bs) = b == slash || has_slash bs

-- where the last segment starts; 0 where there is none
abbrev pub last_slash : List ℕ → ℕ
last_slash [] = 0
last_slash (b ∷ bs) = cond (has_slash bs) (suc (last_slash bs)) 0

-- '/' before every other byte, so that a step that ends comes before one that goes on
abbrev pub rank_of : ℕ → ℕ
rank_of b = cond (b == slash) 0 b

-- byte by byte by rank; a proper front part comes first
abbrev pub ranked_before : List ℕ → List ℕ → Bool
ranked_before [] [] = false
ranked_before [] (b ∷ q) = true
ranked_before (a ∷ p) [] = false
ranked_before (a ∷ p) (b ∷ q) = nat_lt (rank_of a) (rank_of b) || (rank_of a == rank_of b && ranked_before p q)
