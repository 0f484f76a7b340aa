-- A weight as it is written: one to ten digits, no leading zero but in "0", at most 4,294,967,295.
use Rattle.std.specs.Prelude.{ℕ, ◌+◌, ◌-◌, ◌*◌, Bool, true, false, cond, not, ◌&&◌, List, [], ◌∷◌, length, Some, None, Option, ◌==◌, nat_le}

-- '0' to '9'
abbrev pub is_digit : ℕ → Bool
is_digit b = nat_le 48 b && nat_le b 57

abbrev pub all_digits : List ℕ → Bool
all_digits [] = true
all_digits (b ∷ bs) = is_digit b && all_digits bs

-- more than one digit, and the first is '0'
abbrev pub has_leading_zero : List ℕ → Bool
has_leading_zero [] = false
has_leading_zero (b ∷ []) = false
has_leading_zero (b ∷ (c ∷ bs)) = b == 48

-- the number that the digits spell behind those of n
abbrev pub spelled : ℕ → List ℕ → ℕ
spelled n [] = n
spelled n (b ∷ bs) = spelled (10 * n + (b - 48)) bs

abbrev pub has_weight_form : List ℕ → Bool
has_weight_form bs = nat_le 1 (length bs) && (nat_le (length bs) 10 && (not (has_leading_zero bs) && all_digits bs))

abbrev pub largest_weight : ℕ
largest_weight = 4294967295

-- the number that bytes spell which are digits and nothing else, up to the largest weight
abbrev pub value_of : List ℕ → Option ℕ
value_of bs = cond (nat_le 1 (length bs) && (all_digits bs && nat_le (spelled 0 bs) largest_weight)) (Some (spelled 0 bs)) None

abbrev pub weight_of : List ℕ → Option ℕ
weight_of bs = cond (has_weight_form bs && nat_le (spelled 0 bs) largest_weight) (Some (spelled 0 bs)) None
