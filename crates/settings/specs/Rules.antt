-- Which settings exist, and which refusal the others meet.
use Rattle.std.specs.Prelude.{ℕ, ◌*◌, Bool, cond, ◌&&◌, Some, None, Option, nat_le, nat_lt}
use Rattle.refusal.specs.declared.Refusal.{Refusal}
use Rattle.refusal.specs.declared.Refusal.TheVariants.{WidthOutOfRange, ShareOutOfRange, ShareTooSmall}

abbrev pub is_width : ℕ → Bool
is_width width = nat_le 2 width && nat_le width 1000000

-- in thousandths
abbrev pub is_share : ℕ → Bool
is_share share = nat_le 1 share && nat_le share 1000

-- The share of a total has to be more than the error, which is the total over the width: else a prefix could be
-- listed for its error alone.
abbrev pub is_above_error : ℕ → ℕ → Bool
is_above_error width share = nat_lt 1000 (share * width)

-- the first rule that is not met, in this order
abbrev pub settings_refusal : ℕ → ℕ → Option Refusal
settings_refusal width share =
    cond (is_width width) (cond (is_share share) (cond (is_above_error width share) None (Some ShareTooSmall)) (Some ShareOutOfRange)) (Some WidthOutOfRange)
