-- The first line of a report's input: width and share, each written as a weight, with one space between.
use Rattle.std.specs.Prelude.{ℕ, List, Some, None, Option}
use Rattle.refusal.specs.declared.Refusal.{Refusal}
use Rattle.refusal.specs.declared.Refusal.TheVariants.{WeightMalformed}
use Rattle.fields.specs.Split.{split}
use Rattle.fields.specs.Weight.{weight_of}
use Rattle.settings.specs.Rules.{settings_refusal}

abbrev pub both : Option ℕ → Option ℕ → Option (ℕ × ℕ)
both None s = None
both (Some w) None = None
both (Some w) (Some s) = Some (w, s)

-- two weights with one space (32) between
abbrev pub weights_at : Option (List ℕ × List ℕ) → Option (ℕ × ℕ)
weights_at None = None
weights_at (Some p) = both (weight_of p.0) (weight_of p.1)

abbrev pub pair_of : List ℕ → Option (ℕ × ℕ)
pair_of line = weights_at (split 32 line)

-- the pair in the first line, which ends at a line feed (10)
abbrev pub pair_before : Option (List ℕ × List ℕ) → Option (ℕ × ℕ)
pair_before None = None
pair_before (Some p) = pair_of p.0

-- a line of another form is refused as a weight is, and then the settings that do not exist
abbrev pub pair_refusal : Option (ℕ × ℕ) → Option Refusal
pair_refusal None = Some WeightMalformed
pair_refusal (Some p) = settings_refusal p.0 p.1

abbrev pub header_refusal : List ℕ → Option Refusal
header_refusal input = pair_refusal (pair_before (split 10 input))
