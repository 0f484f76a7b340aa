-- The text of a report.
use Rattle.std.specs.Prelude.{◌≡◌, ℕ, ◌⊎◌, List, ◌++◌, codes, decimal}
use Rattle.refusal.specs.declared.Refusal.{Refusal}
use Rattle.refusal.specs.Numbers.{refusal_text}

-- `refused N` and a line feed
abbrev pub refused_text : Refusal → List ℕ
refused_text refusal = refusal_text refusal ++ codes "\n"

-- `total N error E` and a line feed
abbrev pub total_text : ℕ → ℕ → List ℕ
total_text total error = codes "total " ++ (decimal total ++ (codes " error " ++ (decimal error ++ codes "\n")))

-- a text with more behind it
abbrev pub Extends : List ℕ → List ℕ → Type 0
Extends text longer = (more : List ℕ) × (longer ≡ text ++ more)

-- a report is one line that names a refusal, or the line of the total and then its rows
abbrev pub IsReport : List ℕ → Type 0
IsReport text =
    ((refusal : Refusal) × (text ≡ refused_text refusal)) ⊎ ((total : ℕ) × (error : ℕ) × Extends (total_text total error) text)
