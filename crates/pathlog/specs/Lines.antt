-- What reading a line may answer.
use Rattle.std.specs.Prelude.{◌≡◌, ℕ, ◌+◌, ◌<◌, ◌≤◌, ◌⊎◌, List, length}
use Rattle.refusal.specs.declared.Refusal.{Refusal}
use Rattle.refusal.specs.declared.Refusal.TheVariants.{NoLineFeed, NoLeadingSlash, PathByte, EmptySegment, PathTooLong, WeightMalformed}
use Rattle.pathlog.specs.declared.lines.Line.{Line}

-- the refusals of a path
abbrev pub refuses_path : Refusal → Type 0
refuses_path e = (e ≡ NoLeadingSlash) ⊎ ((e ≡ PathTooLong) ⊎ ((e ≡ PathByte) ⊎ (e ≡ EmptySegment)))

-- the refusals of a line
abbrev pub refuses_line : Refusal → Type 0
refuses_line e = (e ≡ NoLineFeed) ⊎ (refuses_path e ⊎ (e ≡ WeightMalformed))

-- a line of a text: its key begins where the line does, and the next line begins after it, at the text's end at most
pub record LineAt (text : List ℕ) (offset : ℕ) (line : Line) : Type 0 where
  pub begins : line.key.offset ≡ offset
  pub key_within : offset + line.key.length < line.next
  pub next_within : line.next ≤ length text
