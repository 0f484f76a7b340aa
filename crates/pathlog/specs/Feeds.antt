-- What a feed may answer, and what it leaves as it was.
use Rattle.std.specs.Prelude.{◌≡◌, ℕ, ◌+◌, ◌<◌, ◌≤◌, List, length, Err, Result, MatchResult}
use Rattle.refusal.specs.declared.Refusal.TheVariants.{StartPastEnd}
use Rattle.refusal.specs.declared.Layer.TheVariants.{Reader}
use Rattle.refusal.specs.Numbers.{layer_of}
use Rattle.model.specs.State.{State}
use Rattle.model.specs.Answers.{SameTable}
use Rattle.paths.specs.declared.Place.{Place}
use Rattle.pathlog.specs.declared.feeding.Fed.{Fed}
use Rattle.pathlog.specs.declared.feeding.FeedRefused.{FeedRefused}

-- a feed that counts every line reaches the text's end; each line has at least one byte
pub record Reaches (text : List ℕ) (start : ℕ) (fed : Fed) : Type 0 where
  pub end : fed.offset ≡ length text
  pub lines : start + fed.counted ≤ fed.offset

-- a feed that stops does so before a line of the text, and says which layer refused it
pub record Stops (text : List ℕ) (start : ℕ) (stop : FeedRefused) : Type 0 where
  pub layer_is : stop.layer ≡ layer_of stop.refusal
  pub line_within : stop.offset < length text
  pub lines : start + stop.counted ≤ stop.offset

-- a start past the text's end is refused before anything is counted
pub record Feeds (text : List ℕ) (start : ℕ) (before after : State Place) (r : Result Fed FeedRefused) : Type 0 where
  pub table : SameTable before after
  pub start_past_end : length text < start → (r ≡ Err (record { refusal = StartPastEnd; layer = Reader; offset = start; counted = 0 })) × (after ≡ before)
  pub start_within : start ≤ length text → MatchResult r (Reaches text start) (Stops text start)
