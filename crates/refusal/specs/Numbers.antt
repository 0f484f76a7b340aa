-- The number of each refusal, and the layer that gives it inside a feed.
use Rattle.std.specs.Prelude.{ℕ, List, ◌++◌, codes, decimal}
use Rattle.refusal.specs.declared.Refusal.{Refusal}
use Rattle.refusal.specs.declared.Refusal.TheVariants.{WidthOutOfRange, ShareOutOfRange, ShareTooSmall, KeyNotValid, TotalTooLarge, NoFreeSlot, StartPastEnd, NoLineFeed, NoLeadingSlash, PathByte, EmptySegment, PathTooLong, WeightMalformed}
use Rattle.refusal.specs.declared.Layer.{Layer}
use Rattle.refusal.specs.declared.Layer.TheVariants.{Reader, Summary}

abbrev pub number_of : Refusal → ℕ
number_of WidthOutOfRange = 1
number_of ShareOutOfRange = 2
number_of ShareTooSmall = 3
number_of KeyNotValid = 4
number_of TotalTooLarge = 5
number_of NoFreeSlot = 6
number_of StartPastEnd = 13
number_of NoLineFeed = 14
number_of NoLeadingSlash = 15
number_of PathByte = 16
number_of EmptySegment = 17
number_of PathTooLong = 18
number_of WeightMalformed = 19

abbrev pub layer_of : Refusal → Layer
layer_of WidthOutOfRange = Reader
layer_of ShareOutOfRange = Reader
layer_of ShareTooSmall = Reader
layer_of KeyNotValid = Reader
layer_of TotalTooLarge = Summary
layer_of NoFreeSlot = Summary
layer_of StartPastEnd = Reader
layer_of NoLineFeed = Reader
layer_of NoLeadingSlash = Reader
layer_of PathByte = Reader
layer_of EmptySegment = Reader
layer_of PathTooLong = Reader
layer_of WeightMalformed = Reader

-- what is printed for a refusal
abbrev pub refusal_text : Refusal → List ℕ
refusal_text refusal = codes "refused " ++ decimal (number_of refusal)
