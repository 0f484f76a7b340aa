use Rattle.std.proofs.Common.{◌≡◌, ◌^◌, ◌<◌, drop}
use Rattle.fields.specs.Weight.{all_digits, spelled}
use Rattle.fields.proofs.spell.Given as goal

-- what is still to be read decides the rest, and so many digits spell a number of so many digits
abbrev pub invariant-loop-byte : goal.invariant-loop-byte
invariant-loop-byte l =
    (spelled l.value (drop l.byte-index l.digits) ≡ spelled 0 l.digits)
    × (all_digits (drop l.byte-index l.digits) ≡ all_digits l.digits)
    × (l.value < 10 ^ l.byte-index)
