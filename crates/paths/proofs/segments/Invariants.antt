use Rattle.std.proofs.Common.{length}
use Rattle.paths.proofs.Reading.{Walked}
use Rattle.paths.proofs.segments.Given as goal

abbrev pub invariant-loop-byte : goal.invariant-loop-byte
invariant-loop-byte l = Walked l.fn.part l.rest l.count l.filled

abbrev pub decreases-loop-byte : goal.decreases-loop-byte
decreases-loop-byte l = length l.rest
