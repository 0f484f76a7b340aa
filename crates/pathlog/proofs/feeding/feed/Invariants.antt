use Rattle.std.proofs.Common.{◌+◌, ◌-◌, ◌≤◌}
use Rattle.model.specs.Answers.{SameTable}
use Rattle.pathlog.proofs.feeding.feed.Given as goal

-- each counted line has moved the offset on
abbrev pub invariant-loop-fed : goal.invariant-loop-fed
invariant-loop-fed l =
    SameTable l.initial.summary l.summary × (l.fed.offset ≤ l.end) × (l.start + l.fed.counted ≤ l.fed.offset)

abbrev pub decreases-loop-fed : goal.decreases-loop-fed
decreases-loop-fed l = l.end - l.fed.offset
