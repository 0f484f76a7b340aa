use Rattle.std.proofs.Common.{◌≤◌, length}
use Rattle.sweep.proofs.settling.settle_all.Given as goal

-- the kept nodes begin nowhere before the next node to settle
abbrev pub invariant-loop-i : goal.invariant-loop-i
invariant-loop-i g l = (l.i ≤ l.begin) × (l.begin ≤ length l.nodes)
