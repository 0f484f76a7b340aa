use Rattle.std.proofs.Common.{◌≡◌, ◌^◌, ◌<◌, take}
use Rattle.model.specs.Table.{own_sum}
use Rattle.figures.proofs.bounds.run_count.Given as goal

-- where no sum overflows, the sum is that of the slots so far
abbrev pub invariant-loop-i : goal.invariant-loop-i
invariant-loop-i g l = own_sum l.run < 2 ^ 64 → l.sum ≡ own_sum (take l.i l.run)
