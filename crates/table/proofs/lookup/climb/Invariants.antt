use Rattle.table.proofs.Climbing.{Passed, bare}
use Rattle.table.proofs.lookup.climb.Given as goal

abbrev pub invariant-loop-missing : goal.invariant-loop-missing
invariant-loop-missing g l = Passed (g.H.Hierarchy.means l.hierarchy) (bare l.root_ceiling) l.stored l.initial.up l.missing l.up
