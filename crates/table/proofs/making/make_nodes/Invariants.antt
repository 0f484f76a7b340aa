use Rattle.table.proofs.Lineages.{Written}
use Rattle.table.proofs.making.make_nodes.Given as goal

abbrev pub invariant-loop-i : goal.invariant-loop-i
invariant-loop-i g l = Written (g.H.Hierarchy.means l.hierarchy) l.initial.up l.ceiling l.made l.up l.i
