use Rattle.prefix.proofs.Names.{Climbed}
use Rattle.prefix.proofs.relations.ancestor_at.Given as goal

abbrev pub invariant-loop-climbed : goal.invariant-loop-climbed
invariant-loop-climbed g l = Climbed (g.H.Hierarchy.means l.hierarchy) l.initial.up l.climbed l.up
