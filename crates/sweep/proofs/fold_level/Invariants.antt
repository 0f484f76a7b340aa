use Rattle.model.proofs.Handing.{tree_of}
use Rattle.sweep.proofs.Walk.{Walk}
use Rattle.sweep.proofs.fold_level.Given as goal

abbrev pub invariant-loop-i : goal.invariant-loop-i
invariant-loop-i g l =
    Walk (g.H.Hierarchy.means l.hierarchy) l.error l.level (tree_of l.initial.root l.initial.nodes) l.i l.kept l.parent l.root l.nodes
