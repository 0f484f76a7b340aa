use Rattle.model.proofs.Handing.{tree_of}
use Rattle.sweep.proofs.Levels.{Levels}
use Rattle.sweep.proofs.sweep_tree.Given as goal

abbrev pub invariant-loop-above : goal.invariant-loop-above
invariant-loop-above g l =
    Levels (g.H.Hierarchy.means l.hierarchy) l.error (tree_of l.fn.root l.initial.nodes) l.above l.swept.kept l.swept.root l.nodes
