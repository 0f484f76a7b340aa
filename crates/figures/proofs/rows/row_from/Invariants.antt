use Rattle.std.proofs.Common.{length}
use Rattle.std.specs.List.{Contains}
use Rattle.model.specs.declared.Node.{Node}
use Rattle.figures.proofs.rows.row_from.Given as goal

-- a node that is left is one of all
abbrev pub invariant-loop-node : goal.invariant-loop-node
invariant-loop-node g l = (n : Node _) → Contains l.rest n → Contains l.stored n

abbrev pub decreases-loop-node : goal.decreases-loop-node
decreases-loop-node g l = length l.rest
