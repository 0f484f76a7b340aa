use Rattle.figures.proofs.Listed.{first_there, rest_there}
use Rattle.figures.proofs.rows.row_from.Goals as goal

pub returns-in-Some-node_row-clause-listed : goal.returns-in-Some-node_row-clause-listed
returns-in-Some-node_row-clause-listed g c =
    (c.in-Some.node.now, c.loop-node.invariant c.in-Some.node.now (first_there c.loop-node.rest.now c.in-Some.node.now c.in-Some.after.now c.in-Some.ensures.cases.0), c.in-Some-node_row.ensures.listed)

pub loop-node-preserved : goal.loop-node-preserved
loop-node-preserved g c =
    λ n h. c.loop-node.invariant n (rest_there c.loop-node.rest.now c.in-Some.node.now c.in-Some.after.now c.in-Some.ensures.cases.0 n h)
