use Rattle.std.proofs.Common.{◌+◌, ◌-◌, ◌≤◌, length, drop, arith}
use Rattle.model.proofs.Handing.{tree_of}
use Rattle.sweep.proofs.Levels.{levels_more}
use Rattle.sweep.proofs.sweep_tree.Goals as goal

pub loop-above-preserved : goal.loop-above-preserved
loop-above-preserved g c =
    let l = c.loop-above in
    let f = c.fold_level-swept in
    let fits : f.result.kept ≤ length f.new.nodes = omega (arith, f.auto.nodes) in
    levels_more (g.H.Hierarchy.means c.args.hierarchy.now) c.args.error (tree_of c.args.root c.args.nodes.now) l.above l.swept.kept (l.above - 1 + 1) f.result.kept l.swept.root f.result.root l.nodes f.new.nodes (drop l.swept.kept l.nodes) c.loop-above-test.true (omega (arith, c.loop-above-test.true)) fits f.ensures.value l.invariant
