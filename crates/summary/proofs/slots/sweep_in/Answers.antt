use Rattle.std.proofs.Common.{take, arith}
use Rattle.model.proofs.Handing.{tree_of}
use Rattle.summary.proofs.Parts.{swept_part}
use Rattle.summary.proofs.slots.sweep_in.Goals as goal

pub returns-clause-value : goal.returns-clause-value
returns-clause-value g c =
    swept_part (g.H.Hierarchy.means c.args.hierarchy.now) c.sweep_tree.new.nodes _ c.sweep_tree.result.kept c.sweep_tree.result.root c.args.error (tree_of c.args.root (take c.args.used c.args.nodes.now)) (omega (arith, c.sweep_tree.auto.nodes, c.sweep_tree.ensures.within)) c.sweep_tree.ensures.value
