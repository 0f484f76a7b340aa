use Rattle.std.proofs.Common.{take, ap, rules}
use Rattle.model.specs.State.{state_tree}
use Rattle.model.proofs.Handing.{tree_of}
use Rattle.summary.proofs.Steps.{used_is, sweep_defined}
use Rattle.summary.proofs.counting.Summary.sweep.Goals as goal

pub returns-clause-defined : goal.returns-clause-defined
returns-clause-defined g c =
    let i = c.self.inside in
    let swept = c.sweep_in-swept in
    sweep_defined (g.H.Hierarchy.means c.args.hierarchy.now) c.args.self.now _ (tree_of i.root (take i.used i.nodes.now)) c.error-error.result i.used swept.result.kept (ap state_tree c.self.view_is) c.error-error.ensures (search rules) (used_is i c.args.self.now c.self.view_is c.self.invariant) swept.ensures.within swept.ensures.value
