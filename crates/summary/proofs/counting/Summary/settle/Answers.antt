use Rattle.std.proofs.Common.{refl}
use Rattle.summary.proofs.Steps.{settle_sweeps, settle_stays}
use Rattle.summary.proofs.counting.Summary.settle.Goals as goal

pub returns-then-error-clause-defined : goal.returns-then-error-clause-defined
returns-then-error-clause-defined g c =
    settle_sweeps (g.H.Hierarchy.means c.args.hierarchy.now) c.args.error c.args.self.now _ c.sweep.result c.error.result c.error.ensures c.if-error.true c.sweep.ensures.defined

pub returns-else-error-clause-defined : goal.returns-else-error-clause-defined
returns-else-error-clause-defined g c =
    λ sound. settle_stays (g.H.Hierarchy.means c.args.hierarchy.now) c.args.error c.args.self.now _ c.error.result c.error.ensures c.if-error.false refl
