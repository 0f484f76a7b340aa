use Rattle.std.proofs.Common.{ap, sym, subst}
use Rattle.model.specs.State.{State, state_tree}
use Rattle.summary.specs.Room.{Fits}
use Rattle.summary.proofs.Steps.{known_here, fits}
use Rattle.summary.proofs.counting.Summary.fitting.Goals as goal

pub returns-clause-formed : goal.returns-clause-formed
returns-clause-formed g c =
    let m = g.H.Hierarchy.means c.args.hierarchy.now in
    let s = c.args.self.now in
    let a = c.climb-ancestry.result in
    λ formed.
    subst (Fits m s c.args.key) (sym c.then_some.ensures)
    (fits m s c.args.key a c.free.result c.free.ensures
    (known_here m s c.args.key a c.stored.result.now c.self.inside.root c.stored.ensures (ap (λ (t : State _). (state_tree t).root.ceiling) c.self.view_is) c.climb-ancestry.ensures.formed formed))
