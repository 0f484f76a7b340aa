use Rattle.std.proofs.Common.{◌≡◌, ap, refl, ◌∙◌, rules}
use Rattle.model.specs.State.{State, state_tree}
use Rattle.model.proofs.Handing.{tree_of}
use Rattle.summary.proofs.Steps.{bounds_refused, bounds_answered}
use Rattle.summary.proofs.counting.Summary.bounds.Goals as goal

pub returns-then-not-is_valid-clause-defined : goal.returns-then-not-is_valid-clause-defined
returns-then-not-is_valid-clause-defined g c =
    bounds_refused (g.H.Hierarchy.means c.args.hierarchy.now) c.args.self.now c.args.key _ refl (search rules)

pub returns-clause-defined : goal.returns-clause-defined
returns-clause-defined g c =
    let tree : tree_of c.self.inside.root c.stored.result.now ≡ state_tree c.args.self.now =
    ap (tree_of c.self.inside.root) c.stored.ensures ∙ ap (λ (s : State _). tree_of (state_tree s).root c.args.self.now.nodes) c.self.view_is in
    bounds_answered (g.H.Hierarchy.means c.args.hierarchy.now) c.args.self.now c.args.key _ refl (tree_of c.self.inside.root c.stored.result.now) c.bounds_of-lower.result tree (search rules) c.bounds_of-lower.ensures.value
