use Rattle.std.proofs.Common.{arith}
use Rattle.table.proofs.Climbing.{bare, known_above, passed_more, climbed_found}
use Rattle.table.proofs.lookup.climb.Goals as goal

pub find_above-requires : goal.find_above-requires
find_above-requires g c =
    known_above (g.H.Hierarchy.means c.args.hierarchy.now) (bare c.args.root_ceiling) c.args.stored.now c.args.key c.own_position-at.result c.loop-missing.missing c.loop-missing.up
    c.loop-missing.invariant c.own_position-at.ensures.within c.own_position-at.ensures.value

pub loop-missing-preserved : goal.loop-missing-preserved
loop-missing-preserved g c =
    passed_more (g.H.Hierarchy.means c.args.hierarchy.now) (bare c.args.root_ceiling) c.args.stored.now c.args.key c.loop-missing.missing c.in_default.field-0 c.loop-missing.up c.parent-up.result
    c.loop-missing.invariant c.in_default.ensures c.parent-up.ensures (omega arith)

pub returns-in-Ok-clause-formed : goal.returns-in-Ok-clause-formed
returns-in-Ok-clause-formed g c =
    λ f root e.
    climbed_found (g.H.Hierarchy.means c.args.hierarchy.now) c.args.stored.now c.args.key root c.args.root_ceiling c.own_position-at.result c.loop-missing.missing c.loop-missing.up
    c.loop-missing.invariant c.own_position-at.ensures.value f e c.in-Ok.nearest c.index-stored-nearest.result c.in-Ok.ensures (omega arith)
