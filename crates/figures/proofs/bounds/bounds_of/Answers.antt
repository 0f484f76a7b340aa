use Rattle.std.proofs.Common.{◌+◌, refl}
use Rattle.std.proofs.lemmas.List.{take_rest}
use Rattle.figures.proofs.Stored.{missing_answer, stored_answer, root_answer}
use Rattle.figures.proofs.bounds.bounds_of.Goals as goal

pub returns-then-ancestry-gt0-clause-value : goal.returns-then-ancestry-gt0-clause-value
returns-then-ancestry-gt0-clause-value g c =
    λ total e s h.
    missing_answer (g.H.Hierarchy.means c.args.hierarchy.now) total e c.args.root c.args.stored.now c.args.key c.climb-ancestry.result s
    (c.climb-ancestry.ensures.formed s.formed c.args.root refl) c.if-ancestry-gt0.true

pub returns-in_default-clause-value : goal.returns-in_default-clause-value
returns-in_default-clause-value g c =
    λ total e s h.
    root_answer (g.H.Hierarchy.means c.args.hierarchy.now) total e c.args.root c.args.stored.now c.args.key c.climb-ancestry.result s
    (c.climb-ancestry.ensures.formed s.formed c.args.root refl) c.as_node-node.result c.run_beneath.result.now c.node_bounds.result c.if-ancestry-gt0.false
    c.in_default.is (cc) (rw c.level-level.ensures at c.run_beneath.ensures) c.node_bounds.ensures.value

pub returns-clause-value : goal.returns-clause-value
returns-clause-value g c =
    λ total e s h.
    stored_answer (g.H.Hierarchy.means c.args.hierarchy.now) total e c.args.root c.args.stored.now c.args.key c.climb-ancestry.result s
    (c.climb-ancestry.ensures.formed s.formed c.args.root refl) c.in-Some.at c.index-stored-at.result _ c.run_beneath-2.result.now c.node_bounds-2.result c.if-ancestry-gt0.false
    c.in-Some.is c.index-stored-at.is (take_rest c.args.stored.now (c.in-Some.at + 1)) h (rw c.level-level-2.ensures at c.run_beneath-2.ensures) c.node_bounds-2.ensures.value
