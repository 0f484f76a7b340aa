use Rattle.std.proofs.Common.{◌≡◌, ◌∷◌, List, refl, rules, of_calls}
use Rattle.std.specs.Option.{IfSome}
use Rattle.std.proofs.lemmas.Option.{IfSome_then}
use Rattle.model.specs.declared.Node.{Node}
use Rattle.figures.specs.Listed.{root_node, IsAnyListed}
use Rattle.figures.proofs.Listed.{first_there, rest_there, from_there, either_answer}
use Rattle.figures.proofs.rows.next_row.Goals as goal

pub returns-in-Some-clause-listed : goal.returns-in-Some-clause-listed
returns-in-Some-clause-listed g c =
    IfSome_then c.row_from.result c.row_from.ensures.listed (λ row any.
    (any.0, rest_there _ (root_node (g.H.Hierarchy.means c.args.hierarchy.now) c.args.root) c.args.stored.now refl any.0 (from_there c.args.stored.now c.slot_after-from.result any.0 any.1), any.2))

pub returns-in-None-clause-listed : goal.returns-in-None-clause-listed
returns-in-None-clause-listed g c =
    let root = root_node (g.H.Hierarchy.means c.args.hierarchy.now) c.args.root in
    let all : List (Node _) = root ∷ c.args.stored.now in
    let own : c.as_node-node.result ≡ root = cc in
    either_answer c.node_row-row.result c.or_else.result (λ row. IsAnyListed c.args.threshold.share c.args.threshold.total row.key row.discounted all) c.or_else.ensures
    (IfSome_then c.node_row-row.result c.node_row-row.ensures.listed (λ row listed. (root, first_there all root c.args.stored.now refl, rw own at listed)))
    (λ called.
    let answer : IfSome c.or_else.result (λ row. IsAnyListed c.args.threshold.share c.args.threshold.total row.key row.discounted c.args.stored.now) = search (rules, of_calls) in
    IfSome_then c.or_else.result answer (λ row any. (any.0, rest_there all root c.args.stored.now refl any.0 any.1, any.2)))
