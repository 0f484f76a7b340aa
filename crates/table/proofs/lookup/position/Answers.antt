use Rattle.std.proofs.Common.{rules}
use Rattle.std.proofs.lemmas.List.Sorted.{IsPartitionPoint-from_clause}
use Rattle.prefix.specs.Name.{name_before}
use Rattle.model.specs.Summary.{fresh, name_at}
use Rattle.table.proofs.Positions.{parted, point_counts}
use Rattle.table.proofs.lookup.position.Goals as goal

pub returns-clause-value : goal.returns-clause-value
returns-clause-value g c sorted =
    let m = g.H.Hierarchy.means c.args.hierarchy.now in
    let p = m.name_of c.args.key in
    let point = IsPartitionPoint-from_clause (λ n. name_before (name_at m n) p) _ _ c.partition_point.ensures.partitioned (parted m c.args.stored.now p sorted) (λ a r f k. search rules) in
    point_counts m c.args.stored.now p _ (fresh c.args.key 0) c.partition_point.ensures.bound point
