use Rattle.std.proofs.Common.{not, rules}
use Rattle.std.proofs.lemmas.List.Sorted.{IsPartitionPoint-from_clause}
use Rattle.prefix.specs.Name.{name_before}
use Rattle.model.specs.Summary.{name_at}
use Rattle.figures.proofs.Later.{parted, later_from}
use Rattle.figures.proofs.rows.slot_after.Goals as goal

pub returns-clause-later : goal.returns-clause-later
returns-clause-later g c sorted =
    let m = g.H.Hierarchy.means c.args.hierarchy.now in
    let p = m.name_of c.args.key in
    later_from m p c.args.stored.now c.partition_point.result (
    IsPartitionPoint-from_clause (λ n. not (name_before p (name_at m n))) _ _ c.partition_point.ensures.partitioned (parted m p c.args.stored.now sorted) (λ a r f k. search rules))
