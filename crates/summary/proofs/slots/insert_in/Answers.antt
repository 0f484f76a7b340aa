use Rattle.summary.proofs.Parts.{inserted_slots}
use Rattle.summary.proofs.slots.insert_in.Goals as goal

pub returns : goal.returns
returns g c =
    inserted_slots (g.H.Hierarchy.means c.args.hierarchy.now) c.args.key c.args.ancestry.ceiling c.args.nodes.now c.insert_missing.new.slots _ c.args.used c.args.ancestry.at c.args.ancestry.missing c.requires.0 c.requires.1 c.insert_missing.ensures.value
