use Rattle.summary.proofs.Steps.{room_at_once, room_after_sweep}
use Rattle.summary.proofs.counting.Summary.find_room.Goals as goal

pub returns-in-Some-clause-defined : goal.returns-in-Some-clause-defined
returns-in-Some-clause-defined g c =
    room_at_once (g.H.Hierarchy.means c.args.hierarchy.now) c.args.self.now c.args.key c.in-Some.ancestry c.in-Some.ensures.formed

pub returns-clause-defined : goal.returns-clause-defined
returns-clause-defined g c =
    room_after_sweep (g.H.Hierarchy.means c.args.hierarchy.now) c.args.self.now c.args.key c.fitting-2.result c.sweep.new.self c.sweep.result c.in_default.ensures.formed c.sweep.ensures.defined c.fitting-2.ensures.formed
