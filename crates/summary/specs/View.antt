-- The state that a summary holds: of its table the slots in use, and of those no more than a summary may use.
use Rattle.std.specs.Prelude.{◌≤◌, min, length, take}
use Rattle.model.specs.State.{State, most_slots}
use Rattle.summary.specs.declared.counting.Summary.TheInside.{Inside}

abbrev pub view_of : {K : Type 0} → Inside K → State K
view_of s =
    record { width = s.settings.width; share = s.settings.share; slots = min most_slots (length s.nodes.now); total = s.total; root_own = s.root.own; root_ceiling = s.root.ceiling; nodes = take s.used s.nodes.now }

abbrev pub UsesItsSlots : {K : Type 0} → Inside K → Type 0
UsesItsSlots s = s.used ≤ min most_slots (length s.nodes.now)
