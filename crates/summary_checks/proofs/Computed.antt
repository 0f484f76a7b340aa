-- The worked run, by computing.
use Rattle.std.proofs.Common.{◌≡◌, refl, Ok}
use Rattle.octets.specs.Octets.{net}
use Rattle.model.specs.Summary.{swept, has_room_for, roomy, counted, settled, added, add_answer, bounds_of, bounds_answer}
use Rattle.summary_checks.specs.Worked.{WorkedRun, bounds_then}

pub worked_run : WorkedRun
unfolding swept has_room_for roomy counted settled added add_answer bounds_of bounds_answer
worked_run =
    record { share_at_the_error = refl; share_above_the_error = refl; width_too_small = refl; total = refl; root = refl; stored = refl; bounds_remade = refl; bounds_folded_host = refl; bounds_folded_branch = refl; bounds_new_host = refl; bounds_root = refl; three_slots = refl }

pub bounds_remade : bounds_then (net 10 2 0 0 16) ≡ Ok (1, 3)
bounds_remade = worked_run.bounds_remade
