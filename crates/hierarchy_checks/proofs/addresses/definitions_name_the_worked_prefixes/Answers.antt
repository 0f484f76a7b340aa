use Rattle.std.proofs.Common.{refl}
use Rattle.std.specs.Fmt.{digits}
use Rattle.hierarchy_checks.proofs.addresses.definitions_name_the_worked_prefixes.Goals as goal

pub returns : goal.returns
unfolding digits
returns c =
    record { root = refl; site = refl; host = refl; bit_after = refl; no_such_length = refl; parent = refl; text = refl }
