use Rattle.std.proofs.Common.{string_bytes}
use Rattle.report.specs.Text.{Extends}
use Rattle.report.proofs.push_rows.Given as goal

abbrev pub invariant-loop : goal.invariant-loop
invariant-loop l = Extends (string_bytes l.initial.text) (string_bytes l.text)
