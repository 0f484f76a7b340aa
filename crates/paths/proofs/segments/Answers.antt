use Rattle.std.proofs.Common.{sym, ◌∙◌, rules}
use Rattle.paths.proofs.Reading.{count_few, refused_byte, refused_empty}
use Rattle.paths.proofs.segments.Goals as goal

pub overflow_add-count : goal.overflow_add-count
overflow_add-count c =
    let few = count_few c.args.part.now c.loop-byte.rest.now c.loop-byte.count c.loop-byte.filled c.loop-byte.invariant in
    search rules

pub returns-in_default-class_of : goal.returns-in_default-class_of
returns-in_default-class_of c =
    refused_empty c.args.part.now c.loop-byte.rest.now c.in-Some.front.now c.in-Some.byte.now c.loop-byte.count c.loop-byte.filled (search rules) (sym c.in-Slash.is ∙ c.class_of.ensures) c.if-filled.false c.loop-byte.invariant

pub returns-in_default-class_of-2 : goal.returns-in_default-class_of-2
returns-in_default-class_of-2 c =
    refused_byte c.args.part.now c.loop-byte.rest.now c.in-Some.front.now c.in-Some.byte.now c.loop-byte.count c.loop-byte.filled c.class_of.result (search rules) c.class_of.ensures (search rules) c.in_default-class_of.not-Plain c.loop-byte.invariant
