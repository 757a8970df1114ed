use Rattle.bootimg.proofs.CommandLines.{nine_fields}
use Rattle.bootimg.proofs.command_line.image.split_image.Goals as goal

pub returns-in-Some-clause-none : goal.returns-in-Some-clause-none
returns-in-Some-clause-none c = λ texts same.
    nine_fields c.args.argument.now c.in_ok-name.name.now c.in_ok-name.rest.now c.in_ok-image_type.image_type.now
    c.in_ok-image_type.rest.now c.in_ok-arch.arch.now c.in_ok-arch.rest.now c.in_ok-os.os.now c.in_ok-os.rest.now
    c.in_ok-compression.compression.now c.in_ok-compression.rest.now c.in_ok-load.load.now c.in_ok-load.rest.now c.in_ok-entry.entry.now
    c.in_ok-entry.length.now c.in-Some.field-0.0.now c.in-Some.field-0.1.now
    texts c.in_ok-name.ensures.some c.in_ok-image_type.ensures.some c.in_ok-arch.ensures.some c.in_ok-os.ensures.some
    c.in_ok-compression.ensures.some c.in_ok-load.ensures.some c.in_ok-entry.ensures.some c.in-Some.ensures.some same
