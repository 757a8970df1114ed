use Rattle.bi_commands.specs.declared.extract.ExtractError.TheVariants.{NoPart}
use Rattle.bi_c.proofs.Places.{part_found, part_offset, in_ok_or}
use Rattle.bi_c.proofs.regions.find_part.Goals as goal

pub returns-in-Part-clause-found : goal.returns-in-Part-clause-found
returns-in-Part-clause-found c limits file parsed =
    rw (c.ok_or.ensures.value, c.in-Part.is)
    (part_found file c.args.image.now.image.parts c.in-Part.index c.part_at.result (c.part_at.ensures.found limits file parsed))

pub returns-in-Part-clause-offset : goal.returns-in-Part-clause-offset
returns-in-Part-clause-offset c limits file parsed =
    rw (c.ok_or.ensures.value, c.in-Part.is)
    (in_ok_or _ c.part_at.result NoPart
    (part_offset limits file c.args.image.now c.in-Part.index c.part_at.result parsed c.part_at.ensures.offset))
