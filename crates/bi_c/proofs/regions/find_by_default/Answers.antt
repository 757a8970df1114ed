use Rattle.std.proofs.Common.{sym}
use Rattle.bi_c.proofs.Places.{default_offset}
use Rattle.bi_c.proofs.regions.find_by_default.Goals as goal

pub returns-clause-offset : goal.returns-clause-offset
returns-clause-offset c =
    default_offset c.args.fit.now c.in-Some.name.now c.args.key c.args.index c.find_by_configuration.result
    (sym c.in-Some.ensures) c.find_by_configuration.ensures.offset
