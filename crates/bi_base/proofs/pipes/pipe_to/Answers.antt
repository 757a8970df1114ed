use Rattle.std.proofs.Common.{rules}
use Rattle.bi_base.proofs.PipeLaws.{pipe_ends_well}
use Rattle.bi_base.proofs.pipes.pipe_to.Goals as goal

pub returns : goal.returns
returns g c =
    pipe_ends_well (g.C.Command.promise c.args.command.now c.args.limits) c.args.limits _ _ _ _ _ _ _ _ c.pipe.result
    c.new-source.ensures.remaining (search rules) c.new-target.ensures.contents (search rules) c.pipe.ensures
