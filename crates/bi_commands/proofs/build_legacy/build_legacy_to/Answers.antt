use Rattle.std.proofs.Common.{List, subst, ◌∙◌}
use Rattle.std.proofs.lemmas.Result.{err_from_is_err_and}
use Rattle.bi_base.specs.Pipes.{IsPiped}
use Rattle.bi_commands.specs.BuildCommands.{build_legacy_promise, IsLegacyOutput, IsLegacyOutputError}
use Rattle.bi_commands.specs.Parts.{parts_of_lengths}
use Rattle.bi_commands.specs.declared.parts.Part.{Part}
use Rattle.bi_commands.proofs.MemoryBeforeRun.{not_begun}
use Rattle.bi_commands.proofs.build_legacy.build_legacy_to.Goals as goal

pub returns-in_err-parts : goal.returns-in_err-parts
returns-in_err-parts g c =
    let p = err_from_is_err_and c.from_residual.result c.from_residual.ensures.1 in
    let parts = parts_of_lengths c.args.lengths.now in
    rw (p.1, p.2)
    (not_begun (IsLegacyOutput c.args.limits c.args.fields parts) (IsLegacyOutputError c.args.limits c.args.fields parts) c.args.limits
    (g.R.Read.remaining c.args.reader.now) (g.W.Write.contents c.args.writer.now))

pub returns : goal.returns
returns g c =
    subst
    (λ (parts : List Part). IsPiped (build_legacy_promise c.args.fields parts c.args.limits) c.args.limits
    (g.R.Read.remaining c.args.reader.now) (g.R.Read.remaining c.pipe_to.new.reader) (g.W.Write.contents c.args.writer.now)
    (g.W.Write.contents c.pipe_to.new.writer) c.pipe_to.result)
    (c.deref.ensures.value ∙ c.in_ok-parts.ensures) c.pipe_to.ensures
