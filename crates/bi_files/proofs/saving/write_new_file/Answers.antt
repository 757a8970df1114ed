use Rattle.bi_files.proofs.NewFiles.{closing_failed, writing_stopped}
use Rattle.bi_files.proofs.saving.write_new_file.Goals as goal

pub returns-in_default-clause-not_filled : goal.returns-in_default-clause-not_filled
returns-in_default-clause-not_filled g c =
    closing_failed c.args.beside.now c.args.bytes.now (g.F.Created.TracedWrite.trace c.args.file)
    (g.F.Created.TracedWrite.trace c.write_and_flush-written.new.target) (g.F.FileSystem.steps c.args.files.now)
    (g.F.FileSystem.steps c.close-closed.new.self) c.write_and_flush-written.result _ c.close-closed.result _ c.in_default.is-0
    c.in_default.is-1 c.write_and_flush-written.ensures c.close-closed.ensures.not_closed

pub returns-in_default-2-clause-not_filled : goal.returns-in_default-2-clause-not_filled
returns-in_default-2-clause-not_filled g c =
    writing_stopped c.args.beside.now c.args.bytes.now (g.F.Created.TracedWrite.trace c.args.file)
    (g.F.Created.TracedWrite.trace c.write_and_flush-written.new.target) (g.F.FileSystem.steps c.args.files.now)
    (g.F.FileSystem.steps c.close-closed.new.self) c.write_and_flush-written.result _ c.close-closed.result c.in_default.is-0
    c.write_and_flush-written.ensures c.close-closed.ensures.closed c.close-closed.ensures.not_closed
