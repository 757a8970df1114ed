use Rattle.bi_commands.specs.Payloads.{payload_file}
use Rattle.bi_files.proofs.NewDirectories.{closing_filled_failed, filling_stopped}
use Rattle.bi_files.proofs.directories.write_payload.Goals as goal

pub returns-in_default-clause-not_filled : goal.returns-in_default-clause-not_filled
returns-in_default-clause-not_filled g c =
    closing_filled_failed c.args.directory.now (payload_file c.args.payload.now) (g.F.Created.TracedWrite.trace c.args.file)
    (g.F.Created.TracedWrite.trace c.write_and_flush-written.new.target) (g.F.FileSystem.steps c.args.files.now)
    (g.F.FileSystem.steps c.close_in-closed.new.self) c.write_and_flush-written.result _ c.close_in-closed.result _ c.in_default.is-0
    c.in_default.is-1 c.as_str.result.now c.as_str.ensures.value c.write_and_flush-written.ensures c.close_in-closed.ensures.not_closed

pub returns-in_default-2-clause-not_filled : goal.returns-in_default-2-clause-not_filled
returns-in_default-2-clause-not_filled g c =
    filling_stopped c.args.directory.now (payload_file c.args.payload.now) (g.F.Created.TracedWrite.trace c.args.file)
    (g.F.Created.TracedWrite.trace c.write_and_flush-written.new.target) (g.F.FileSystem.steps c.args.files.now)
    (g.F.FileSystem.steps c.close_in-closed.new.self) c.write_and_flush-written.result _ c.close_in-closed.result c.in_default.is-0
    c.as_str.result.now c.as_str.ensures.value c.write_and_flush-written.ensures c.close_in-closed.ensures.closed
    c.close_in-closed.ensures.not_closed
