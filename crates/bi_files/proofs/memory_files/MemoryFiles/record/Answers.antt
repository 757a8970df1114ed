use Rattle.bi_files.proofs.MemoryLogs.{names_recorded}
use Rattle.bi_files.proofs.memory_files.MemoryFiles.record.Goals as goal

pub returns-in-Ok-push-clause-recorded : goal.returns-in-Ok-push-clause-recorded
returns-in-Ok-push-clause-recorded c _ =
    names_recorded c.args.self.now.log.items c.push.new.self.items _ c.args.name.now c.in-Ok-push.ensures.items c.in-Ok.ensures
