use Rattle.bi_files.proofs.MemoryLogs.{all_recorded}
use Rattle.bi_files.proofs.memory_files.MemoryFiles.has_lost_steps.Goals as goal

pub returns-clause-not_lost : goal.returns-clause-not_lost
returns-clause-not_lost c kept = all_recorded c.args.self.now.is_lost c.args.self.now.log.items kept
