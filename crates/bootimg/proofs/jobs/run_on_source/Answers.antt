use Rattle.std.proofs.Common.{refl}
use Rattle.bootimg.specs.Runs.{DoneOnFile, DoneOnInput, FileNotOpened}
use Rattle.bootimg.proofs.ImageRuns.{no_file_opened, opened_and_closed}
use Rattle.bootimg.proofs.RunFacts.{run_succeeds, has_failed}
use Rattle.bootimg.proofs.jobs.run_on_source.Goals as goal

pub returns-in-Ok-clause-work : goal.returns-in-Ok-clause-work
returns-in-Ok-clause-work g c =
    DoneOnInput c.in-Standard.is (run_succeeds _ _ _ _ c.pipe.result c.in-Ok.done c.in-Ok.is c.pipe.ensures refl) refl

pub returns-in-Err-clause-work : goal.returns-in-Err-clause-work
returns-in-Err-clause-work g c =
    DoneOnInput c.in-Standard.is
    (has_failed _ _ _ _ c.pipe.result c.in-Err.failure c.in-Err.is c.pipe.ensures c.job_failed.ensures)
    refl

pub returns-in-Ok-outcome-clause-work : goal.returns-in-Ok-outcome-clause-work
returns-in-Ok-outcome-clause-work g c =
    DoneOnFile c.in-File.name c.in-File.is _ _
    (opened_and_closed _ c.in-File.name.now _ _ _ _ _ c.in-Some.ensures.is_open c.in-Some.ensures.opened c.close_reader.ensures.closed)
    (run_succeeds _ _ _ _ c.pipe-outcome.result c.in-Ok-outcome.done c.in-Ok-outcome.is c.pipe-outcome.ensures refl)
    refl

pub returns-in-Err-outcome-clause-work : goal.returns-in-Err-outcome-clause-work
returns-in-Err-outcome-clause-work g c =
    DoneOnFile c.in-File.name c.in-File.is _ _
    (opened_and_closed _ c.in-File.name.now _ _ _ _ _ c.in-Some.ensures.is_open c.in-Some.ensures.opened c.close_reader.ensures.closed)
    (has_failed _ _ _ _ c.pipe-outcome.result c.in-Err-outcome.failure c.in-Err-outcome.is c.pipe-outcome.ensures
    c.job_failed-in-Err-outcome.ensures)
    refl

pub returns-in-None-clause-work : goal.returns-in-None-clause-work
returns-in-None-clause-work g c =
    FileNotOpened c.in-File.name c.in-File.is
    (no_file_opened _ c.in-File.name.now _ _ c.in-None.ensures.is_no_file c.in-None.ensures.not_opened)
    (record { nothing_written = refl; outcome = c.job_failed-in-None.ensures })
    refl
