use Rattle.bootimg.proofs.ImageRuns.{opened_and_closed, whole_file_read, whole_file_not_read}
use Rattle.bootimg.proofs.jobs.read_file.Goals as goal

pub returns-in-Some-clause-read : goal.returns-in-Some-clause-read
returns-in-Some-clause-read g c =
    whole_file_read (λ bytes. bytes.items) _ c.args.limits c.args.name.now _ _ _ _ c.read_input-bytes.result
    (opened_and_closed _ c.args.name.now _ _ _ _ _ c.in-Some.ensures.is_open c.in-Some.ensures.opened c.close_reader.ensures.closed)
    c.read_input-bytes.ensures.read

pub returns-in-Some-clause-failed : goal.returns-in-Some-clause-failed
returns-in-Some-clause-failed g c =
    whole_file_not_read _ c.args.limits c.args.name.now _ _ _ _ c.read_input-bytes.result
    (opened_and_closed _ c.args.name.now _ _ _ _ _ c.in-Some.ensures.is_open c.in-Some.ensures.opened c.close_reader.ensures.closed)
    c.read_input-bytes.ensures.failed
