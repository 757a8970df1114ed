use Rattle.std.proofs.Common.{refl}
use Rattle.bootimg.proofs.ImageRuns.{input_read, input_not_read, file_read, file_not_read}
use Rattle.bootimg.proofs.jobs.read_image.Goals as goal

pub returns-in-Standard-clause-read : goal.returns-in-Standard-clause-read
returns-in-Standard-clause-read g c =
    input_read (λ image. image.items) _ c.args.limits _ _ c.args.source c.read_input.result c.in-Standard.is refl
    c.read_input.ensures.read

pub returns-in-Standard-clause-failed : goal.returns-in-Standard-clause-failed
returns-in-Standard-clause-failed g c =
    input_not_read _ c.args.limits _ _ c.args.source c.read_input.result c.in-Standard.is refl c.read_input.ensures.failed

pub returns-in-File-clause-read : goal.returns-in-File-clause-read
returns-in-File-clause-read g c =
    file_read (λ image. image.items) _ c.args.limits _ _ c.args.source c.in-File.name c.read_file.result c.in-File.is refl
    c.read_file.ensures.read

pub returns-in-File-clause-failed : goal.returns-in-File-clause-failed
returns-in-File-clause-failed g c =
    file_not_read _ c.args.limits _ _ c.args.source c.in-File.name c.read_file.result c.in-File.is refl c.read_file.ensures.failed
