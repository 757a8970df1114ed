use Rattle.std.proofs.Common.{string_bytes}
use Rattle.bi_files.proofs.BesideNames.{made_in_directory, made_without_directory}
use Rattle.bi_files.proofs.saving.name_beside.Goals as goal

pub returns-in-Some : goal.returns-in-Some
returns-in-Some c =
    made_in_directory (λ text. string_bytes text) c.format.result c.args.name.now c.in-Some.directory.now c.in-Some.field-0-1.now
    c.args.number c.in-Some.ensures.cases c.format.ensures.ok

pub returns-in-None : goal.returns-in-None
returns-in-None c =
    made_without_directory (λ text. string_bytes text) c.format-in-None.result c.args.name.now c.args.number c.in-None.ensures.cases
    c.format-in-None.ensures.ok
