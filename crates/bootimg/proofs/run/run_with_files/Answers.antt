use Rattle.std.proofs.Common.{rules, ◌∙◌, refl, sym}
use Rattle.bootimg.proofs.RunFacts.{plain_run}
use Rattle.bootimg.proofs.SameStreams.{run_keeps}
use Rattle.bootimg.proofs.run.run_with_files.Goals as goal

pub returns : goal.returns
returns g c =
    let keeps = run_keeps _ _ _ _ c.run_traced.ensures in
    let reader = sym c.new-input.ensures.same_reader ∙ sym keeps.reader in
    let writer = sym c.new-output.ensures.same_writer ∙ sym keeps.writer in
    let log = sym c.new-log.ensures.same_writer ∙ sym keeps.log in
    plain_run _ _ _ _ _ _ _ _ _ _ _ _ c.run_traced.ensures c.new-input.ensures.well c.new-input.ensures.none_taken
    c.new-output.ensures.well c.new-log.ensures.well refl refl c.new-input.ensures.remaining
    (search rules) c.new-output.ensures.contents (search rules)
    c.new-log.ensures.contents (search rules)
