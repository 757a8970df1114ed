use Rattle.std.proofs.Common.{sym, ◌∙◌}
use Rattle.bi_describe.specs.Ignoring as words
use Rattle.bi_describe.proofs.MatchingWords.{any_found}
use Rattle.bi_describe.proofs.ignored.matching.is_time_ignored.Goals as goal

pub returns-then-names_time : goal.returns-then-names_time
returns-then-names_time c =
    any_found words.names_time c.args.words.now c.loop-word.word-index c.word-item.result _ c.word-item.is
    c.loop-word-test.true (sym c.names_time.ensures ∙ c.if-names_time.true) c.loop-word.invariant
