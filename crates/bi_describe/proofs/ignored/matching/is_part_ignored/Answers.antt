use Rattle.std.proofs.Common.{sym, ◌∙◌}
use Rattle.bi_describe.specs.Ignoring as words
use Rattle.bi_describe.proofs.MatchingWords.{any_found}
use Rattle.bi_describe.proofs.ignored.matching.is_part_ignored.Goals as goal

pub returns-then-names_part : goal.returns-then-names_part
returns-then-names_part c =
    any_found (words.names_part c.args.index) c.args.words.now c.loop-word.word-index c.word-item.result _ c.word-item.is
    c.loop-word-test.true (sym c.names_part.ensures ∙ c.if-names_part.true) c.loop-word.invariant
