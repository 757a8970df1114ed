use Rattle.std.proofs.Common.{sym, ◌∙◌}
use Rattle.bi_common.specs.MadeFields.{bytes_of_names}
use Rattle.bi_describe.specs.Ignoring as words
use Rattle.bi_describe.proofs.MatchingWords.{any_found}
use Rattle.bi_describe.proofs.ignored.matching.is_property_ignored.Goals as goal

pub returns-then-names_property : goal.returns-then-names_property
returns-then-names_property c =
    any_found (words.names_property (bytes_of_names c.args.names.now) c.args.name.now) c.args.words.now c.loop-word.word-index
    c.word-item.result _ c.word-item.is
    c.loop-word-test.true (sym c.names_property.ensures ∙ c.if-names_property.true) c.loop-word.invariant
