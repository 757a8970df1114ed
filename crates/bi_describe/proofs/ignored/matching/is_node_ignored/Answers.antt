use Rattle.std.proofs.Common.{sym, ◌∙◌}
use Rattle.bi_common.specs.MadeFields.{bytes_of_names}
use Rattle.bi_describe.specs.Ignoring as words
use Rattle.bi_describe.proofs.MatchingWords.{any_found}
use Rattle.bi_describe.proofs.ignored.matching.is_node_ignored.Goals as goal

pub returns-then-names_node : goal.returns-then-names_node
returns-then-names_node c =
    any_found (words.names_node (bytes_of_names c.args.names.now)) c.args.words.now c.loop-word.word-index c.word-item.result _
    c.word-item.is
    c.loop-word-test.true (sym c.names_node.ensures ∙ c.if-names_node.true) c.loop-word.invariant
