use Rattle.std.proofs.Common.{flat_map, take}
use Rattle.bi_common.specs.LineTokens.{one_field}
use Rattle.bi_common.specs.MadeFields.{words_of}
use Rattle.bi_common.proofs.lines.put_words.Given as goal

-- The words before this one were put.
abbrev pub invariant-loop-word : goal.invariant-loop-word
invariant-loop-word g l = g.L.LinePen.puts l.initial.pen (flat_map one_field (words_of (take l.word-index l.words))) l.pen
