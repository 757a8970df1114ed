use Rattle.std.proofs.Common.{map, take}
use Rattle.bi_common.specs.LineTokens.{tokens_of_lines}
use Rattle.bi_common.specs.MadeFields.{words_of}
use Rattle.bi_common.proofs.lines.put_lines.Given as goal

-- The lines before this one were put.
abbrev pub invariant-loop-words : goal.invariant-loop-words
invariant-loop-words g l = g.L.LinePen.puts l.initial.pen (tokens_of_lines (map words_of (take l.words-index l.lines))) l.pen
