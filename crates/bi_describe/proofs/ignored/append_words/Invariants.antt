use Rattle.std.proofs.Common.{◌≡◌, ◌++◌}
use Rattle.bi_describe.specs.MadeWords.{ignored_words}
use Rattle.bi_describe.proofs.ignored.append_words.Given as goal

-- The words so far were appended.
abbrev pub invariant-loop-word : goal.invariant-loop-word
invariant-loop-word l = ignored_words l.all.items ≡ ignored_words l.fn.all.items ++ ignored_words l.yielded
