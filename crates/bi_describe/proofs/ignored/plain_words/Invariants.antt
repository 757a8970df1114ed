use Rattle.std.proofs.Common.{map}
use Rattle.std.specs.List.{AllZip}
use Rattle.bi_describe.specs.IgnoredWords.{IsPlainWord}
use Rattle.bi_describe.specs.MadeWords.{ignored_words}
use Rattle.bi_describe.proofs.ignored.plain_words.Given as goal

-- The words so far are those of the texts so far.
abbrev pub invariant-loop-text : goal.invariant-loop-text
invariant-loop-text l = AllZip IsPlainWord (map (λ it. it.now) l.yielded) (ignored_words l.words.items)
