use Rattle.std.proofs.Common.{◌≡◌, map, take}
use Rattle.bi_base.specs.Slices.{bytes_of}
use Rattle.bootimg.specs.OwnTexts.{texts_named}
use Rattle.bootimg.proofs.builds.compatibles_of.Given as goal

-- The texts of the configurations so far.
abbrev pub invariant-loop-word : goal.invariant-loop-word
invariant-loop-word l = map (λ each. bytes_of each.items) l.found.items
    ≡ map (λ word. texts_named l.texts word.name.now) (take l.word-index l.words)
