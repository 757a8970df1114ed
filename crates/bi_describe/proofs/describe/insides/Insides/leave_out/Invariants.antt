use Rattle.std.proofs.Common.{take}
use Rattle.bi_describe.specs.MadeInsides.{HoldInsides, trees_after, whole_devicetrees}
use Rattle.bi_describe.specs.MadeWords.{ignored_words}
use Rattle.bi_describe.proofs.describe.insides.Insides.leave_out.Given as goal

-- What the words leave out of the payloads of those before this one is left out.
abbrev pub invariant-loop-index : goal.invariant-loop-index
invariant-loop-index l =
    (insides : _) → HoldInsides (whole_devicetrees insides) l.initial.self →
    HoldInsides (trees_after (ignored_words l.words) (take l.index (ignored_words l.words)) insides) l.self
