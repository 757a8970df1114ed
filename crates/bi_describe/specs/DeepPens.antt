use Rattle.std.specs.Prelude.{ℕ, List}
use Rattle.bi_common.specs.LineTokens.{LineToken, line_writing}
use Rattle.bi_common.specs.Tokens.{PutsTokens}
use Rattle.bi_describe.specs.declared.describe.deep_pen.DeepWriter.{DeepWriter}

-- What a pen for the lines of a deep description puts to the pen that it borrows.
abbrev pub DeepPuts : {P : Type 0} → (P → List ℕ → P → Type 0) → DeepWriter P → List LineToken
    → DeepWriter P → Type 0
DeepPuts puts old tokens new =
    PutsTokens puts line_writing old.pen old.has_word tokens new.pen new.has_word
