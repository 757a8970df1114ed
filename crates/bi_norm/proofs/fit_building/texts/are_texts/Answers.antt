use Rattle.std.proofs.Common.{Bor, List, ℕ, []}
use Rattle.bi_blob.specs.Tree.{HasNoZero}
use Rattle.bi_norm.proofs.OwnTexts.{text_here}
use Rattle.bi_norm.proofs.fit_building.texts.are_texts.Goals as goal

-- What a list of texts gives past its end.
abbrev no_text : Bor (List ℕ)
no_text = record { ref_ptr = (0, 0); now = [] }

pub returns-then-not-is_text-clause-other : goal.returns-then-not-is_text-clause-other
returns-then-not-is_text-clause-other c = λ is all.
    c.is_text.ensures.other c.if-not-is_text.true
    (text_here HasNoZero c.args.texts.now c.loop-text.text-index no_text c.loop-text-test.true all)
