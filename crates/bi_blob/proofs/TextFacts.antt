use Rattle.std.proofs.Common.{rules}
use Rattle.bi_base.specs.Cells.{cell, cell8, u32_at}
use Rattle.bi_blob.specs.Layout.{text_of_blocks, text_of_events}
use Rattle.bi_blob.specs.KnownTexts.{HasSmallestText, IsLaidOut}

-- The smallest tree and a tree with two properties have known texts.

-- The text of the smallest tree.
pub smallest_has_text : HasSmallestText
unfolding text_of_events text_of_blocks cell cell8
smallest_has_text = search rules

-- The text of the tree with two properties.
pub is_laid_out : IsLaidOut
unfolding text_of_events text_of_blocks cell cell8 u32_at
is_laid_out = search rules
