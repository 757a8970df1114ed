use Rattle.std.specs.Prelude.{◌≡◌, ℕ, List}
use Rattle.bi_base.specs.Aligns.{align_bytes}
use Rattle.bi_blob.specs.Stages.{AfterRoot}
use Rattle.bi_blob.specs.Following.{stage_of_events}
use Rattle.bi_lay.specs.declared.closed.ClosedDoc.TheInside.{Inside as Fields}
use Rattle.bi_lay.specs.Contents.{text_of}
use Rattle.bi_lay.specs.Sizes.{AreBlockSizes}

-- What a closed document's fields hold, and what is true of them.

-- The text, whose length is a multiple of the alignment.
abbrev pub closed_doc_model : Fields → List ℕ
closed_doc_model closed = text_of (align_bytes closed.sizes.align) closed.doc

-- What is true of the fields: the root has ended, and the sizes are those of the blocks of the
-- document's text. By `fits` of the sizes the text has at most `longest_text` bytes.
pub record IsClosedDocument (closed : Fields) : Type 0 where
  pub ended : stage_of_events closed.doc.events ≡ AfterRoot
  pub sizes : AreBlockSizes closed.doc closed.sizes
