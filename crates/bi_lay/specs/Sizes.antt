use Rattle.std.specs.Prelude.{◌≡◌, length}
use Rattle.bi_blob.specs.Blob.{reservation_block}
use Rattle.bi_blob.specs.Layout.{structure_block, strings_block}
use Rattle.bi_lay.specs.declared.sizes.BlockSizes.{BlockSizes}
use Rattle.bi_lay.specs.Contents.{Doc}

-- The sizes of the blocks of a document's text.

-- These are the sizes of the memory reservation block, the structure block and the strings block of
-- a document's text.
pub record AreBlockSizes (content : Doc) (sizes : BlockSizes) : Type 0 where
  pub reservations : sizes.reservations ≡ length (reservation_block content.reservations)
  pub structure : sizes.structure ≡ length (structure_block content.events)
  pub strings : sizes.strings ≡ length (strings_block content.events)
