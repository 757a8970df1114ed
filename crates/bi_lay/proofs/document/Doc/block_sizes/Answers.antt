use Rattle.std.proofs.Common.{◌≡◌, ◌<◌, length, subst, MatchOption}
use Rattle.bi_base.specs.Aligns.{align_bytes}
use Rattle.bi_blob.specs.Layout.{longest_text}
use Rattle.bi_lay.specs.Contents.{text_of}
use Rattle.bi_lay.specs.Sizes.{AreBlockSizes}
use Rattle.bi_lay.proofs.DocTexts.{found_sizes}
use Rattle.bi_lay.proofs.document.Doc.block_sizes.Goals as goal

pub returns : goal.returns
returns c =
    subst (λ content. MatchOption c.measure.result (longest_text < length (text_of (align_bytes c.args.align) content))
    (λ sizes. AreBlockSizes content sizes × (sizes.align ≡ c.args.align))) c.self.view_is
    (found_sizes c.args.align c.self.inside c.len.result c.deref.result.now c.block_length.result c.measure.result c.self.invariant
    (record { is_count = c.len.ensures; are_items = c.deref.ensures.value; is_strings = c.block_length.ensures }) c.measure.ensures)
