use Rattle.std.proofs.Common.{◌≡◌, ◌-◌, filter, length, sym, ap, subst, ◌∙◌, rules}
use borrow.Author.Tests.{tests}
use Rattle.std.proofs.lemmas.Iterator.{YieldsList-from_slice}
use Rattle.std.proofs.lemmas.Iterator.Consumers.{YieldsList-from_filter, count_from_yields_List}
use Rattle.bi_fit.specs.declared.form.Form.TheVariants.{External}
use Rattle.bi_fit.specs.Content.{image_model, tree_of}
use Rattle.bi_fit.specs.Documents.{length_after_blob}
use Rattle.bi_fit.specs.declared.kept.Kept.{Kept}
use Rattle.bi_fit.specs.Kept.{IsKept}
use Rattle.bi_fit.specs.KeptImages.{has_position, placed_images}
use Rattle.bi_fit.specs.NormalNodes.{payloads_of}
use Rattle.bi_fit.specs.Text.{fit_text, payloads_end}
use Rattle.bi_fit.proofs.KeptPayloads.{alignment_lost, count_positions, kept_of_file}
use Rattle.bi_fit.proofs.fit.Fit.kept.Goals as goal

pub returns-clause-kept : goal.returns-clause-kept
returns-clause-kept c new same long =
    let content = c.args.self.now in
    let images = c.images-images.result.now in
    let held = c.give_invariant.ensures in
    let after = c.in-Ok.after in
    let size = c.args.size in
    let form : c.args.form ≡ External = c.in-External.is in
    let is_after : after ≡ payloads_end 4 0 (payloads_of images) =
    c.in-Ok.ensures.length ∙ ap (λ form. length_after_blob form (payloads_of images)) form in
    let is_long : length (fit_text External new) ≡ size = subst (λ form. length (fit_text form new) ≡ size) form long in
    let count : c.count.result ≡ length (filter (λ image. has_position (image_model image)) images) =
    count_from_yields_List _ _ c.count.ensures.ran
    (YieldsList-from_filter _ (λ image. has_position (image_model image))
    (YieldsList-from_slice images cc) c.filter.ensures.closure (λ x b q k. search (rules, tests))) in
    let kept : Kept = record {
      signatures = c.signature_count-signatures.result;
      lost_alignment = c.lost_alignment.result;
      lost_positions = c.count.result;
    } in
    subst (λ form. IsKept form content.blob.file (tree_of content) new kept) (sym form)
    (kept_of_file content held images c.images-images.ensures new size after kept same is_long is_after (record {
      alignment = alignment_lost (placed_images (size - after) 0 images) c.lost_alignment.result c.lost_alignment.ensures.lost
          c.lost_alignment.ensures.kept;
      positions = count ∙ sym (count_positions (size - after) 0 images);
    }))
