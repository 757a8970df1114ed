use Rattle.std.proofs.Common.{◌≡◌, ◌↔◌, drop}
use Rattle.bi_fit.specs.declared.form.Form.TheVariants.{External}
use Rattle.bi_fit.specs.Kept.{AreAlignedInText}
use Rattle.bi_fit.specs.KeptImages.{placed_images}
use Rattle.bi_fit.specs.NormalNodes.{payloads_of}
use Rattle.bi_fit.specs.Text.{payloads_end}
use Rattle.bi_fit.proofs.kept.stay_aligned.Given as goal

-- All payloads stay aligned if and only if those from here on do.
abbrev pub invariant-loop-image : goal.invariant-loop-image
invariant-loop-image l = record {
  external : l.area.form ≡ External;
  ends : payloads_end 4 l.area.end (payloads_of (drop l.image-index l.images)) ≡ payloads_end 4 0 (payloads_of l.images);
  same : AreAlignedInText l.alignment (placed_images l.base l.area.end (drop l.image-index l.images))
      ↔ AreAlignedInText l.alignment (placed_images l.base 0 l.images);
}
