use Rattle.std.proofs.Common.{◌≡◌, ◌≤◌, drop}
use Rattle.bi_base.specs.Aligns.{align_bytes}
use Rattle.bi_fit.specs.declared.form.Form.TheVariants.{Aligned}
use Rattle.bi_fit.specs.Text.{payloads_end}
use Rattle.bi_fit.specs.NormalNodes.{payloads_of}
use Rattle.bi_fit.proofs.payload_area.payloads_end.Given as goal

abbrev pub invariant-loop-image : goal.invariant-loop-image
invariant-loop-image l = record {
  aligned : l.area.form ≡ Aligned l.fn.align;
  ends : payloads_end (align_bytes l.fn.align) l.area.end (payloads_of (drop l.image-index l.images))
      ≡ payloads_end (align_bytes l.fn.align) 0 (payloads_of l.images);
  within : l.area.end ≤ l.limit;
}
