use Rattle.std.proofs.Common.{ℕ, ◌<◌, length, map, sym, ap, ◌∙◌, subst}
use Rattle.bi_base.specs.Slices.{bytes_of}
use Rattle.bi_legacy.specs.Parts.{parts_end_from}
use Rattle.bi_legacy.proofs.NormalLength.{length-normal_body}
use Rattle.bi_legacy.proofs.emitting.data_size.Goals as goal

pub returns-in_err-end : goal.returns-in_err-end
returns-in_err-end c =
    let parts = bytes_of c.args.parts.now in
    let end = ap (λ at. parts_end_from at (map length parts)) c.start_of_parts-start.ensures
    ∙ sym (length-normal_body c.args.image_type parts) in
    rw c.from_residual.ensures (subst (λ (n : ℕ). c.args.most < n) end c.in_err-end.ensures)

pub returns : goal.returns
returns c =
    let parts = bytes_of c.args.parts.now in
    let end = ap (λ at. parts_end_from at (map length parts)) c.start_of_parts-start.ensures
    ∙ sym (length-normal_body c.args.image_type parts) in
    (c.in_ok-end.ensures.0 ∙ end, c.in_ok-end.ensures.1)
