use Rattle.std.proofs.Common.{◌≡◌, ◌++◌, ℕ, List, length, refl, ap, ◌∙◌, arith}
use Rattle.bi_lay.specs.Contents.{Doc, text_of}
use Rattle.bi_fit.specs.declared.form.Form.{Form}
use Rattle.bi_fit.specs.NormalNodes.{payloads_of}
use Rattle.bi_fit.specs.Text.{alignment_of, blob_alignment, payloads_after}
use Rattle.bi_fit.proofs.BuiltPayloads.{are_within}
use Rattle.bi_fit.proofs.WholeTexts.{length-whole_text}
use Rattle.bi_fit.proofs.text.FitText.new.Goals as goal

-- The blob is the text of the document with the alignment of the form.
is_blob : (form : Form) (document : Doc) (align : ℕ) (blob : List ℕ) → align ≡ blob_alignment (alignment_of form) →
    blob ≡ text_of align document → blob ≡ text_of (blob_alignment (alignment_of form)) document
is_blob form document align blob is_align is = is ∙ ap (λ n. text_of n document) is_align

pub returns-then-size-limit-clause-fault : goal.returns-then-size-limit-clause-fault
returns-then-size-limit-clause-fault c =
    let whole = length-whole_text c.args.form c.args.document (payloads_of c.args.images.now) in
    let same = ap length (is_blob c.args.form c.args.document _ c.in-Some.blob c.align.ensures c.in-Some.ensures) in
    rw c.refuse-then-size-limit.ensures (refl, omega (arith, whole, same, c.size.ensures.size, c.requires.after))

pub invariant_of-result : goal.invariant_of-result
invariant_of-result c =
    let payloads = payloads_of c.args.images.now in
    let whole = length-whole_text c.args.form c.args.document payloads in
    let blob = is_blob c.args.form c.args.document _ c.in-Some.blob c.align.ensures c.in-Some.ensures in
    let is_text = ap (λ blob. blob ++ payloads_after (alignment_of c.args.form) payloads) blob in
    record {
      within = are_within c.args.form payloads (omega (arith, c.requires.after, c.requires.within, c.requires.small));
      is_size = omega (arith, whole, ap length blob, ap length is_text, c.size.ensures.size, c.requires.after);
      small = omega (arith, c.requires.small);
    }

pub returns-clause-text : goal.returns-clause-text
returns-clause-text c =
    ap (λ blob. blob ++ payloads_after (alignment_of c.args.form) (payloads_of c.args.images.now))
    (is_blob c.args.form c.args.document _ c.in-Some.blob c.align.ensures c.in-Some.ensures)

pub returns-clause-short : goal.returns-clause-short
returns-clause-short c =
    let payloads = payloads_of c.args.images.now in
    let blob = is_blob c.args.form c.args.document _ c.in-Some.blob c.align.ensures c.in-Some.ensures in
    let is_text = ap (λ blob. blob ++ payloads_after (alignment_of c.args.form) payloads) blob in
    omega (
      arith,
      length-whole_text c.args.form c.args.document payloads,
      ap length blob,
      ap length is_text,
      c.size.ensures.size,
      c.requires.after,
    )
