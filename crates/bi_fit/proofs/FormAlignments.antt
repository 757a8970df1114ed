use Rattle.std.proofs.Common.{◌<◌, arith}
use Rattle.bi_base.specs.Alignments.{IsAlignment}
use Rattle.bi_base.proofs.AlignmentLaws.{IsAlignment-four, alignment-positive}
use Rattle.bi_fit.specs.declared.form.Form.{Form}
use Rattle.bi_fit.specs.declared.form.Form.TheVariants.{Embedded, External, Aligned}
use Rattle.bi_fit.specs.Text.{alignment_of, blob_alignment}

-- The alignment of the blob in a form is an alignment.

pub form-aligned : (form : Form) → IsAlignment (blob_alignment (alignment_of form))
form-aligned Embedded = IsAlignment-four
form-aligned External = IsAlignment-four
form-aligned (Aligned align) = align.is_alignment

-- So it is not 0.
pub form-positive : (form : Form) → 0 < blob_alignment (alignment_of form)
form-positive form = omega (arith, alignment-positive (blob_alignment (alignment_of form)) (form-aligned form))
