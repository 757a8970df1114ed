use Rattle.std.proofs.Common.{◌≡◌, ◌<◌, ◌≤◌, ℕ, refl, lit≤, subst, arith}
use Rattle.bi_base.specs.Aligns.{align_bytes}
use Rattle.bi_base.specs.Alignments.{IsAlignment}
use Rattle.bi_base.proofs.AlignmentLaws.{alignment-positive, alignment-small}
use Rattle.bi_fit.specs.declared.form.Form.{Form}
use Rattle.bi_fit.specs.declared.form.Form.TheVariants.{Embedded, External, Aligned}
use Rattle.bi_c.specs.Arguments.{number_of_form}

-- Which numbers are those of forms.

pub embedded_by_number : (form : Form) → number_of_form form ≡ 0 → form ≡ Embedded
embedded_by_number Embedded same = refl
embedded_by_number External same = absurd (omega (arith, same))
embedded_by_number (Aligned align) same = absurd (omega (arith, same, alignment-positive (align_bytes align) align.is_alignment))

pub external_by_number : (form : Form) → number_of_form form ≡ 1 → form ≡ External
external_by_number Embedded same = absurd (omega (arith, same))
external_by_number External same = refl
external_by_number (Aligned align) same = absurd (omega (arith, same, alignment-positive (align_bytes align) align.is_alignment))

-- 2 and 3 are not numbers of forms.
pub no_form_below_four : (number : ℕ) → 1 < number → number < 4 → (form : Form) → ¬ (number_of_form form ≡ number)
no_form_below_four number more less Embedded same = omega (arith, same, more)
no_form_below_four number more less External same = omega (arith, same, more)
no_form_below_four number more less (Aligned align) same =
    omega (arith, same, less, alignment-positive (align_bytes align) align.is_alignment)

-- The greatest number is that of the greatest alignment.
pub largest_form_number : (form : Form) → number_of_form form ≤ 0x100000
largest_form_number Embedded = lit≤ tt
largest_form_number External = lit≤ tt
largest_form_number (Aligned align) = alignment-small (align_bytes align) align.is_alignment

-- A number that is neither 0 nor 1, nor an alignment, is that of no form.
pub no_form_without_alignment : (number : ℕ) → ¬ (number ≡ 0) → ¬ (number ≡ 1) → ¬ (IsAlignment number) → (form : Form) →
    ¬ (number_of_form form ≡ number)
no_form_without_alignment number no_zero no_one no_alignment Embedded same = omega (arith, same, no_zero)
no_form_without_alignment number no_zero no_one no_alignment External same = omega (arith, same, no_one)
no_form_without_alignment number no_zero no_one no_alignment (Aligned align) same =
    no_alignment (subst IsAlignment same align.is_alignment)
