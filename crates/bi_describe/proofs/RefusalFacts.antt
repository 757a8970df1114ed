use Rattle.std.proofs.Common.{◌≡◌, ◌≤◌, ◌⊎◌, ℕ, ◌*◌, ◌+◌, List, [], ◌∷◌, ◌++◌, length, codes, inl, inr, refl, sym, ap, subst, ◌∙◌}
use Rattle.std.proofs.Common.{lit≤, lit<, arith, rules}
use Rattle.std.specs.Fmt.{digits}
use Rattle.std.proofs.lemmas.List.{length-append}
use Rattle.bi_base.specs.Cells.{cell, u32_at}
use Rattle.bi_base.specs.declared.fault.Error.{Error}
use Rattle.bi_base.specs.declared.fault.Error.TheVariants.{OutOfMemory, ReadFailed, Refused, WriteFailed}
use Rattle.bi_base.specs.declared.fault.Fault.{Fault}
use Rattle.bi_base.specs.Limits.{Limits, widest}
use Rattle.bi_fit.specs.KnownFiles.{shared_file}
use Rattle.bi_fit.proofs.FileFacts.{no_entries}
use Rattle.bi_hash.specs.declared.algo.Algo.TheVariants.{Sha256}
use Rattle.bi_hash.specs.Digests.{digest_of}
use Rattle.bi_hash.proofs.DigestBytes.{length-digest_of}
use Rattle.bi_legacy.specs.File.{LegacyMeans}
use Rattle.bi_legacy.specs.KnownFaults.{limited_to}
use Rattle.bi_legacy.specs.KnownImages.{kernel_file, kernel_image}
use Rattle.bi_legacy.specs.Laws.{OneLegacyMeaning}
use Rattle.bi_norm.specs.KnownComparisons.{file_without_magic, no_magic}
use Rattle.bi_norm.specs.Meaning.{Meaning, Means, OfLegacy}
use Rattle.bi_norm.specs.Reading.{ForLegacyImage, ForTree, NeedsMemory}
use Rattle.bi_norm.proofs.ComparisonFacts.{kernel_means, no_magic_is_error}
use Rattle.bi_norm.proofs.KindLaws.{one_file_fault, one_file_meaning}
use Rattle.bi_norm.proofs.NormalForms.{needs_memory}
use Rattle.bi_norm.proofs.TextBoundFacts.{shared_means}
use Rattle.bi_common.specs.declared.format.Format.{Format}
use Rattle.bi_common.specs.declared.format.Format.TheVariants.{Lines}
use Rattle.bi_common.specs.KnownWords.{lines}
use Rattle.bi_common.specs.ValueTexts.{hexadecimal_digits}
use Rattle.bi_describe.specs.Describing.{CanBeDescribed, IsDescribeError, IsTooLongToDescribe, MeansTooMuch}
use Rattle.bi_describe.specs.Descriptions.{description, description_lines, description_texts}
use Rattle.bi_describe.specs.KnownRefusals.{longer_meaning, shorter_meaning, three_payloads, FailsToDescribe, IsTooLargeOrNoMemory}
use Rattle.bi_describe.specs.KnownRefusals.{DescribeErrorsAreKnown, DescribingErrorsAreKnown, DescriptionBoundsAreKnown}
use Rattle.bi_describe.specs.KnownRefusals.{ReadingErrorsAreKnown}
use Rattle.bi_describe.proofs.DifferenceFacts.{lines_of_texts}

-- Small boot images are over the bounds for descriptions or within them, and the first of two that cannot be read or described is the one
-- that is refused.

-- ---- the lengths of descriptions

-- Each byte has two digits.
length-hexadecimal_digits : (bytes : List ℕ) → length (hexadecimal_digits bytes) ≡ 2 * length bytes
length-hexadecimal_digits [] = refl
length-hexadecimal_digits (byte ∷ later) = omega (arith, length-hexadecimal_digits later)

-- Each line has a newline.
abbrev length_with_newlines : List (List ℕ) → ℕ
length_with_newlines [] = 0
length_with_newlines (text ∷ later) = length text + 1 + length_with_newlines later

length-lines : (texts : List (List ℕ)) → length (lines texts) ≡ length_with_newlines texts
length-lines [] = refl
length-lines (text ∷ later) = length-append text (10 ∷ lines later) ∙ omega (arith, length-lines later)

-- The digits of the digest of the kernel.
abbrev kernel_digits : List ℕ
kernel_digits = hexadecimal_digits (digest_of Sha256 (codes "123456789"))

length-kernel_digits : length kernel_digits ≡ 64
length-kernel_digits = length-hexadecimal_digits (digest_of Sha256 (codes "123456789"))
    ∙ ap (λ n. 2 * n) (length-digest_of Sha256 (codes "123456789"))

-- The lines of the description of the kernel image.
abbrev kernel_lines : List (List ℕ)
kernel_lines =
    codes "kind legacy" ∷ codes "name k" ∷ codes "time 0" ∷ codes "load 0x00008000" ∷ codes "entry 0x00008000"
    ∷ codes "os linux" ∷ codes "arch arm" ∷ codes "type kernel" ∷ codes "compression none"
    ∷ (codes "part 0 size 9 sha256 " ++ kernel_digits) ∷ []

kernel_texts : description_texts longer_meaning ≡ kernel_lines
unfolding digits cell
kernel_texts = refl

longer_length : length (description longer_meaning) ≡ 192
longer_length =
    ap length (lines_of_texts (description_lines longer_meaning) ∙ ap lines kernel_texts)
    ∙ length-lines kernel_lines
    ∙ omega (arith, length-append (codes "part 0 size 9 sha256 ") kernel_digits, length-kernel_digits)

shorter_length : length (description shorter_meaning) ≡ 40
unfolding digits
shorter_length = rw no_entries refl

pub description_bounds_are_known : DescriptionBoundsAreKnown
description_bounds_are_known = search (rules, longer_length)

-- ---- errors

-- What holds for each error of describing a file.
each_error : (format : Format) (limits : Limits) (file : List ℕ) (IsOne : Error → Type 0) →
    ((fault : Fault) → IsDescribeError format limits file (Refused fault) → IsOne (Refused fault)) →
    (NeedsMemory limits file → IsOne OutOfMemory) → (error : Error) → IsDescribeError format limits file error → IsOne error
each_error format limits file IsOne refused memory (Refused fault) is = refused fault is
each_error format limits file IsOne refused memory OutOfMemory is = memory is
each_error format limits file IsOne refused memory ReadFailed is = absurd is
each_error format limits file IsOne refused memory WriteFailed is = absurd is

-- A file that means something which can be described has no other error than that memory runs out.
memory_alone : (format : Format) (limits : Limits) (file : List ℕ) (meaning : Meaning) → Means limits file meaning →
    ¬ (MeansTooMuch format limits file) → FailsToDescribe format limits file (λ error. error ≡ OutOfMemory)
memory_alone format limits file meaning means within error = (
  each_error format limits file (λ error. error ≡ OutOfMemory)
      (λ fault is. elim is [ inl read ↦ absurd (read.1 meaning means) | inr long ↦ absurd (within long.0) ])
      (λ needs. refl) error,
  λ same. subst (IsDescribeError format limits file) (sym same) (needs_memory limits file meaning means),
)

-- One that is too long to describe may also be refused for that.
or_too_large : (format : Format) (most : ℕ) (file : List ℕ) (meaning : Meaning) → Means (limited_to most) file meaning →
    IsTooLongToDescribe format (limited_to most) meaning → FailsToDescribe format (limited_to most) file (IsTooLargeOrNoMemory most)
or_too_large format most file meaning means long error = (
  each_error format (limited_to most) file (IsTooLargeOrNoMemory most)
      (λ fault is. elim is [ inl read ↦ absurd (read.1 meaning means) | inr long ↦ inl (ap Refused long.1) ])
      (λ needs. inr refl) error,
  λ is. elim is [
    | inl same ↦ subst (IsDescribeError format (limited_to most) file) (sym same)
        (inr (record { meaning = meaning; means = means; is_too_long = long }, refl))
    | inr same ↦ subst (IsDescribeError format (limited_to most) file) (sym same) (needs_memory (limited_to most) file meaning means)
  ],
)

-- A file without a magic number needs no memory, since its header is checked first.
no_magic_errors : (format : Format) → FailsToDescribe format widest file_without_magic (λ error. error ≡ Refused no_magic)
unfolding u32_at
no_magic_errors format error = (
  each_error format widest file_without_magic (λ error. error ≡ Refused no_magic)
      (λ fault is. elim is [
        | inl read ↦ ap Refused (one_file_fault widest file_without_magic fault no_magic read.0 no_magic_is_error.0)
        | inr long ↦ absurd (no_magic_is_error.1 long.0.meaning long.0.means)
      ])
      (λ needs. elim needs [
        | ForLegacyImage image means ↦ absurd (no_magic_is_error.1 (OfLegacy image) means)
        | ForTree other fine ↦ absurd (omega (arith, fine.header.1.1.0))
      ]) error,
  λ same. subst (IsDescribeError format widest file_without_magic) (sym same) (inl no_magic_is_error),
)

-- What the kernel image means within lower limits. It means nothing else.
pub kernel_means_within : (most : ℕ) → 73 ≤ most → LegacyMeans (limited_to most) kernel_file kernel_image
kernel_means_within most fits = record { is_file = kernel_means.is_file; short = fits }

module _ (one_legacy : OneLegacyMeaning) where
  kernel_is_within : ¬ (MeansTooMuch Lines (limited_to 192) kernel_file)
  kernel_is_within much =
      description_bounds_are_known.as_long_is_within
      (subst (IsTooLongToDescribe Lines (limited_to 192))
      (one_file_meaning one_legacy (limited_to 192) widest kernel_file much.meaning longer_meaning much.means kernel_means)
      much.is_too_long)

  pub describe_errors_are_known : DescribeErrorsAreKnown
  describe_errors_are_known = record {
    no_magic = no_magic_errors;
    as_long = memory_alone Lines (limited_to 192) kernel_file longer_meaning (kernel_means_within 192 (lit≤ tt)) kernel_is_within;
    longer = or_too_large Lines 191 kernel_file longer_meaning (kernel_means_within 191 (lit≤ tt))
        description_bounds_are_known.longer_is_over;
    payloads = λ format. or_too_large format 2999 (shared_file 0 1000) three_payloads (shared_means 2999 (lit≤ tt)) (inl (lit< tt));
    is_same = λ format limits error. refl;
  }

-- The first meaning is too long for 88 bytes, and the second is not.
longer_cannot : ¬ (CanBeDescribed Lines (limited_to 88) longer_meaning)
longer_cannot can = omega (arith, can.short, longer_length)

longer_is_too_long : IsTooLongToDescribe Lines (limited_to 88) longer_meaning
longer_is_too_long = inr (omega (arith, longer_length))

shorter_can : CanBeDescribed Lines (limited_to 88) shorter_meaning
shorter_can = record { payloads = λ over. omega (arith, over); short = omega (arith, shorter_length) }

shorter_is_not : ¬ (IsTooLongToDescribe Lines (limited_to 88) shorter_meaning)
shorter_is_not is = elim is [ inl over ↦ omega (arith, over) | inr over ↦ omega (arith, over, shorter_length) ]

pub describing_errors_are_known : DescribingErrorsAreKnown
describing_errors_are_known = search (rules, longer_is_too_long, shorter_can, shorter_is_not, longer_cannot)

pub reading_errors_are_known : ReadingErrorsAreKnown
reading_errors_are_known = record {
  only_first = no_magic_is_error;
  only_second = record { meaning = OfLegacy kernel_image; means = kernel_means; has_error = no_magic_is_error };
  not_first = λ fault is. is.1 (OfLegacy kernel_image) kernel_means;
  first_of_both = no_magic_is_error;
  not_second_of_both = λ fault is. no_magic_is_error.1 is.meaning is.means;
}
