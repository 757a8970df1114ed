use Rattle.std.proofs.Common.{◌≡◌, ◌≤◌, ℕ, List, length, refl, ap, sym, inl, inr, arith}
use Rattle.bi_base.specs.Limits.{Limits}
use Rattle.bi_blob.specs.Layout.{longest_text}
use Rattle.bi_legacy.specs.Laws.{OneLegacyMeaning, LegacyMeaningOrFault}
use Rattle.bi_legacy.proofs.FaultLaws.{no_meaning_with_fault, one_legacy_fault}
use Rattle.bi_legacy.proofs.ImageOfFile.{image_of_file}
use Rattle.bi_legacy.proofs.Magic.{file_begins}
use Rattle.bi_legacy.proofs.TextMeans.{legacy_texts_differ as legacy_texts_differ}
use Rattle.bi_fit.specs.declared.form.Form.{Form}
use Rattle.bi_fit.proofs.Faults.{one_fit_fault as one_tree_fault, fit_has_no_fault as tree_has_no_fault}
use Rattle.bi_fit.proofs.Faults.{fit_meaning_or_fault as tree_or_fault}
use Rattle.bi_fit.proofs.Meanings.{begins_with_magic, one_fit_meaning as one_tree_meaning}
use Rattle.bi_fit.proofs.TextLaws.{aligned_by_four_is_external, file_means_image_tree, same_text_same_tree}
use Rattle.bi_norm.specs.Faults.{OfLegacyImage, OfTree}
use Rattle.bi_norm.specs.Laws.{OneKind, OneFileMeaning, OneFileFault, FileHasNoFault, FileMeaningOrFault, FileMeaningWhereNoFault}
use Rattle.bi_norm.specs.Laws.{TextsOfKindsDiffer, NormalTextsDiffer, MeaningAlignedByFourIsExternal}
use Rattle.bi_norm.specs.Meaning.{Meaning, Means, OfLegacy, OfFit, normal_text}
use Rattle.bi_norm.proofs.NormalForms.{texts_differ}
use Rattle.bi_norm.proofs.FilesWithoutMeaning.{legacy_or_not, means_legacy, means_tree}

-- A file is of at most one kind and has one meaning or one fault, and texts of different kinds differ.

-- A file begins with one magic number.
pub one_kind : OneKind
one_kind file image tree legacy fit =
    omega (arith, (file_begins file image legacy).magic, begins_with_magic file tree fit)

-- A file of a kind has one meaning of that kind.
pub one_file_meaning : OneLegacyMeaning → OneFileMeaning
one_file_meaning one_legacy limits other_limits file (OfLegacy one) (OfLegacy other) means other_means =
    ap OfLegacy (one_legacy file one other means.is_file other_means.is_file)
one_file_meaning one_legacy limits other_limits file (OfLegacy one) (OfFit other) means other_means =
    absurd (one_kind file one other means.is_file other_means.is_file)
one_file_meaning one_legacy limits other_limits file (OfFit one) (OfLegacy other) means other_means =
    absurd (one_kind file other one other_means.is_file means.is_file)
one_file_meaning one_legacy limits other_limits file (OfFit one) (OfFit other) means other_means =
    ap OfFit (one_tree_meaning file one other means.is_file other_means.is_file)

pub one_file_fault : OneFileFault
one_file_fault limits file one other (OfLegacyImage begins is) (OfLegacyImage other_begins other_is) =
    one_legacy_fault file limits one other is other_is
one_file_fault limits file one other (OfLegacyImage begins is) (OfTree others other_is) = absurd (others begins)
one_file_fault limits file one other (OfTree others is) (OfLegacyImage begins other_is) = absurd (others begins)
one_file_fault limits file one other (OfTree others is) (OfTree other_others other_is) =
    one_tree_fault limits file one other is other_is

pub file_has_no_fault : FileHasNoFault
file_has_no_fault limits file (OfLegacy image) fault means (OfLegacyImage begins is) =
    no_meaning_with_fault file image limits fault is means
file_has_no_fault limits file (OfLegacy image) fault means (OfTree others is) =
    others (means_legacy limits file image means)
file_has_no_fault limits file (OfFit tree) fault means (OfLegacyImage begins is) =
    means_tree limits file tree means begins
file_has_no_fault limits file (OfFit tree) fault means (OfTree others is) =
    tree_has_no_fault limits file tree fault means is

pub file_meaning_or_fault : LegacyMeaningOrFault → FileMeaningOrFault
file_meaning_or_fault legacy_or_fault limits file bytes = elim (legacy_or_not file) [
  | inl begins ↦ elim (legacy_or_fault file limits bytes) [
    | inl some ↦ inl (OfLegacy some.0, some.1)
    | inr some ↦ inr (some.0, OfLegacyImage begins some.1)
  ]
  | inr others ↦ elim (tree_or_fault limits file bytes) [
    | inl some ↦ inl (OfFit some.0, some.1)
    | inr some ↦ inr (some.0, OfTree others some.1)
  ]
]

pub file_meaning_where_no_fault : LegacyMeaningOrFault → FileMeaningWhereNoFault
file_meaning_where_no_fault legacy_or_fault limits file bytes = (
  λ some fault is. file_has_no_fault limits file some.0 fault some.1 is,
  λ none. elim (file_meaning_or_fault legacy_or_fault limits file bytes) [
    | inl some ↦ some
    | inr some ↦ absurd (none some.0 some.1)
  ],
)

-- The magic numbers differ.
pub texts_of_kinds_differ : TextsOfKindsDiffer
texts_of_kinds_differ = texts_differ

-- Different meanings have different texts.
same_meaning : (form : Form) (limits other_limits : Limits) (file other_file : List ℕ) (one other : Meaning) → Means limits file one →
    Means other_limits other_file other → length (normal_text form one) ≤ longest_text → normal_text form one ≡ normal_text form other →
    one ≡ other
same_meaning form limits other_limits file other_file (OfLegacy one) (OfLegacy other) means other_means short same =
    ap OfLegacy (legacy_texts_differ one other (image_of_file file one means.is_file)
    (image_of_file other_file other other_means.is_file) same)
same_meaning form limits other_limits file other_file (OfLegacy one) (OfFit other) means other_means short same =
    absurd (texts_differ form one other same)
same_meaning form limits other_limits file other_file (OfFit one) (OfLegacy other) means other_means short same =
    absurd (texts_differ form other one (sym same))
same_meaning form limits other_limits file other_file (OfFit one) (OfFit other) means other_means short same =
    ap OfFit ((same_text_same_tree form one other (file_means_image_tree file one means.is_file)
    (file_means_image_tree other_file other other_means.is_file) short).0 same)

pub normal_texts_differ : NormalTextsDiffer
normal_texts_differ form limits other_limits file other_file one other means other_means short = (
  same_meaning form limits other_limits file other_file one other means other_means short,
  λ same. ap (normal_text form) same,
)

-- The form with the alignment 4 is the form External. It has no effect on a legacy image.
pub meaning_aligned_by_four : MeaningAlignedByFourIsExternal
meaning_aligned_by_four align (OfLegacy image) is = refl
meaning_aligned_by_four align (OfFit tree) is = aligned_by_four_is_external align tree is
