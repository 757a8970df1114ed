use Rattle.std.proofs.Common.{Option, ◌≡◌, ◌∙◌, ◌↔◌, ◌≤◌, ◌⊎◌, ◌++◌, ◌-◌, ℕ, Bool, true, false, IsTrue, List, [], ◌∷◌, codes, drop, length}
use Rattle.std.proofs.Common.{None, map, inl, inr, ap, refl, sym, subst, lit<, lit≤, arith}
use Rattle.std.specs.Fmt.{digits}
use Rattle.bi_base.specs.Cells.{cell, u32_at}
use Rattle.bi_base.specs.declared.fault.Cause.TheVariants.{BadDataCrc, NoImages, Truncated}
use Rattle.bi_base.specs.declared.fault.Error.{Error}
use Rattle.bi_base.specs.declared.fault.Error.TheVariants as error
use Rattle.bi_base.specs.declared.fault.Fault.{Fault}
use Rattle.bi_base.specs.Limits.{IsInRange, Limits, widest}
use Rattle.bi_base.specs.Reading.{too_large}
use Rattle.bi_common.specs.declared.format.Format.{Format}
use Rattle.bi_common.specs.declared.format.Format.TheVariants.{Lines, Json}
use Rattle.bi_commands.specs.declared.extract.Select.{Select}
use Rattle.bi_commands.specs.declared.extract.Select.TheVariants.{Part}
use Rattle.bi_commands.specs.Extracting.{Choice, Chosen, MeansSuch, NoSuchPart, OfOtherKind, choice_of}
use Rattle.bi_commands.specs.KnownChoices.{image_selection}
use Rattle.bi_commands.specs.UpdatedFiles.{IsUpdateError}
use Rattle.bi_commands.proofs.ExtractFacts.{updated_texts_are_known}
use Rattle.bi_commands.specs.KnownUpdates.{only_time}
use Rattle.bi_fit.specs.Content.{tree_of}
use Rattle.bi_fit.specs.declared.form.Form.TheVariants.{Embedded, External}
use Rattle.bi_legacy.specs.File.{header}
use Rattle.bi_legacy.specs.KnownFiles.{kernel_file_with_rest}
use Rattle.bi_legacy.specs.KnownImages.{kernel_file, kernel_image, multi_file, multi_image}
use Rattle.bi_legacy.specs.Laws.{OneLegacyMeaning}
use Rattle.bi_legacy.specs.Meaning.{LegacyImage}
use Rattle.bi_legacy.specs.Parts.{parts_end}
use Rattle.bi_legacy.specs.Reading.{LegacyModel, IsReadLegacy}
use Rattle.bi_legacy.specs.Text.{legacy_text}
use Rattle.bi_legacy.proofs.FaultLaws.{no_meaning_with_fault}
use Rattle.bi_legacy.proofs.KnownImages.{multi_text}
use Rattle.bi_legacy.proofs.LegacyFaultFacts.{legacy_files_have_faults}
use Rattle.bi_norm.specs.declared.kind.Kind.{Kind}
use Rattle.bi_norm.specs.declared.kind.Kind.TheVariants.{Legacy, Fit}
use Rattle.bi_norm.specs.Kinds.{BeginsAs, IsKindFault, TooShort, OfNoKind}
use Rattle.bi_norm.specs.KnownComparisons.{file_without_magic, no_magic}
use Rattle.bi_norm.specs.Meaning.{Meaning, Means, OfFit, OfLegacy}
use Rattle.bi_norm.specs.NormalForm.{IsNormaliseError, IsTooLong}
use Rattle.bi_norm.specs.Reading.{ForLegacyImage, ForTree, IsReadErrorOrTooLarge}
use Rattle.bi_norm.proofs.BuiltTextFacts.{legacy_build_errors_are_known}
use Rattle.bi_norm.proofs.ComparisonFacts.{kernel_with_rest_means, multi_means, no_magic_is_error}
use Rattle.bi_norm.proofs.FilesWithoutMeaning.{means_legacy, means_tree}
use Rattle.bi_norm.proofs.KindLaws.{one_file_fault, one_file_meaning, one_kind}
use Rattle.bi_norm.proofs.NormalFormFacts.{normal_forms_are_known}
use Rattle.bi_report.specs.declared.check.Allowed.{Allowed}
use Rattle.bi_report.specs.CheckedFiles.{HoldsTooMuch, IsCheckError, IsCheckOutput, concerns_text}
use Rattle.bi_report.specs.Checking.{Concern, TrailingBytes, Unsigned, kept_concerns}
use Rattle.bi_report.specs.SignedTrees.{IsOverCheckBound}
use Rattle.bi_report.specs.FoundConcerns.{AreFound, FoundConcern, InImageTree, InLegacyImage, NamedNodes, Rest, found_in_rest, kept_found}
use Rattle.bi_report.proofs.LegacyConcernFacts.{legacy_concerns_are_known}
use Rattle.bi_show.specs.KnownPages.{PagesAreKnown}
use Rattle.bi_show.specs.ShownFiles.{IsPage, OfLegacyImage, OfImageTree}
use Rattle.bi_c.specs.Answers.{Answers, IsFailure, Returned, Failed, Sets, WasSet, WasNotSet}
use Rattle.bi_c.specs.Answers.{answer_of, answer_of_failure}
use Rattle.bi_c.specs.Arguments.{HasChanges, HasForm, IsErrorInForm, allowed_by, changes_of}
use Rattle.bi_c.specs.Calls.{HasKinds, IsCheckText, IsFailureOfOne, IsKindFailure, IsKindNumber, IsNormaliseFailure, IsNormalised}
use Rattle.bi_c.specs.Calls.{IsPageFailure, IsPageText, IsUpdateFailure, IsUpdatedText, flag}
use Rattle.bi_c.specs.ConcernElements.{AreConcernElements, concern_element}
use Rattle.bi_c.specs.Extracting.{IsChosenAt, IsExtractCallFailure, IsExtracted, IsOffset, IsReasonNumber}
use Rattle.bi_c.specs.KnownCalls.{AlwaysAnswers, AlwaysFills, empty_answer, no_concern}
use Rattle.bi_c.proofs.FormNumbers.{no_form_below_four}
use Rattle.bi_c.specs.KnownElements.{region_at_offset}
use Rattle.bi_c.specs.KnownLegacyCalls.{HeaderCallsAreKnown, LegacyBuildingIsKnown, LegacySelectionsAreKnown, TextCallsAreKnown}
use Rattle.bi_c.specs.KnownLegacyCalls.{fields_of_multi, file_with_bad_data, parts_of_multi, pieces_of_multi}
use Rattle.bi_c.specs.LegacyElements.{AreLegacyFields, IsLegacyReadError}
use Rattle.bi_c.specs.PieceBuilding.{HasPieces, IsBuiltOfPieces, IsPieceBuildFailure}
use Rattle.bi_c.specs.declared.answer.Answer.{Answer}
use Rattle.bi_c.specs.declared.concerns.ConcernElement.{ConcernElement}
use Rattle.bi_c.specs.declared.failure.Failure.{Failure}
use Rattle.bi_c.specs.declared.failure.Failure.TheVariants.{Refused, NotFound, OutOfMemory, WrongArgument}
use Rattle.bi_c.specs.declared.legacy.LegacyFields.{LegacyFields}
use Rattle.bi_c.proofs.AnswerFacts.{always_answers, always_fills, never_answers, never_fills, only_memory, only_refused, only_wrong}
use Rattle.bi_c.proofs.AnswerFacts.{widest_is_in_range}
use Rattle.bi_c.specs.Arguments.{ChangesCheck, FormCheck, LayoutCheck}
use Rattle.bi_c.specs.Calls.{KindsCheck}
use Rattle.bi_c.specs.Checks.{IsLimit, LimitsCheck, NextCheck, NoCheck}
use Rattle.bi_c.specs.PieceBuilding.{IsPieceInside, PiecesCheck}
use Rattle.bi_c.specs.declared.argument.Argument.{Argument}
use Rattle.bi_c.specs.declared.argument.Argument.TheVariants.{Depth, Fields, Limit, Parts}
use Rattle.bi_c.specs.declared.argument.Argument.TheVariants as argument
use Rattle.bi_c.proofs.CheckFacts.{OnlyWrong, array_only, first_only, limits_none, next_keeps, next_none, next_only, no_check_none}
use Rattle.bi_c.proofs.CallFacts.{offsets_of_payloads_are_known}

-- Calls on small legacy images, and on files that are none, have known answers.

-- ---- kinds, causes and fields

no_such_kind : (kind : Kind) → ¬ (BeginsAs (codes "abcd") kind)
unfolding u32_at
no_such_kind Legacy begins = omega (arith, begins.magic)
no_such_kind Fit begins = omega (arith, begins.magic)

kind_fault : (fault : Fault) → IsKindFault (codes "abcd") fault → fault ≡ no_magic
kind_fault fault (TooShort short is) = absurd (omega (arith, short))
kind_fault fault (OfNoKind whole others is) = is

no_kind : (answer : Answer) (status : ℕ) → Answers (IsKindNumber (codes "abcd")) (IsKindFailure (codes "abcd")) answer status →
    (answer ≡ record empty_answer { cause = 2; file = 1 }) × (status ≡ 1)
no_kind answer status (Returned size value is same ends) = absurd (no_such_kind is.kind is.begins)
no_kind answer status (Failed (WrongArgument found index) has same ends) = absurd has
no_kind answer status (Failed (Refused file fault) has same ends) =
    let cause = kind_fault fault has.1 in (same ∙ (λ i. answer_of_failure (Refused (has.0 i) (cause i))), ends)
no_kind answer status (Failed OutOfMemory has same ends) = absurd has
no_kind answer status (Failed (NotFound reason index) has same ends) = absurd has

short_fault : (fault : Fault) → IsKindFault (codes "abc") fault → fault ≡ record { cause = Truncated; offset = 0 }
short_fault fault (TooShort short is) = is
short_fault fault (OfNoKind whole others is) = absurd (omega (arith, whole))

short_file : (answer : Answer) (status : ℕ) → Answers (IsKindNumber (codes "abc")) (IsKindFailure (codes "abc")) answer status →
    (answer ≡ record empty_answer { cause = 1; file = 1 }) × (status ≡ 1)
short_file answer status (Returned size value is same ends) = absurd (omega (arith, is.begins.whole))
short_file answer status (Failed (WrongArgument found index) has same ends) = absurd has
short_file answer status (Failed (Refused file fault) has same ends) =
    let cause = short_fault fault has.1 in (same ∙ (λ i. answer_of_failure (Refused (has.0 i) (cause i))), ends)
short_file answer status (Failed OutOfMemory has same ends) = absurd has
short_file answer status (Failed (NotFound reason index) has same ends) = absurd has

abbrev bad_data_fault : Fault
bad_data_fault = record { cause = BadDataCrc; offset = 24 }

bad_data : (before after : LegacyFields) (answer : Answer) (status : ℕ) →
    Sets (AreLegacyFields 0x7fffffff 64 file_with_bad_data)
    (IsFailureOfOne 0x7fffffff 64 (λ limits. IsLegacyReadError limits file_with_bad_data)) before after answer status →
    (after ≡ before) × (answer ≡ record empty_answer { cause = 4; offset = 24; file = 1 }) × (status ≡ 1)
bad_data before after answer status (WasSet is same ends) =
    absurd (no_meaning_with_fault file_with_bad_data is.image.image widest bad_data_fault legacy_files_have_faults.other_data
    is.is_read.means)
bad_data before after answer status (WasNotSet (WrongArgument found index) has stays same ends) = absurd (has.0 widest_is_in_range)
bad_data before after answer status (WasNotSet (Refused file fault) has stays same ends) =
    let cause : fault ≡ bad_data_fault = sym (has.2.only bad_data_fault legacy_files_have_faults.other_data) in
    (stays, same ∙ (λ i. answer_of_failure (Refused (has.1 i) (cause i))), ends)
bad_data before after answer status (WasNotSet OutOfMemory has stays same ends) = absurd has.1
bad_data before after answer status (WasNotSet (NotFound reason index) has stays same ends) = absurd has

-- The limit 63 is too small.
small_limit_only : OnlyWrong (LimitsCheck 63 64) Limit 0
small_limit_only =
    next_keeps (NextCheck NoCheck Limit (IsLimit 63)) Depth (IsInRange 63 64) Limit 0 (next_only NoCheck Limit (IsLimit 63) no_check_none)
    (λ is. omega (arith, is.0))

small_limit : (before after : LegacyFields) (answer : Answer) (status : ℕ) →
    Sets (AreLegacyFields 63 64 kernel_file) (IsFailureOfOne 63 64 (λ limits. IsLegacyReadError limits kernel_file)) before after answer
    status → (after ≡ before) × (answer ≡ record empty_answer { reason = 2 }) × (status ≡ 4)
small_limit before after answer status (WasSet is same ends) = absurd (omega (arith, is.limits.0))
small_limit before after answer status (WasNotSet (WrongArgument found index) has stays same ends) =
    let wrong = small_limit_only found index has.1 in
    (stays, same ∙ (λ i. answer_of_failure (WrongArgument (wrong.0 i) (wrong.1 i))), ends)
small_limit before after answer status (WasNotSet (Refused file fault) has stays same ends) = absurd (omega (arith, has.0.0))
small_limit before after answer status (WasNotSet OutOfMemory has stays same ends) = absurd (omega (arith, has.0.0))
small_limit before after answer status (WasNotSet (NotFound reason index) has stays same ends) = absurd has

pub header_calls_are_known : HeaderCallsAreKnown
header_calls_are_known = record {
  no_kind = no_kind;
  short_file = short_file;
  sentence = record { cause = NoImages; is_cause = refl; is_sentence = refl; no_value = refl };
  bad_data = bad_data;
  small_limit = small_limit;
}

-- ---- errors of reading

-- A file that means something is read, if memory does not run out.
pub no_read_error : (file : List ℕ) (meaning : Meaning) → Means widest file meaning → (IsTooLarge : Type 0) → ¬ IsTooLarge →
    (cause : Error) → IsReadErrorOrTooLarge widest file IsTooLarge cause → cause ≡ error.OutOfMemory
no_read_error file meaning means IsTooLarge fits (error.Refused fault) (inl is) = absurd (is.1 meaning means)
no_read_error file meaning means IsTooLarge fits (error.Refused fault) (inr is) = absurd (fits is.0)
no_read_error file meaning means IsTooLarge fits error.OutOfMemory is = refl
no_read_error file meaning means IsTooLarge fits error.ReadFailed is = absurd is
no_read_error file meaning means IsTooLarge fits error.WriteFailed is = absurd is

-- A file without a magic number has this fault, and needs no memory.
no_magic_read : (IsTooLarge : Type 0) → ¬ IsTooLarge → (cause : Error) → IsReadErrorOrTooLarge widest file_without_magic IsTooLarge cause
    → cause ≡ error.Refused no_magic
unfolding u32_at
no_magic_read IsTooLarge fits (error.Refused fault) (inl is) =
    ap error.Refused (one_file_fault widest file_without_magic fault no_magic is.0 no_magic_is_error.0)
no_magic_read IsTooLarge fits (error.Refused fault) (inr is) = absurd (fits is.0)
no_magic_read IsTooLarge fits error.OutOfMemory (ForLegacyImage image means) = absurd (no_magic_is_error.1 (OfLegacy image) means)
no_magic_read IsTooLarge fits error.OutOfMemory (ForTree other fine) = absurd (omega (arith, fine.header.1.1.0))
no_magic_read IsTooLarge fits error.ReadFailed is = absurd is
no_magic_read IsTooLarge fits error.WriteFailed is = absurd is

-- ---- normalising and updating

not_normalised : (before : List ℕ) →
    AlwaysFills (IsNormalised 0x7fffffff 64 1 file_without_magic) (IsNormaliseFailure 0x7fffffff 64 1 file_without_magic) before before
    (record empty_answer { cause = 2; file = 1 }) 1
not_normalised before =
    never_fills (IsNormalised 0x7fffffff 64 1 file_without_magic) (IsNormaliseFailure 0x7fffffff 64 1 file_without_magic) before
    (Refused 1 no_magic) (λ text value is. no_magic_is_error.1 is.is.normal.meaning is.is.normal.means)
    (only_refused (FormCheck 0x7fffffff 64 1) (IsErrorInForm 1 (λ form. IsNormaliseError widest form file_without_magic)) no_magic
    (record { limits = widest_is_in_range; form = External; is_form = refl })
    (λ cause is. no_magic_read (IsTooLong widest is.form file_without_magic) (λ long. no_magic_is_error.1 (OfFit long.tree) long.means)
    cause is.is_error))

no_such_form : (before : List ℕ) →
    AlwaysFills (IsNormalised 0x7fffffff 64 2 kernel_file) (IsNormaliseFailure 0x7fffffff 64 2 kernel_file) before before
    (record empty_answer { reason = 4 }) 4
no_such_form before =
    never_fills (IsNormalised 0x7fffffff 64 2 kernel_file) (IsNormaliseFailure 0x7fffffff 64 2 kernel_file) before
    (WrongArgument argument.Form 0)
    (λ text value is. no_form_below_four 2 (lit< tt) (lit< tt) is.arguments.form is.arguments.is_form)
    (only_wrong (FormCheck 0x7fffffff 64 2) (IsErrorInForm 2 (λ form. IsNormaliseError widest form kernel_file)) argument.Form 0
    (λ has. no_form_below_four 2 (lit< tt) (lit< tt) has.form has.is_form)
    (next_only (LimitsCheck 0x7fffffff 64) argument.Form (HasForm 0x7fffffff 64 2) (limits_none 0x7fffffff 64 widest_is_in_range)))

-- The depth 65 is too large, and is looked at before the form.
two_wrong : (before : List ℕ) →
    AlwaysFills (IsNormalised 0x7fffffff 65 2 kernel_file) (IsNormaliseFailure 0x7fffffff 65 2 kernel_file) before before
    (record empty_answer { reason = 3 }) 4
two_wrong before =
    never_fills (IsNormalised 0x7fffffff 65 2 kernel_file) (IsNormaliseFailure 0x7fffffff 65 2 kernel_file) before (WrongArgument Depth 0)
    (λ text value is. omega (arith, is.arguments.limits.3))
    (only_wrong (FormCheck 0x7fffffff 65 2)
    (IsErrorInForm 2 (λ form. IsNormaliseError (record { file = 0x7fffffff; depth = 65 }) form kernel_file)) Depth 0
    (λ has. omega (arith, has.limits.3))
    (next_keeps (LimitsCheck 0x7fffffff 65) argument.Form (HasForm 0x7fffffff 65 2) Depth 0
    (next_only (NextCheck NoCheck Limit (IsLimit 0x7fffffff)) Depth (IsInRange 0x7fffffff 65)
    (next_none NoCheck Limit (IsLimit 0x7fffffff) no_check_none (lit≤ tt, lit≤ tt))) (λ is. omega (arith, is.3))))

no_such_change : (before : List ℕ) →
    AlwaysFills (IsUpdatedText 0x7fffffff 64 0 4 5 multi_file) (IsUpdateFailure 0x7fffffff 64 0 4 5 multi_file) before before
    (record empty_answer { reason = 5 }) 4
no_such_change before =
    never_fills (IsUpdatedText 0x7fffffff 64 0 4 5 multi_file) (IsUpdateFailure 0x7fffffff 64 0 4 5 multi_file) before
    (WrongArgument argument.Changes 0)
    (λ text value is. omega (arith, is.arguments.are_changes))
    (only_wrong (ChangesCheck 0x7fffffff 64 0 4) (IsErrorInForm 0 (λ form. IsUpdateError (changes_of 4 5) widest form multi_file))
    argument.Changes 0 (λ has. omega (arith, has.are_changes))
    (next_only (FormCheck 0x7fffffff 64 0) argument.Changes (HasChanges 0x7fffffff 64 0 4)
    (next_none (LimitsCheck 0x7fffffff 64) argument.Form (HasForm 0x7fffffff 64 0) (limits_none 0x7fffffff 64 widest_is_in_range)
    (record { limits = widest_is_in_range; form = Embedded; is_form = refl }))))

no_page : (before : List ℕ) →
    AlwaysFills (IsPageText 0x7fffffff 64 0 file_without_magic) (IsPageFailure 0x7fffffff 64 0 file_without_magic) before before
    (record empty_answer { cause = 2; file = 1 }) 1
no_page before =
    never_fills (IsPageText 0x7fffffff 64 0 file_without_magic) (IsPageFailure 0x7fffffff 64 0 file_without_magic) before
    (Refused 1 no_magic) (λ text value is. means_something text is.is)
    (only_refused (LayoutCheck 0x7fffffff 64 0) (IsCheckError widest file_without_magic) no_magic
    (record { limits = widest_is_in_range; is_layout = lit< tt })
    (no_magic_read (HoldsTooMuch widest file_without_magic) (λ over. no_magic_is_error.1 over.meaning over.means)))
  where
    means_something : (text : List ℕ) → ¬ (IsPage false widest file_without_magic text)
    means_something text (OfLegacyImage page) = no_magic_is_error.1 (OfLegacy page.parsed.image) page.is_read.means
    means_something text (OfImageTree page) = no_magic_is_error.1 (OfFit page.tree) page.means

module _ (one_legacy : OneLegacyMeaning) where
  normalised : (before : List ℕ) → 73 ≤ length before →
      AlwaysFills (IsNormalised 0x7fffffff 64 0 kernel_file_with_rest) (IsNormaliseFailure 0x7fffffff 64 0 kernel_file_with_rest) before
      (kernel_file ++ drop 73 before) (record empty_answer { size = 73 }) 0
  normalised before room =
      always_fills (IsNormalised 0x7fffffff 64 0 kernel_file_with_rest) (IsNormaliseFailure 0x7fffffff 64 0 kernel_file_with_rest) before
      kernel_file 73 0
      (λ text value is.
      let found = ((normal_forms_are_known one_legacy).legacy is.arguments.form).only value text is.is in (found.1, found.0))
      (only_memory (FormCheck 0x7fffffff 64 0) (IsErrorInForm 0 (λ form. IsNormaliseError widest form kernel_file_with_rest))
      (record { limits = widest_is_in_range; form = Embedded; is_form = refl })
      (λ cause is. no_read_error kernel_file_with_rest (OfLegacy kernel_image) kernel_with_rest_means
      (IsTooLong widest is.form kernel_file_with_rest)
      (λ long. means_tree widest kernel_file_with_rest long.tree long.means
      (means_legacy widest kernel_file_with_rest kernel_image kernel_with_rest_means)) cause is.is_error)) refl room

  updated : (before : List ℕ) → 87 ≤ length before →
      AlwaysFills (IsUpdatedText 0x7fffffff 64 0 1 5 multi_file) (IsUpdateFailure 0x7fffffff 64 0 1 5 multi_file) before
      (legacy_text (record multi_image { time = 5 }) ++ drop 87 before) (record empty_answer { size = 87 }) 0
  unfolding header cell legacy_text
  updated before room =
      always_fills (IsUpdatedText 0x7fffffff 64 0 1 5 multi_file) (IsUpdateFailure 0x7fffffff 64 0 1 5 multi_file) before
      (legacy_text (record multi_image { time = 5 })) 87 0
      (λ text value is. (
        (updated_texts_are_known one_legacy).text is.arguments.has_form.form text is.is.is,
        (updated_texts_are_known one_legacy).count is.arguments.has_form.form value text is.is,
      ))
      (only_memory (ChangesCheck 0x7fffffff 64 0 1) (IsErrorInForm 0 (λ form. IsUpdateError (only_time 5) widest form multi_file))
      (record { has_form = record { limits = widest_is_in_range; form = Embedded; is_form = refl }; are_changes = lit< tt })
      (λ cause is. (updated_texts_are_known one_legacy).error is.form cause is.is_error)) refl room

  -- ---- checking

  -- The concerns of the file with seven bytes after the image.
  abbrev the_concerns : List Concern
  the_concerns = Unsigned None ∷ TrailingBytes 7 ∷ []

  module _ (format : Format) (allowed : Allowed) (clean : Bool) (text : List ℕ)
      (is : IsCheckOutput format allowed widest clean kernel_file_with_rest text) where
    are_these : is.checked.concerns ≡ the_concerns
    are_these = (legacy_concerns_are_known one_legacy).after_data.only is.checked.concerns is.checked.are_concerns

    text_is : text ≡ concerns_text format allowed the_concerns
    text_is = is.checked.is_text ∙ ap (concerns_text format allowed) are_these

    is_clean : IsTrue clean ↔ (kept_concerns allowed the_concerns ≡ [])
    is_clean = subst (λ concerns. IsTrue clean ↔ (kept_concerns allowed concerns ≡ [])) are_these is.is_empty

  -- If signatures are not asked for, the rest alone is kept.
  abbrev one_concern : List Concern
  one_concern = TrailingBytes 7 ∷ []

  -- It is clean if and only if nothing is kept.
  with_lines : (clean : Bool) → IsTrue clean ↔ (one_concern ≡ []) → clean ≡ false
  with_lines true is = absurd (omega (arith, ap length (is.0 refl)))
  with_lines false is = refl

  abbrev no_concerns : List Concern
  no_concerns = []

  without_lines : (clean : Bool) → IsTrue clean ↔ (no_concerns ≡ []) → clean ≡ true
  without_lines true is = refl
  without_lines false is = is.1 refl

  check_errors : (kinds : ℕ) → HasKinds 0x7fffffff 64 kinds → (failure : Failure) →
      IsFailure (KindsCheck 0x7fffffff 64 kinds) (IsCheckError widest kernel_file_with_rest) failure → failure ≡ OutOfMemory
  check_errors kinds valid =
      only_memory (KindsCheck 0x7fffffff 64 kinds) (IsCheckError widest kernel_file_with_rest) valid
      (no_read_error kernel_file_with_rest (OfLegacy kernel_image) kernel_with_rest_means (HoldsTooMuch widest kernel_file_with_rest)
      (λ over. within over.meaning over.means over.is_over))
    where
      within : (meaning : Meaning) → Means widest kernel_file_with_rest meaning → ¬ (IsOverCheckBound widest meaning)
      within (OfLegacy image) means (inl over) = over
      within (OfLegacy image) means (inr over) = over
      within (OfFit tree) means over =
          means_tree widest kernel_file_with_rest tree means
          (means_legacy widest kernel_file_with_rest kernel_image kernel_with_rest_means)

  concern : (before : List ℕ) → 11 ≤ length before →
      AlwaysFills (IsCheckText Lines 0x7fffffff 64 0 kernel_file_with_rest)
      (IsFailure (KindsCheck 0x7fffffff 64 0) (IsCheckError widest kernel_file_with_rest)) before
      (codes "trailing 7\n" ++ drop 11 before) (record empty_answer { size = 11 }) 0
  unfolding digits
  concern before room =
      always_fills (IsCheckText Lines 0x7fffffff 64 0 kernel_file_with_rest)
      (IsFailure (KindsCheck 0x7fffffff 64 0) (IsCheckError widest kernel_file_with_rest)) before (codes "trailing 7\n") 11 0
      (λ text value is. (
        text_is Lines (allowed_by 0) is.is.clean text is.is.is,
        is.is.number ∙ ap flag (with_lines is.is.clean (is_clean Lines (allowed_by 0) is.is.clean text is.is.is)),
      ))
      (check_errors 0 (record { limits = widest_is_in_range; are_kinds = lit< tt })) refl room

  concern_json : (before : List ℕ) → 47 ≤ length before →
      AlwaysFills (IsCheckText Json 0x7fffffff 64 0 kernel_file_with_rest)
      (IsFailure (KindsCheck 0x7fffffff 64 0) (IsCheckError widest kernel_file_with_rest)) before
      (codes "{\"concerns\":[{\"concern\":\"trailing\",\"size\":7}]}\n" ++ drop 47 before) (record empty_answer { size = 47 }) 0
  unfolding digits
  concern_json before room =
      always_fills (IsCheckText Json 0x7fffffff 64 0 kernel_file_with_rest)
      (IsFailure (KindsCheck 0x7fffffff 64 0) (IsCheckError widest kernel_file_with_rest)) before
      (codes "{\"concerns\":[{\"concern\":\"trailing\",\"size\":7}]}\n") 47 0
      (λ text value is. (
        text_is Json (allowed_by 0) is.is.clean text is.is.is,
        is.is.number ∙ ap flag (with_lines is.is.clean (is_clean Json (allowed_by 0) is.is.clean text is.is.is)),
      ))
      (check_errors 0 (record { limits = widest_is_in_range; are_kinds = lit< tt })) refl room

  allowed_concern : (before : List ℕ) →
      AlwaysFills (IsCheckText Lines 0x7fffffff 64 64 kernel_file_with_rest)
      (IsFailure (KindsCheck 0x7fffffff 64 64) (IsCheckError widest kernel_file_with_rest)) before before
      (record empty_answer { value = 1 }) 0
  allowed_concern before =
      always_fills (IsCheckText Lines 0x7fffffff 64 64 kernel_file_with_rest)
      (IsFailure (KindsCheck 0x7fffffff 64 64) (IsCheckError widest kernel_file_with_rest)) before [] 0 1
      (λ text value is. (
        text_is Lines (allowed_by 64) is.is.clean text is.is.is,
        is.is.number ∙ ap flag (without_lines is.is.clean (is_clean Lines (allowed_by 64) is.is.clean text is.is.is)),
      ))
      (check_errors 64 (record { limits = widest_is_in_range; are_kinds = lit< tt })) refl (omega arith)

  pub text_calls_are_known : PagesAreKnown → TextCallsAreKnown
  text_calls_are_known pages = record {
    normalised = normalised;
    not_normalised = not_normalised;
    no_such_form = no_such_form;
    two_wrong = two_wrong;
    updated = updated;
    no_such_change = no_such_change;
    concern = concern;
    concern_json = concern_json;
    allowed = allowed_concern;
    page = record {
      arguments = record { limits = widest_is_in_range; is_layout = lit< tt };
      is = pages.kernel;
      no_value = refl;
    };
    page_without_layout = record {
      arguments = record { limits = widest_is_in_range; is_layout = lit< tt };
      is = pages.no_layout;
      no_value = refl;
    };
    no_page = no_page;
  }

  -- ---- the element of the concern

  -- The bytes after the image that was read are seven.
  seven_unused : (image : LegacyModel) → IsReadLegacy widest kernel_file_with_rest image → image.unused ≡ 7
  unfolding header cell
  seven_unused image read =
      let same = one_legacy kernel_file_with_rest image.image kernel_image read.means.is_file kernel_with_rest_means.is_file in
      omega (arith, ap (λ (i : LegacyImage). parts_end i.image_type i.parts) same, read.unused)

  found_is : (found : List FoundConcern) → AreFound widest kernel_file_with_rest found →
      found
      ≡ record { concern = Unsigned None; subject = NamedNodes } ∷ record { concern = TrailingBytes 7; subject = Rest } ∷ []
  unfolding header cell
  found_is found (InLegacyImage image read is) =
      is
      ∙ ap (λ n. record { concern = Unsigned None; subject = NamedNodes } ∷ found_in_rest
      (drop (length kernel_file_with_rest - n) kernel_file_with_rest)) (seven_unused image read)
  found_is found (InImageTree content read is) =
      absurd (one_kind kernel_file_with_rest kernel_image (tree_of content) kernel_with_rest_means.is_file read.means.is_file)

  element : (before : List ConcernElement) → 1 ≤ length before →
      AlwaysFills (AreConcernElements 0x7fffffff 64 0 kernel_file_with_rest)
      (IsFailure (KindsCheck 0x7fffffff 64 0) (IsCheckError widest kernel_file_with_rest)) before
      (record no_concern { size = 7; kind = 64 } ∷ drop 1 before) (record empty_answer { size = 1 }) 0
  element before room =
      always_fills (AreConcernElements 0x7fffffff 64 0 kernel_file_with_rest)
      (IsFailure (KindsCheck 0x7fffffff 64 0) (IsCheckError widest kernel_file_with_rest)) before
      (record no_concern { size = 7; kind = 64 } ∷ []) 1 0
      (λ elements value is. (
        is.are_elements ∙ ap (λ found. map concern_element (kept_found (allowed_by 0) found)) (found_is is.found is.has_concerns.are_found),
        is.no_value,
      ))
      (check_errors 0 (record { limits = widest_is_in_range; are_kinds = lit< tt })) refl room

  -- ---- extracting

  module _ (Check : Option (Argument × ℕ) → Type 0) (valid : Check None) (select : Select) (file : List ℕ) (meaning : Meaning)
      (means : Means widest file meaning)
      (choice : Choice) (chosen : choice_of select meaning ≡ choice) where
    -- What holds of the choice of what the file means holds of this one.
    of_choice : (P : Choice → Type 0) → MeansSuch widest file (λ other. P (choice_of select other)) → P choice
    of_choice P such =
        subst P
        (ap (choice_of select) (one_file_meaning one_legacy widest widest file such.meaning meaning such.means means) ∙ chosen) such.holds

    pub extracted : (bytes : List ℕ) (size offset : ℕ) → choice ≡ Chosen bytes → length bytes ≡ size →
        ((found : ℕ) → IsOffset widest select file found → found ≡ offset) →
        AlwaysAnswers (IsExtracted (Check None) widest select file) (IsExtractCallFailure Check widest select file) (answer_of size offset)
        0
    extracted bytes size offset same long only =
        always_answers (IsExtracted (Check None) widest select file) (IsExtractCallFailure Check widest select file) size offset
        (λ given found is. (
          size_is given found (subst (λ c. IsChosenAt file c given found) same
              (of_choice (λ c. IsChosenAt file c given found) is.is_found.is_chosen)),
          only found is.is_found.is_offset,
        )) failed
      where
        size_is : (given found : ℕ) → IsChosenAt file (Chosen bytes) given found → given ≡ size
        size_is given found is = let these : bytes ≡ is.bytes = (let e = is.is_chosen in cc) in is.is_size ∙ ap length (sym these) ∙ long

        no_reason : (reason index : ℕ) → ¬ (IsReasonNumber reason index (Chosen bytes))
        no_reason reason index is = is

        failed : (failure : Failure) → IsExtractCallFailure Check widest select file failure → failure ≡ OutOfMemory
        failed (WrongArgument found index) is = absurd (is.0 valid)
        failed (Refused number fault) is = absurd (is.1.1.1 meaning means)
        failed OutOfMemory is = refl
        failed (NotFound reason index) is =
            absurd (no_reason reason index (subst (IsReasonNumber reason index) same (of_choice (IsReasonNumber reason index) is.1)))

    pub not_extracted : (reason index : ℕ) → ((size offset : ℕ) → ¬ (IsChosenAt file choice size offset)) →
        ((other other_index : ℕ) → IsReasonNumber other other_index choice → (other ≡ reason) × (other_index ≡ index)) →
        AlwaysAnswers (IsExtracted (Check None) widest select file) (IsExtractCallFailure Check widest select file)
        (answer_of_failure (NotFound reason index)) 5
    not_extracted reason index lacks only =
        never_answers (IsExtracted (Check None) widest select file) (IsExtractCallFailure Check widest select file) (NotFound reason index)
        (λ size offset is. lacks size offset (of_choice (λ c. IsChosenAt file c size offset) is.is_found.is_chosen)) failed
      where
        failed : (failure : Failure) → IsExtractCallFailure Check widest select file failure →
            (failure ≡ NotFound reason index) ⊎ (failure ≡ OutOfMemory)
        failed (WrongArgument found index) is = absurd (is.0 valid)
        failed (Refused number fault) is = absurd (is.1.1.1 meaning means)
        failed OutOfMemory is = inr refl
        failed (NotFound other other_index) is =
            let numbers = only other other_index (of_choice (IsReasonNumber other other_index) is.1) in
            inl (λ i. NotFound (numbers.0 i) (numbers.1 i))

-- With other arguments than valid ones nothing is looked at.
pub extracts_nothing : (Check : Option (Argument × ℕ) → Type 0) (limits : Limits) (select : Select) (file : List ℕ) (wrong_one : Argument) →
    ¬ (Check None) → OnlyWrong Check wrong_one 0 →
    AlwaysAnswers (IsExtracted (Check None) limits select file) (IsExtractCallFailure Check limits select file)
    (answer_of_failure (WrongArgument wrong_one 0)) 4
extracts_nothing Check limits select file wrong_one wrong only =
    never_answers (IsExtracted (Check None) limits select file) (IsExtractCallFailure Check limits select file) (WrongArgument wrong_one 0)
    (λ size offset is. wrong is.valid) failed
  where
    failed : (failure : Failure) → IsExtractCallFailure Check limits select file failure →
        (failure ≡ WrongArgument wrong_one 0) ⊎ (failure ≡ OutOfMemory)
    failed (WrongArgument found index) is = let same = only found index is.1 in inl (λ i. WrongArgument (same.0 i) (same.1 i))
    failed (Refused number fault) is = absurd (wrong is.0)
    failed OutOfMemory is = inr refl
    failed (NotFound reason index) is = absurd (wrong is.0)

pub legacy_selections_are_known : OneLegacyMeaning → LegacySelectionsAreKnown
legacy_selections_are_known one_legacy = record {
  concern = element one_legacy;
  part = extracted one_legacy (LimitsCheck 0x7fffffff 64) widest_is_in_range (Part 1) multi_file (OfLegacy multi_image) multi_means
      (Chosen (codes "abc")) refl (codes "abc") 3 84 refl refl offsets_of_payloads_are_known.part;
  no_part = not_extracted one_legacy (LimitsCheck 0x7fffffff 64) widest_is_in_range (Part 2) multi_file (OfLegacy multi_image) multi_means
      NoSuchPart refl 2 0 (λ size offset is. absurd (let wrong = is.is_chosen in cc)) (λ other other_index is. is);
  other_kind = not_extracted one_legacy (LimitsCheck 0x7fffffff 64) widest_is_in_range (image_selection (codes "a")) multi_file
      (OfLegacy multi_image) multi_means OfOtherKind refl 1 0 (λ size offset is. absurd (let wrong = is.is_chosen in cc))
      (λ other other_index is. is);
  small_limit = extracts_nothing (LimitsCheck 63 64) (record { file = 63; depth = 64 }) (Part 1) multi_file Limit
      (λ valid. omega (arith, valid.0)) small_limit_only;
}

-- ---- building

multi_is_built : (before : List ℕ) → 87 ≤ length before →
    AlwaysFills (IsBuiltOfPieces 87 64 pieces_of_multi fields_of_multi parts_of_multi)
    (IsPieceBuildFailure 87 64 pieces_of_multi fields_of_multi parts_of_multi) before (multi_file ++ drop 87 before)
    (record empty_answer { size = 87 }) 0
multi_is_built before room =
    always_fills (IsBuiltOfPieces 87 64 pieces_of_multi fields_of_multi parts_of_multi)
    (IsPieceBuildFailure 87 64 pieces_of_multi fields_of_multi parts_of_multi) before multi_file 87 0
    (λ text value is. (is.is.is_text ∙ multi_text, is.no_value)) failed refl room
  where
    failed : (failure : Failure) → IsPieceBuildFailure 87 64 pieces_of_multi fields_of_multi parts_of_multi failure → failure ≡ OutOfMemory
    failed (WrongArgument found index) is =
        absurd (is.0 (((lit≤ tt, lit≤ tt, lit≤ tt, lit≤ tt), lit≤ tt), (lit≤ tt, (lit≤ tt, tt))))
    failed (Refused file fault) is = absurd (let wrong = (legacy_build_errors_are_known.at_limit (error.Refused fault)).0 is.2 in cc)
    failed OutOfMemory is = refl
    failed (NotFound reason index) is = absurd is

multi_is_too_large : (before : List ℕ) →
    AlwaysFills (IsBuiltOfPieces 86 64 pieces_of_multi fields_of_multi parts_of_multi)
    (IsPieceBuildFailure 86 64 pieces_of_multi fields_of_multi parts_of_multi) before before
    (record empty_answer { cause = 21; offset = 86; file = 1 }) 1
multi_is_too_large before =
    never_fills (IsBuiltOfPieces 86 64 pieces_of_multi fields_of_multi parts_of_multi)
    (IsPieceBuildFailure 86 64 pieces_of_multi fields_of_multi parts_of_multi) before (Refused 1 (too_large 86))
    (λ text value is. omega (arith, is.is.accepted.short, ap length (is.is.is_text ∙ multi_text))) failed
  where
    failed : (failure : Failure) → IsPieceBuildFailure 86 64 pieces_of_multi fields_of_multi parts_of_multi failure →
        (failure ≡ Refused 1 (too_large 86)) ⊎ (failure ≡ OutOfMemory)
    failed (WrongArgument found index) is =
        absurd (is.0 (((lit≤ tt, lit≤ tt, lit≤ tt, lit≤ tt), lit≤ tt), (lit≤ tt, (lit≤ tt, tt))))
    failed (Refused file fault) is =
        let cause : fault ≡ too_large 86 =
        (let whole = (legacy_build_errors_are_known.past_limit (error.Refused fault)).0 is.2 in cc) in
        inl (λ i. Refused (is.1 i) (cause i))
    failed OutOfMemory is = inr refl
    failed (NotFound reason index) is = absurd is

-- The limits and the name are valid.
abbrev HasName : Type 0
HasName = IsInRange 87 64 × IsPieceInside pieces_of_multi fields_of_multi.name

part_is_outside : (before : List ℕ) →
    AlwaysFills (IsBuiltOfPieces 87 64 pieces_of_multi fields_of_multi (region_at_offset 6 4 ∷ []))
    (IsPieceBuildFailure 87 64 pieces_of_multi fields_of_multi (region_at_offset 6 4 ∷ [])) before before
    (record empty_answer { reason = 14 }) 4
part_is_outside before =
    never_fills (IsBuiltOfPieces 87 64 pieces_of_multi fields_of_multi (region_at_offset 6 4 ∷ []))
    (IsPieceBuildFailure 87 64 pieces_of_multi fields_of_multi (region_at_offset 6 4 ∷ [])) before (WrongArgument Parts 0)
    (λ text value is. outside is.arguments) failed
  where
    outside : ¬ (HasPieces 87 64 pieces_of_multi fields_of_multi (region_at_offset 6 4 ∷ []))
    outside is = omega (arith, is.parts_inside.0)

    only : OnlyWrong (PiecesCheck 87 64 pieces_of_multi fields_of_multi (region_at_offset 6 4 ∷ [])) Parts 0
    only =
        array_only (NextCheck (LimitsCheck 87 64) Fields HasName) Parts (IsPieceInside pieces_of_multi) (region_at_offset 6 4 ∷ []) 0
        (next_none (LimitsCheck 87 64) Fields HasName (limits_none 87 64 (lit≤ tt, lit≤ tt, lit≤ tt, lit≤ tt))
        ((lit≤ tt, lit≤ tt, lit≤ tt, lit≤ tt), lit≤ tt))
        (first_only (IsPieceInside pieces_of_multi) (region_at_offset 6 4) [] (λ is. omega (arith, is)))

    failed : (failure : Failure) → IsPieceBuildFailure 87 64 pieces_of_multi fields_of_multi (region_at_offset 6 4 ∷ []) failure →
        (failure ≡ WrongArgument Parts 0) ⊎ (failure ≡ OutOfMemory)
    failed (WrongArgument found index) is =
        let same = only found index is.1 in inl (λ i. WrongArgument (same.0 i) (same.1 i))
    failed (Refused file fault) is = absurd (outside is.0)
    failed OutOfMemory is = inr refl
    failed (NotFound reason index) is = absurd is

pub legacy_building_is_known : LegacyBuildingIsKnown
legacy_building_is_known = record { built = multi_is_built; too_large = multi_is_too_large; outside = part_is_outside }
