use Rattle.std.specs.Prelude.{ℕ, ◌≤◌, ◌≡◌, List, [], ◌∷◌, ◌++◌, codes, drop, length}
use Rattle.bi_base.specs.declared.fault.Cause.TheVariants.{NoImages}
use Rattle.bi_base.specs.Causes.{number_of}
use Rattle.bi_base.specs.Limits.{IsInRange, widest}
use Rattle.bi_common.specs.declared.format.Format.TheVariants.{Lines, Json}
use Rattle.bi_commands.specs.declared.extract.Select.TheVariants.{Part}
use Rattle.bi_commands.specs.KnownChoices.{image_selection}
use Rattle.bi_legacy.specs.KnownFaults.{with_byte_at}
use Rattle.bi_legacy.specs.KnownFiles.{kernel_file_with_rest}
use Rattle.bi_legacy.specs.KnownImages.{kernel_file, multi_file, multi_image}
use Rattle.bi_legacy.specs.Text.{legacy_text}
use Rattle.bi_norm.specs.KnownComparisons.{file_without_magic}
use Rattle.bi_report.specs.CheckedFiles.{IsCheckError}
use Rattle.bi_show.specs.KnownPages.{kernel_page, multi_page}
use Rattle.bi_c.specs.Answers.{Answers, IsFailure, Sets}
use Rattle.bi_c.specs.Checks.{LimitsCheck}
use Rattle.bi_c.specs.Calls.{KindsCheck, IsCauseSentence, IsCheckText, IsFailureOfOne}
use Rattle.bi_c.specs.Calls.{IsKindFailure, IsKindNumber, IsNormaliseFailure, IsNormalised}
use Rattle.bi_c.specs.Calls.{IsPageFailure, IsPageText, IsUpdateFailure, IsUpdatedText}
use Rattle.bi_c.specs.ConcernElements.{AreConcernElements}
use Rattle.bi_c.specs.Extracting.{IsExtractCallFailure, IsExtracted}
use Rattle.bi_c.specs.KnownCalls.{AlwaysAnswers, AlwaysFills, empty_answer, no_concern}
use Rattle.bi_c.specs.KnownElements.{kernel_fields, region_at_offset}
use Rattle.bi_c.specs.LegacyElements.{AreLegacyFields, IsLegacyReadError}
use Rattle.bi_c.specs.PieceBuilding.{IsBuiltOfPieces, IsPieceBuildFailure}
use Rattle.bi_c.specs.declared.answer.Answer.{Answer}
use Rattle.bi_c.specs.declared.concerns.ConcernElement.{ConcernElement}
use Rattle.bi_c.specs.declared.legacy.LegacyFields.{LegacyFields}
use Rattle.bi_c.specs.declared.region.Region.{Region}

-- What calls from C leave for small legacy images, and for files that are none: the buffer, the
-- struct and the status. A reader can judge the definitions by them. The limits are the largest
-- ones, if no others are given.

-- ---- kinds, causes and fields

-- The kernel file with another byte in its data.
abbrev pub file_with_bad_data : List ℕ
file_with_bad_data = with_byte_at kernel_file 64 0x30

-- Files of no kind have the cause BadMagic or Truncated. A cause has a sentence. A file with a
-- wrong checksum has the cause BadDataCrc at 24, and a limit of 63 bytes is a wrong argument: the
-- fields stay as they were.
pub record HeaderCallsAreKnown : Type 0 where
  pub no_kind : (answer : Answer) (status : ℕ)
      → Answers (IsKindNumber (codes "abcd")) (IsKindFailure (codes "abcd")) answer status
      → (answer ≡ record empty_answer { cause = 2; file = 1 }) × (status ≡ 1)
  pub short_file : (answer : Answer) (status : ℕ)
      → Answers (IsKindNumber (codes "abc")) (IsKindFailure (codes "abc")) answer status
      → (answer ≡ record empty_answer { cause = 1; file = 1 }) × (status ≡ 1)
  pub sentence : IsCauseSentence (number_of NoImages)
      (codes "The blob is a plain devicetree and not a FIT, since its root has no node 'images': "
      ++ codes "read it with dtc.")
      0
  pub bad_data : (before after : LegacyFields) (answer : Answer) (status : ℕ)
      → Sets (AreLegacyFields 0x7fffffff 64 file_with_bad_data)
      (IsFailureOfOne 0x7fffffff 64 (λ limits. IsLegacyReadError limits file_with_bad_data))
      before after answer status
      → (after ≡ before) × (answer ≡ record empty_answer { cause = 4; offset = 24; file = 1 })
      × (status ≡ 1)
  pub small_limit : (before after : LegacyFields) (answer : Answer) (status : ℕ)
      → Sets (AreLegacyFields 63 64 kernel_file)
      (IsFailureOfOne 63 64 (λ limits. IsLegacyReadError limits kernel_file))
      before after answer status
      → (after ≡ before) × (answer ≡ record empty_answer { reason = 2 }) × (status ≡ 4)

-- ---- texts

-- Normalising, updating, checking and showing.
pub record TextCallsAreKnown : Type 0 where
  -- The normal form of a file with seven bytes after the image has 73 bytes.
  pub normalised : (before : List ℕ) → 73 ≤ length before
      → AlwaysFills (IsNormalised 0x7fffffff 64 0 kernel_file_with_rest)
      (IsNormaliseFailure 0x7fffffff 64 0 kernel_file_with_rest)
      before (kernel_file ++ drop 73 before) (record empty_answer { size = 73 }) 0
  pub not_normalised : (before : List ℕ)
      → AlwaysFills (IsNormalised 0x7fffffff 64 1 file_without_magic)
      (IsNormaliseFailure 0x7fffffff 64 1 file_without_magic)
      before before (record empty_answer { cause = 2; file = 1 }) 1
  pub no_such_form : (before : List ℕ)
      → AlwaysFills (IsNormalised 0x7fffffff 64 2 kernel_file)
      (IsNormaliseFailure 0x7fffffff 64 2 kernel_file)
      before before (record empty_answer { reason = 4 }) 4
  -- Two arguments are wrong: the first is named.
  pub two_wrong : (before : List ℕ)
      → AlwaysFills (IsNormalised 0x7fffffff 65 2 kernel_file)
      (IsNormaliseFailure 0x7fffffff 65 2 kernel_file)
      before before (record empty_answer { reason = 3 }) 4
  -- An update of the time to 5.
  pub updated : (before : List ℕ) → 87 ≤ length before
      → AlwaysFills (IsUpdatedText 0x7fffffff 64 0 1 5 multi_file)
      (IsUpdateFailure 0x7fffffff 64 0 1 5 multi_file)
      before (legacy_text (record multi_image { time = 5 }) ++ drop 87 before)
      (record empty_answer { size = 87 }) 0
  pub no_such_change : (before : List ℕ)
      → AlwaysFills (IsUpdatedText 0x7fffffff 64 0 4 5 multi_file)
      (IsUpdateFailure 0x7fffffff 64 0 4 5 multi_file)
      before before (record empty_answer { reason = 5 }) 4
  -- The seven bytes are a concern, unless the bit 64 allows it.
  pub concern : (before : List ℕ) → 11 ≤ length before
      → AlwaysFills (IsCheckText Lines 0x7fffffff 64 0 kernel_file_with_rest)
      (IsFailure (KindsCheck 0x7fffffff 64 0) (IsCheckError widest kernel_file_with_rest))
      before (codes "trailing 7\n" ++ drop 11 before) (record empty_answer { size = 11 }) 0
  pub concern_json : (before : List ℕ) → 47 ≤ length before
      → AlwaysFills (IsCheckText Json 0x7fffffff 64 0 kernel_file_with_rest)
      (IsFailure (KindsCheck 0x7fffffff 64 0) (IsCheckError widest kernel_file_with_rest))
      before (codes "{\"concerns\":[{\"concern\":\"trailing\",\"size\":7}]}\n" ++ drop 47 before)
      (record empty_answer { size = 47 }) 0
  pub allowed : (before : List ℕ)
      → AlwaysFills (IsCheckText Lines 0x7fffffff 64 64 kernel_file_with_rest)
      (IsFailure (KindsCheck 0x7fffffff 64 64) (IsCheckError widest kernel_file_with_rest))
      before before (record empty_answer { value = 1 }) 0
  pub page : IsPageText 0x7fffffff 64 1 kernel_file_with_rest kernel_page 0
  pub page_without_layout : IsPageText 0x7fffffff 64 0 multi_file (multi_page []) 0
  pub no_page : (before : List ℕ)
      → AlwaysFills (IsPageText 0x7fffffff 64 0 file_without_magic)
      (IsPageFailure 0x7fffffff 64 0 file_without_magic)
      before before (record empty_answer { cause = 2; file = 1 }) 1

-- ---- elements

-- The element of the concern, and what is selected: the second part of a multi-file image is at 84.
-- The reason is 2 if there is no such part, and 1 for the name of an image.
pub record LegacySelectionsAreKnown : Type 0 where
  pub concern : (before : List ConcernElement) → 1 ≤ length before
      → AlwaysFills (AreConcernElements 0x7fffffff 64 0 kernel_file_with_rest)
      (IsFailure (KindsCheck 0x7fffffff 64 0) (IsCheckError widest kernel_file_with_rest))
      before (record no_concern { size = 7; kind = 64 } ∷ drop 1 before)
      (record empty_answer { size = 1 }) 0
  pub part : AlwaysAnswers
      (IsExtracted (IsInRange 0x7fffffff 64) widest (Part 1) multi_file)
      (IsExtractCallFailure (LimitsCheck 0x7fffffff 64) widest (Part 1) multi_file)
      (record empty_answer { size = 3; value = 84 }) 0
  pub no_part : AlwaysAnswers
      (IsExtracted (IsInRange 0x7fffffff 64) widest (Part 2) multi_file)
      (IsExtractCallFailure (LimitsCheck 0x7fffffff 64) widest (Part 2) multi_file)
      (record empty_answer { reason = 2 }) 5
  pub other_kind : AlwaysAnswers
      (IsExtracted (IsInRange 0x7fffffff 64) widest (image_selection (codes "a")) multi_file)
      (IsExtractCallFailure (LimitsCheck 0x7fffffff 64) widest (image_selection (codes "a"))
      multi_file)
      (record empty_answer { reason = 1 }) 5
  pub small_limit : AlwaysAnswers
      (IsExtracted (IsInRange 63 64) (record { file = 63; depth = 64 }) (Part 1) multi_file)
      (IsExtractCallFailure (LimitsCheck 63 64) (record { file = 63; depth = 64 }) (Part 1)
      multi_file)
      (record empty_answer { reason = 2 }) 4

-- ---- building

-- The name `k` and the parts `hello` and `abc`, in the input.
abbrev pub pieces_of_multi : List ℕ
pieces_of_multi = codes "khelloabc"

abbrev pub fields_of_multi : LegacyFields
fields_of_multi = record (kernel_fields 4) { name = region_at_offset 0 1 }

abbrev pub parts_of_multi : List Region
parts_of_multi = region_at_offset 1 5 ∷ region_at_offset 6 3 ∷ []

-- They are built to a file of 87 bytes. A limit of 86 bytes is too small, and a part that ends
-- after the input is a wrong argument.
pub record LegacyBuildingIsKnown : Type 0 where
  pub built : (before : List ℕ) → 87 ≤ length before
      → AlwaysFills (IsBuiltOfPieces 87 64 pieces_of_multi fields_of_multi parts_of_multi)
      (IsPieceBuildFailure 87 64 pieces_of_multi fields_of_multi parts_of_multi)
      before (multi_file ++ drop 87 before) (record empty_answer { size = 87 }) 0
  pub too_large : (before : List ℕ)
      → AlwaysFills (IsBuiltOfPieces 86 64 pieces_of_multi fields_of_multi parts_of_multi)
      (IsPieceBuildFailure 86 64 pieces_of_multi fields_of_multi parts_of_multi)
      before before (record empty_answer { cause = 21; offset = 86; file = 1 }) 1
  pub outside : (before : List ℕ)
      → AlwaysFills
      (IsBuiltOfPieces 87 64 pieces_of_multi fields_of_multi (region_at_offset 6 4 ∷ []))
      (IsPieceBuildFailure 87 64 pieces_of_multi fields_of_multi (region_at_offset 6 4 ∷ []))
      before before (record empty_answer { reason = 14 }) 4
