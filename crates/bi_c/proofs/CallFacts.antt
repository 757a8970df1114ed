use Rattle.std.proofs.Common.{◌≡◌, ◌∙◌, ℕ, Bool, true, false, List, [], ◌∷◌, ◌++◌, Some}
use Rattle.std.proofs.Common.{◌≤◌, codes, drop, length, inl, inr, ap, refl, sym, subst, lit<, lit≤, arith}
use Rattle.std.specs.Prelude.{slice_get}
use Rattle.bi_base.specs.Cells.{cell, u32_at}
use Rattle.bi_base.specs.declared.align.Align.{Align}
use Rattle.bi_base.specs.declared.fault.Cause.TheVariants.{Truncated}
use Rattle.bi_base.specs.declared.fault.Fault.{Fault}
use Rattle.bi_base.specs.Limits.{widest}
use Rattle.bi_base.specs.Strings.{text_before_nul}
use Rattle.bi_blob.specs.KnownTexts.{smallest_text}
use Rattle.bi_commands.specs.Extracting.{Chosen}
use Rattle.bi_commands.specs.KnownChoices.{first_lists, second_default, second_kernel, second_tree}
use Rattle.bi_commands.specs.declared.extract.Select.TheVariants.{Part}
use Rattle.bi_describe.specs.declared.compare.CompareError.TheVariants as compare
use Rattle.bi_fit.specs.Content.{FitModel, index_of, offset_of_place, place_or_absent, tree_of}
use Rattle.bi_fit.specs.Judgement.{ListedImage, ListedImages, NoConfig, default_of, listed_of}
use Rattle.bi_fit.specs.KnownJudgements.{configured_tree}
use Rattle.bi_fit.specs.Names.{default_name, key_name}
use Rattle.bi_fit.specs.Text.{alignment_of}
use Rattle.bi_fit.specs.declared.form.Form.{Form}
use Rattle.bi_fit.specs.declared.form.Form.TheVariants.{Embedded, External, Aligned}
use Rattle.bi_fit.specs.declared.key.Key.{Key}
use Rattle.bi_fit.specs.declared.key.Key.TheVariants.{Kernel, Fdt}
use Rattle.bi_fit.proofs.JudgementFacts.{find-properties, lists_are_read}
use Rattle.bi_legacy.specs.KnownFiles.{kernel_file_with_rest}
use Rattle.bi_legacy.specs.KnownImages.{kernel_file, multi_file, multi_image}
use Rattle.bi_legacy.specs.Laws.{OneLegacyMeaning}
use Rattle.bi_legacy.specs.Meaning.{LegacyImage}
use Rattle.bi_legacy.specs.Reading.{part_places}
use Rattle.bi_norm.specs.Comparing.{AreCompared}
use Rattle.bi_norm.specs.Kinds.{BeginsAs}
use Rattle.bi_norm.specs.declared.kind.Kind.{Kind}
use Rattle.bi_norm.specs.declared.kind.Kind.TheVariants.{Legacy, Fit}
use Rattle.bi_norm.proofs.ComparisonFacts.{compared_files_are_known, multi_means}
use Rattle.bi_c.specs.Answers.{Answers, FillsBuffer, Sets, Returned, Failed, Filled, HadNoRoom, FilledNothing, WasSet, WasNotSet}
use Rattle.bi_c.specs.Answers.{answer_of, answer_of_failure, status_of_failure}
use Rattle.bi_c.specs.Arguments.{number_of_form}
use Rattle.bi_c.specs.Calls.{IsFailureOfTwo, flag, kind_number}
use Rattle.bi_c.specs.Extracting.{IsDefaultOffset, IsListedOffset, IsNamedOffset, IsOffset}
use Rattle.bi_c.specs.KnownCalls.{CallNumbersAreKnown, ConcernElementsAreKnown, ConcernTextsAreKnown, OffsetsOfPayloadsAreKnown}
use Rattle.bi_c.specs.KnownCalls.{CallAnswersAreKnown, ArgumentBoundsAreKnown, IsOnly, IsOutputXy, NoFailure, PiecesAreKnown, empty_answer}
use Rattle.bi_c.specs.KnownCalls.{images_at_places}
use Rattle.bi_c.specs.declared.answer.Answer.{Answer}
use Rattle.bi_c.specs.declared.failure.Failure.TheVariants.{Refused, NotFound, OutOfMemory}
use Rattle.bi_c.proofs.FormNumbers.{embedded_by_number, external_by_number, largest_form_number, no_form_below_four}

-- What calls from C return for small files and concerns is known.

pub concern_elements_are_known : ConcernElementsAreKnown
concern_elements_are_known = record {
  bad_hash = λ image hash. (refl, refl, refl, refl);
  skipped_hash = λ image hash. refl;
  unhashed = λ node. refl;
  weak = λ node hashes. refl;
  bad_list = λ node. refl;
  missing = λ node. refl;
  bad_default = λ property. refl;
  trailing = refl;
  unsigned = refl;
  uncovered = refl;
}

pub concern_texts_are_known : ConcernTextsAreKnown
concern_texts_are_known = record {
  image = refl;
  node = refl;
  algorithm = refl;
  of_image = refl;
  configuration = refl;
  listed = refl;
  default = refl;
  no_default = refl;
  rest = refl;
  skipped = refl;
  skipped_node = refl;
  signed_node = refl;
  no_node = refl;
  no_algorithm = refl;
  element = λ file element is. (is.index, is.kind, is.key, is.size);
}

-- ---- extracting

same_number : (one other : ℕ) → Some one ≡ Some other → one ≡ other
same_number one other same = cc

-- The offset of a named image is that of its place.
offset_by : (content : FitModel) (name : List ℕ) (index at offset : ℕ) → content.images ≡ images_at_places →
    index_of name images_at_places ≡ Some index → offset_of_place (place_or_absent (slice_get images_at_places index)) ≡ Some at →
    IsNamedOffset content name offset → offset ≡ at
offset_by content name index at offset are named placed is =
    let found : Some is.index ≡ Some index = sym (subst (λ images. index_of name images ≡ Some is.index) are is.is_named) ∙ named in
    let same : is.index ≡ index = same_number is.index index found in
    let there = subst (λ images. offset_of_place (place_or_absent (slice_get images is.index)) ≡ Some offset) are is.is_offset in
    same_number offset at
    (sym (subst (λ n. offset_of_place (place_or_absent (slice_get images_at_places n)) ≡ Some offset) same there) ∙ placed)

-- The entry of a list that gives the offset.
entry_by : (content : FitModel) (configuration : List ℕ) (key : Key) (index : ℕ) (listed : List ListedImage) (entry : ListedImage)
    (offset : ℕ) → tree_of content ≡ second_tree → listed_of second_tree configuration key ≡ ListedImages listed →
    slice_get listed index ≡ Some entry → IsListedOffset content configuration key index offset → IsNamedOffset content entry.name offset
entry_by content configuration key index listed entry offset tree lists at is =
    let whole : ListedImages is.listed ≡ ListedImages listed =
    sym (subst (λ t. listed_of t configuration key ≡ ListedImages is.listed) tree is.is_listed) ∙ lists in
    let same : is.listed ≡ listed = cc in
    let one : Some is.entry ≡ Some entry = sym (subst (λ l. slice_get l index ≡ Some is.entry) same is.is_entry) ∙ at in
    let this : is.entry ≡ entry = cc in
    subst (λ (e : ListedImage). IsNamedOffset content e.name offset) this is.is_offset

-- A listed image, whose payload is its name.
abbrev named_image : List ℕ → ListedImage
named_image name = record { name = name; payload = Some name }

second_lists : listed_of second_tree (codes "conf-1") Fdt ≡ ListedImages (named_image (codes "b") ∷ named_image (codes "a") ∷ [])
unfolding text_before_nul
second_lists = rw (find-properties first_lists (key_name Fdt)) refl

default_lists : listed_of second_tree (codes "conf-2") Kernel ≡ ListedImages (named_image (codes "b") ∷ [])
unfolding text_before_nul
default_lists = rw (find-properties second_kernel (key_name Kernel)) refl

default_is : default_of second_tree ≡ Some (codes "conf-2")
unfolding text_before_nul
default_is = rw (find-properties second_default default_name) refl

listed_offset : (content : FitModel) (offset : ℕ) → content.images ≡ images_at_places → tree_of content ≡ second_tree →
    IsListedOffset content (codes "conf-1") Fdt 1 offset → offset ≡ 60
listed_offset content offset are tree is =
    offset_by content (codes "a") 0 60 offset are refl refl
    (entry_by content (codes "conf-1") Fdt 1 _ (named_image (codes "a")) offset tree second_lists refl is)

default_offset : (content : FitModel) (offset : ℕ) → content.images ≡ images_at_places → tree_of content ≡ second_tree →
    IsDefaultOffset content Kernel 0 offset → offset ≡ 72
default_offset content offset are tree is =
    let whole : Some is.configuration ≡ Some (codes "conf-2") =
    sym (subst (λ t. default_of t ≡ Some is.configuration) tree is.is_default) ∙ default_is in
    let same : is.configuration ≡ codes "conf-2" = cc in
    offset_by content (codes "b") 1 72 offset are refl refl
    (entry_by content (codes "conf-2") Kernel 0 _ (named_image (codes "b")) offset tree default_lists refl
    (subst (λ name. IsListedOffset content name Kernel 0 offset) same is.is_offset))

no_default : (content : FitModel) (offset : ℕ) → tree_of content ≡ configured_tree → ¬ (IsDefaultOffset content Kernel 0 offset)
no_default content offset tree is =
    let whole : Some is.configuration ≡ Some (codes "conf-3") =
    sym (subst (λ t. default_of t ≡ Some is.configuration) tree is.is_default) ∙ lists_are_read.default in
    let same : is.configuration ≡ codes "conf-3" = cc in
    let nothing : listed_of configured_tree is.configuration Kernel ≡ NoConfig =
    subst (λ name. listed_of configured_tree name Kernel ≡ NoConfig) (sym same) lists_are_read.no_configuration in
    let wrong : NoConfig ≡ ListedImages is.is_offset.listed =
    sym nothing ∙ subst (λ t. listed_of t is.configuration Kernel ≡ ListedImages is.is_offset.listed) tree is.is_offset.is_listed in
    cc

not_named : (content : FitModel) (offset : ℕ) → content.images ≡ images_at_places → ¬ (IsNamedOffset content (codes "c") offset)
not_named content offset are is =
    let none = subst (λ images. index_of (codes "c") images ≡ Some is.index) are is.is_named in cc

same_bytes : (one other : List ℕ) → Chosen one ≡ Chosen other → one ≡ other
same_bytes one other same = cc

part_offset : (offset : ℕ) → IsOffset widest (Part 1) multi_file offset → offset ≡ 84
unfolding cell
part_offset offset is =
    sym (same_number 84 offset
    (subst (λ (image : LegacyImage). slice_get (part_places image) 1 ≡ Some offset) (sym (is.1.only multi_image multi_means)) is.2))

pub offsets_of_payloads_are_known : OffsetsOfPayloadsAreKnown
offsets_of_payloads_are_known = record {
  named = λ content offset are. offset_by content (codes "b") 1 72 offset are refl refl;
  no_image = not_named;
  no_part = λ content offset is. is;
  listed = listed_offset;
  default = default_offset;
  no_default = no_default;
  chosen = λ size offset is. is.is_size ∙ ap length (sym (same_bytes (codes "abc") is.bytes is.is_chosen));
  part = part_offset;
}

-- ---- calls

legacy_kind : (kind : Kind) → BeginsAs kernel_file kind → kind_number kind ≡ 1
unfolding u32_at
legacy_kind Legacy begins = refl
legacy_kind Fit begins = absurd (omega (arith, begins.magic))

fit_kind : (kind : Kind) → BeginsAs smallest_text kind → kind_number kind ≡ 2
unfolding u32_at
fit_kind Legacy begins = absurd (omega (arith, begins.magic))
fit_kind Fit begins = refl

-- The file that an error of comparing is about.
file_of_one : (file : ℕ) (fault : Fault) → IsFailureOfTwo 64 1 (λ error. error ≡ compare.One fault) (Refused file fault) → file ≡ 1
file_of_one file fault is = elim is.1 [
  | inl first ↦ first.0
  | inr second ↦ absurd (let wrong : compare.Other fault ≡ compare.One fault = second.1 in cc)
]

file_of_other : (file : ℕ) (fault : Fault) → IsFailureOfTwo 64 1 (λ error. error ≡ compare.Other fault) (Refused file fault) → file ≡ 2
file_of_other file fault is = elim is.1 [
  | inl first ↦ absurd (let wrong : compare.One fault ≡ compare.Other fault = first.1 in cc)
  | inr second ↦ second.0
]

module _ (one_legacy : OneLegacyMeaning) where
  is_same : (same : Bool) → AreCompared widest kernel_file_with_rest kernel_file same → same ≡ true
  is_same true compared = refl
  is_same false compared = absurd ((compared_files_are_known one_legacy).same.no_other compared)

  is_different : (same : Bool) → AreCompared widest kernel_file multi_file same → same ≡ false
  is_different true compared = absurd ((compared_files_are_known one_legacy).other_image.no_other compared)
  is_different false compared = refl

  pub call_numbers_are_known : CallNumbersAreKnown
  call_numbers_are_known = record {
    legacy = λ size value is. (is.nothing, is.number ∙ legacy_kind is.kind is.begins);
    fit = λ size value is. (is.nothing, is.number ∙ fit_kind is.kind is.begins);
    same = λ size value is. is.number ∙ ap flag (is_same is.same is.compared);
    different = λ size value is. is.number ∙ ap flag (is_different is.same is.compared);
    yes = λ text value is. is.number ∙ ap flag is.is;
    no = λ text value is. is.number ∙ ap flag is.is;
    text = λ text value is. (is.is, is.no_value);
    cause = record { cause = Truncated; is_cause = refl; is_name = refl; no_value = refl };
    no_cause = λ none. none.0 Truncated refl;
    one = file_of_one;
    other = file_of_other;
  }

-- ---- answers

no_buffer : (answer : Answer) (status : ℕ) → Answers (λ size value. (size ≡ 2) × (value ≡ 7)) NoFailure answer status →
    (answer ≡ record empty_answer { size = 2; value = 7 }) × (status ≡ 0)
no_buffer answer status (Returned size value is same ends) = (same ∙ (λ i. answer_of (is.0 i) (is.1 i)), ends)
no_buffer answer status (Failed failure has same ends) = absurd has

not_found : (answer : Answer) (status : ℕ) → Answers (λ size value. ⊥) (IsOnly (NotFound 7 3)) answer status →
    (answer ≡ record empty_answer { value = 3; reason = 7 }) × (status ≡ 5)
not_found answer status (Returned size value is same ends) = absurd is
not_found answer status (Failed failure has same ends) = (same ∙ ap answer_of_failure has, ends ∙ ap status_of_failure has)

filled : (after : List ℕ) (answer : Answer) (status : ℕ) → FillsBuffer IsOutputXy NoFailure (codes "abc") after answer status →
    (after ≡ codes "xyc") × (answer ≡ record empty_answer { size = 2; value = 7 }) × (status ≡ 0)
filled after answer status (Filled output value is fits writes same ends) = (
  writes ∙ ap (λ output. output ++ drop (length output) (codes "abc")) is.0,
  same ∙ (λ i. answer_of (length (is.0 i)) (is.1 i)),
  ends,
)
filled after answer status (HadNoRoom output value is short stays same ends) = absurd (omega (arith, short, ap length is.0))
filled after answer status (FilledNothing failure has stays same ends) = absurd has

no_room : (after : List ℕ) (answer : Answer) (status : ℕ) → FillsBuffer IsOutputXy NoFailure (codes "a") after answer status →
    (after ≡ codes "a") × (answer ≡ record empty_answer { size = 2; value = 7 }) × (status ≡ 3)
no_room after answer status (Filled output value is fits writes same ends) = absurd (omega (arith, fits, ap length is.0))
no_room after answer status (HadNoRoom output value is short stays same ends) =
    (stays, same ∙ (λ i. answer_of (length (is.0 i)) (is.1 i)), ends)
no_room after answer status (FilledNothing failure has stays same ends) = absurd has

was_set : (after : List ℕ) (answer : Answer) (status : ℕ) → Sets (λ after. after ≡ codes "x") NoFailure [] after answer status →
    (after ≡ codes "x") × (answer ≡ empty_answer) × (status ≡ 0)
was_set after answer status (WasSet is same ends) = (is, same, ends)
was_set after answer status (WasNotSet failure has stays same ends) = absurd has

was_not_set : (after : List ℕ) (answer : Answer) (status : ℕ) →
    Sets (λ after. ⊥) (IsOnly OutOfMemory) (codes "a") after answer status →
    (after ≡ codes "a") × (answer ≡ empty_answer) × (status ≡ 2)
was_not_set after answer status (WasSet is same ends) = absurd is
was_not_set after answer status (WasNotSet failure has stays same ends) =
    (stays, same ∙ ap answer_of_failure has, ends ∙ ap status_of_failure has)

pub call_answers_are_known : CallAnswersAreKnown
call_answers_are_known = record {
  no_buffer = no_buffer;
  not_found = not_found;
  filled = filled;
  no_room = no_room;
  set = was_set;
  not_set = was_not_set;
  file = λ file fault is. is.1;
  wrong = λ found index is. is.0 tt;
}

-- The alignment of 4096 bytes.
abbrev page_align : Align
page_align = record { bytes = 4096; is_alignment = record { exponent = 12; least = lit≤ tt; most = lit≤ tt; is_power = refl } }

-- A form with the number 4096 has this alignment.
page_alignment : (form : Form) → number_of_form form ≡ 4096 → alignment_of form ≡ Some 4096
page_alignment Embedded same = absurd (omega (arith, same))
page_alignment External same = absurd (omega (arith, same))
page_alignment (Aligned align) same = ap Some same

pub argument_bounds_are_known : ArgumentBoundsAreKnown
argument_bounds_are_known = record {
  form = λ number has. subst (λ n. n ≤ 0x100000) has.is_form (largest_form_number has.form);
  embedded = λ has. embedded_by_number has.form has.is_form;
  external = λ has. external_by_number has.form has.is_form;
  page = λ has. page_alignment has.form has.is_form;
  has_page = record { limits = (lit≤ tt, lit≤ tt, lit≤ tt, lit≤ tt); form = Aligned page_align; is_form = refl };
  no_form = λ has. no_form_below_four 3 (lit< tt) (lit< tt) has.form has.is_form;
  layout = λ layout has. omega (arith, has.is_layout);
  changes = λ form changes has. omega (arith, has.are_changes);
  kinds = λ kinds has. omega (arith, has.are_kinds);
  checker = refl;
  signed = refl;
  no_limit = λ has. omega (arith, has.limits.0);
}

-- ---- pieces

pub pieces_are_known : PiecesAreKnown
pieces_are_known = record {
  bytes = refl;
  name = refl;
  parts = refl;
  time = refl;
  load = refl;
  entry = refl;
  os = refl;
  arch = refl;
  image_type = refl;
  compression = refl;
  outside = λ is. omega (arith, is.parts_inside.0);
  one_file = λ file fault is. is.1;
}
