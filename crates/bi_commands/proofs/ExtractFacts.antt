use Rattle.std.proofs.Common.{◌≡◌, ◌∙◌, ◌<◌, ◌⊎◌, ℕ, List, codes, length, inl, inr, refl, sym, ap, subst, arith, rules}
use Rattle.std.specs.Fmt.{digits}
use Rattle.bi_base.specs.Cells.{cell}
use Rattle.bi_base.specs.Limits.{widest}
use Rattle.bi_base.specs.Strings.{text_before_nul}
use Rattle.bi_base.specs.declared.fault.Error.{Error}
use Rattle.bi_base.specs.declared.fault.Error.TheVariants.{Refused, OutOfMemory, ReadFailed, WriteFailed}
use Rattle.bi_fit.specs.Names.{default_name, key_name}
use Rattle.bi_fit.specs.declared.configurations.ConfigError.TheVariants as list
use Rattle.bi_fit.specs.declared.form.Form.{Form}
use Rattle.bi_fit.specs.declared.key.Key.TheVariants.{Kernel, Fdt}
use Rattle.bi_fit.proofs.JudgementFacts.{find-properties}
use Rattle.bi_legacy.specs.File.{header}
use Rattle.bi_legacy.specs.KnownImages.{multi_file, multi_image}
use Rattle.bi_legacy.specs.Laws.{OneLegacyMeaning}
use Rattle.bi_legacy.specs.Text.{legacy_text}
use Rattle.bi_norm.specs.Meaning.{Meaning, Means, OfFit, OfLegacy, meaning_signature_count, normal_text}
use Rattle.bi_norm.proofs.ComparisonFacts.{multi_means}
use Rattle.bi_norm.proofs.KindLaws.{one_file_meaning}
use Rattle.bi_common.specs.PayloadBounds.{IsOverPayloadBound}
use Rattle.bi_show.specs.KnownTrees.{shown_configuration, shown_default, shown_file}
use Rattle.bi_show.proofs.ShownTrees.{shown_meaning, shown_means}
use Rattle.bi_commands.specs.Extracting.{Choice, Chosen, IsExtractError, IsReason, MeansSuch, NoSuchEntry, NoSuchKey, choice_of}
use Rattle.bi_commands.specs.ExtractingAll.{AreAllPayloads, IsExtractAllError, PayloadFile, payload_files}
use Rattle.bi_commands.specs.KnownChoices.{entry_selection, image_selection}
use Rattle.bi_commands.specs.KnownExtracts.{AllExtractsAreKnown, ErrorReasonsAreKnown, ExtractsAreKnown, IsOnlyExtract}
use Rattle.bi_commands.specs.KnownExtracts.{UpdatedTextsAreKnown, error_of_choice}
use Rattle.bi_commands.specs.KnownUpdates.{only_time}
use Rattle.bi_commands.specs.UpdatedFiles.{HashesTooMuch, IsTooLongToUpdate, IsUpdateError, updated_meaning}
use Rattle.bi_commands.specs.declared.extract.ExtractError.{ExtractError}
use Rattle.bi_commands.specs.declared.extract.ExtractError.TheVariants as error
use Rattle.bi_commands.specs.declared.extract.Select.{Select}
use Rattle.bi_commands.specs.declared.extract.Select.TheVariants.{Part, Default}

-- What is extracted of small files, and their texts after an update, are known.

-- ---- reasons

reason_is : (given : ExtractError) (choice : Choice) → IsReason given choice → given ≡ error_of_choice choice
reason_is (error.Failed failed) choice is = absurd is
reason_is error.WrongKind choice is = sym (ap error_of_choice is)
reason_is error.NoPart choice is = sym (ap error_of_choice is)
reason_is error.NoImage choice is = sym (ap error_of_choice is)
reason_is (error.Config list.NoConfig) choice is = sym (ap error_of_choice is)
reason_is (error.Config list.NoKey) choice is = sym (ap error_of_choice is)
reason_is (error.Config list.BadList) choice is = sym (ap error_of_choice is)
reason_is (error.Config (list.Missing index)) choice is = sym (ap error_of_choice is)
reason_is (error.Config list.OutOfMemory) choice is = absurd is
reason_is error.NoIndex choice is = sym (ap error_of_choice is)
reason_is error.NoPayload choice is = sym (ap error_of_choice is)

no_reason_of_bytes : (given : ExtractError) (bytes : List ℕ) → ¬ (IsReason given (Chosen bytes))
no_reason_of_bytes (error.Failed failed) bytes is = is
no_reason_of_bytes error.WrongKind bytes is = absurd cc
no_reason_of_bytes error.NoPart bytes is = absurd cc
no_reason_of_bytes error.NoImage bytes is = absurd cc
no_reason_of_bytes (error.Config list.NoConfig) bytes is = absurd cc
no_reason_of_bytes (error.Config list.NoKey) bytes is = absurd cc
no_reason_of_bytes (error.Config list.BadList) bytes is = absurd cc
no_reason_of_bytes (error.Config (list.Missing index)) bytes is = absurd cc
no_reason_of_bytes (error.Config list.OutOfMemory) bytes is = is
no_reason_of_bytes error.NoIndex bytes is = absurd cc
no_reason_of_bytes error.NoPayload bytes is = absurd cc

pub error_reasons_are_known : ErrorReasonsAreKnown
error_reasons_are_known = record {
  only = reason_is;
  other_kind = refl;
  no_part = refl;
  no_image = refl;
  no_configuration = refl;
  no_key = refl;
  bad_list = refl;
  missing = refl;
  no_entry = refl;
  no_payload = refl;
  chosen = no_reason_of_bytes;
}

-- ---- a file with one meaning

module _ (one_legacy : OneLegacyMeaning) (file : List ℕ) (meaning : Meaning) (means : Means widest file meaning) where
  -- What a file means is this.
  pub same_meaning : (other : Meaning) → Means widest file other → other ≡ meaning
  same_meaning other other_means = one_file_meaning one_legacy widest widest file other meaning other_means means

  chosen : (select : Select) (bytes : List ℕ) → choice_of select meaning ≡ Chosen bytes → IsOnlyExtract select file bytes
  chosen select bytes holds = search (rules, same_meaning)

  reason_of_file : (select : Select) (choice : Choice) → choice_of select meaning ≡ choice → (given : ExtractError) →
      MeansSuch widest file (λ m. IsReason given (choice_of select m)) → given ≡ error_of_choice choice
  reason_of_file select choice holds given such =
      reason_is given choice
      (subst (IsReason given) (ap (choice_of select) (same_meaning such.meaning such.means) ∙ holds) such.holds)

  only_error : (select : Select) (choice : Choice) → choice_of select meaning ≡ choice → (given : ExtractError) →
      IsExtractError select widest file given → (given ≡ error_of_choice choice) ⊎ (given ≡ error.Failed OutOfMemory)
  only_error select choice holds (error.Failed (Refused fault)) is = absurd (is.1 meaning means)
  only_error select choice holds (error.Failed OutOfMemory) is = inr refl
  only_error select choice holds (error.Failed ReadFailed) is = absurd is
  only_error select choice holds (error.Failed WriteFailed) is = absurd is
  only_error select choice holds error.WrongKind is = inl (reason_of_file select choice holds error.WrongKind is)
  only_error select choice holds error.NoPart is = inl (reason_of_file select choice holds error.NoPart is)
  only_error select choice holds error.NoImage is = inl (reason_of_file select choice holds error.NoImage is)
  only_error select choice holds (error.Config why) is = inl (reason_of_file select choice holds (error.Config why) is)
  only_error select choice holds error.NoIndex is = inl (reason_of_file select choice holds error.NoIndex is)
  only_error select choice holds error.NoPayload is = inl (reason_of_file select choice holds error.NoPayload is)

  -- The files of its payloads.
  all_payloads : (files : List PayloadFile) → AreAllPayloads widest file files → files ≡ payload_files meaning
  all_payloads files is = is.are ∙ ap payload_files (same_meaning is.meaning is.means.means)

  all_error : ¬ (IsOverPayloadBound widest meaning) → (given : Error) → IsExtractAllError widest file given → given ≡ OutOfMemory
  all_error within (Refused fault) (inl is) = absurd (is.1 meaning means)
  all_error within (Refused fault) (inr is) =
      absurd (within (subst (IsOverPayloadBound widest) (same_meaning is.0.meaning is.0.means) is.0.holds))
  all_error within OutOfMemory is = refl
  all_error within ReadFailed is = absurd is
  all_error within WriteFailed is = absurd is

-- ---- extracting

pub extracts_are_known : OneLegacyMeaning → ExtractsAreKnown
unfolding shown_means text_before_nul
extracts_are_known one_legacy = record {
  first_part = chosen one_legacy multi_file (OfLegacy multi_image) multi_means (Part 0) (codes "hello") refl;
  second_part = chosen one_legacy multi_file (OfLegacy multi_image) multi_means (Part 1) (codes "abc") refl;
  image = chosen one_legacy shown_file (OfFit shown_meaning) shown_means (image_selection (codes "a")) (codes "abc") refl;
  entry = chosen one_legacy shown_file (OfFit shown_meaning) shown_means (entry_selection (codes "c") Kernel 0) (codes "abc")
      (rw (find-properties shown_configuration (key_name Kernel)) refl);
  default = chosen one_legacy shown_file (OfFit shown_meaning) shown_means (Default Kernel 0) (codes "abc")
      (rw (find-properties shown_default default_name, find-properties shown_configuration (key_name Kernel)) refl);
  no_part = record {
    is = record { meaning = OfLegacy multi_image; means = multi_means; holds = refl };
    only = only_error one_legacy multi_file (OfLegacy multi_image) multi_means (Part 2) _ refl;
  };
  image_of_legacy = record {
    is = record { meaning = OfLegacy multi_image; means = multi_means; holds = refl };
    only = only_error one_legacy multi_file (OfLegacy multi_image) multi_means (image_selection (codes "a")) _ refl;
  };
  part_of_tree = record {
    is = record { meaning = OfFit shown_meaning; means = shown_means; holds = refl };
    only = only_error one_legacy shown_file (OfFit shown_meaning) shown_means (Part 0) _ refl;
  };
  no_image = record {
    is = record { meaning = OfFit shown_meaning; means = shown_means; holds = refl };
    only = only_error one_legacy shown_file (OfFit shown_meaning) shown_means (image_selection (codes "b")) _ refl;
  };
  no_configuration = record {
    is = record { meaning = OfFit shown_meaning; means = shown_means; holds = refl };
    only = only_error one_legacy shown_file (OfFit shown_meaning) shown_means (entry_selection (codes "a") Kernel 0) _ refl;
  };
  no_key = record {
    is = record {
      meaning = OfFit shown_meaning;
      means = shown_means;
      holds = rw (find-properties shown_configuration (key_name Fdt)) refl;
    };
    only = only_error one_legacy shown_file (OfFit shown_meaning) shown_means (entry_selection (codes "c") Fdt 0) NoSuchKey
        (rw (find-properties shown_configuration (key_name Fdt)) refl);
  };
  no_entry = record {
    is = record {
      meaning = OfFit shown_meaning;
      means = shown_means;
      holds = rw (find-properties shown_configuration (key_name Kernel)) refl;
    };
    only = only_error one_legacy shown_file (OfFit shown_meaning) shown_means (entry_selection (codes "c") Kernel 1) NoSuchEntry
        (rw (find-properties shown_configuration (key_name Kernel)) refl);
  };
}

pub all_extracts_are_known : OneLegacyMeaning → AllExtractsAreKnown
unfolding digits
all_extracts_are_known one_legacy = record {
  parts = λ files is. all_payloads one_legacy multi_file (OfLegacy multi_image) multi_means files is ∙ refl;
  images = λ files is. all_payloads one_legacy shown_file (OfFit shown_meaning) shown_means files is ∙ refl;
  parts_error = all_error one_legacy multi_file (OfLegacy multi_image) multi_means (λ over. over);
  images_error = all_error one_legacy shown_file (OfFit shown_meaning) shown_means (λ over. omega (arith, over));
}

-- ---- updating

updated_length : length (legacy_text (record multi_image { time = 5 })) ≡ 87
unfolding header cell legacy_text
updated_length = refl

not_too_long : OneLegacyMeaning → (form : Form) → ¬ (IsTooLongToUpdate (only_time 5) widest form multi_file)
not_too_long one_legacy form is =
    by (subst (λ m. HashesTooMuch (only_time 5) widest m ⊎ (0x7fffffff < length (normal_text form (updated_meaning (only_time 5) m))))
    (same_meaning one_legacy multi_file (OfLegacy multi_image) multi_means is.meaning is.means) is.is_too_long) where
      by : HashesTooMuch (only_time 5) widest (OfLegacy multi_image)
          ⊎ (0x7fffffff < length (legacy_text (record multi_image { time = 5 }))) → ⊥
      by (inl too_much) = let bad = too_much.hashes in absurd cc
      by (inr longer) = omega (arith, longer, updated_length)

update_error : OneLegacyMeaning → (form : Form) (given : Error) → IsUpdateError (only_time 5) widest form multi_file given →
    given ≡ OutOfMemory
update_error one_legacy form (Refused fault) (inl is) = absurd (is.1 (OfLegacy multi_image) multi_means)
update_error one_legacy form (Refused fault) (inr is) = absurd (not_too_long one_legacy form is.0)
update_error one_legacy form OutOfMemory is = refl
update_error one_legacy form ReadFailed is = absurd is
update_error one_legacy form WriteFailed is = absurd is

pub updated_texts_are_known : OneLegacyMeaning → UpdatedTextsAreKnown
updated_texts_are_known one_legacy = record {
  text = λ form text is.
      is.is_text
      ∙ ap (λ m. normal_text form (updated_meaning (only_time 5) m))
      (same_meaning one_legacy multi_file (OfLegacy multi_image) multi_means is.meaning is.means.means);
  count = λ form count text is.
      is.signatures
      ∙ ap (λ m. meaning_signature_count (updated_meaning (only_time 5) m))
      (same_meaning one_legacy multi_file (OfLegacy multi_image) multi_means is.is.meaning is.is.means.means);
  count_of_tree = λ form count text is.
      is.signatures
      ∙ ap (λ m. meaning_signature_count (updated_meaning (only_time 5) m))
      (same_meaning one_legacy shown_file (OfFit shown_meaning) shown_means is.is.meaning is.is.means.means)
      ∙ refl;
  error = update_error one_legacy;
}
