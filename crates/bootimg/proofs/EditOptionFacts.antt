use Rattle.std.proofs.Common.{◌≡◌, ◌∙◌, ◌++◌, ℕ, Bool, false, true, List, [], ◌∷◌, None, Some, ap, arith, codes, drop, length, refl, subst}
use Rattle.std.proofs.Common.{subst₂, sym}
use Rattle.std.proofs.Common.{take, true≢false}
use Rattle.std.specs.Prelude.{slice_index}
use Rattle.bi_base.proofs.ByteLists.{AreBytes-none, bytes_by_test}
use Rattle.bi_base.proofs.EqualBytes.{other_bytes}
use Rattle.bi_common.specs.Unshown.{IsNameShownAs}
use Rattle.bi_common.proofs.UnshownNames.{only_name}
use Rattle.bi_edit.specs.declared.edit.Edit.{Edit}
use Rattle.bi_edit.specs.declared.edit.Edit.TheVariants.{RemoveNode, RemoveProperty, SetProperty}
use Rattle.bi_edit.specs.declared.edit.Edit.TheVariants.{SetField, SetPayload, SetTime, SetDigests}
use Rattle.bi_edit.specs.declared.edit.FieldValue.{FieldValue}
use Rattle.bi_edit.specs.declared.edit.FieldValue.TheVariants as field
use Rattle.bi_edit.specs.declared.form_choice.FormChoice.{FormChoice}
use Rattle.bi_edit.specs.declared.form_choice.FormChoice.TheVariants as choice
use Rattle.bi_fit.specs.declared.form.Form.{Form}
use Rattle.bi_fit.specs.declared.form.Form.TheVariants.{Embedded, External}
use Rattle.clap.specs.declared.parser.matches.ArgMatches.{ArgMatches}
use Rattle.clap.proofs.OnLiterals.{clap_on_literals}
use Rattle.bootimg.specs.CodeWords.{IsCode}
use Rattle.bootimg.specs.CommandLine.{AsksForHashes, AsksForPayloads, AsksForTime, AsksToKeepForm, AsksToRemove, AsksToSet}
use Rattle.bootimg.specs.CommandLine.{IsForm, IsFormChoiceWith, IsFormWith, align_option, external_flag}
use Rattle.bootimg.specs.EditOptions.{AreSetWords, IsFieldWord, IsSetWord, set_place}
use Rattle.bootimg.specs.EditedImages.{OfLegacyImage, OfTree}
use Rattle.bootimg.specs.KnownEditOptions.{EditFailuresAreKnown, EditOptionsAreKnown, FieldWordsAreKnown}
use Rattle.bootimg.specs.Program.{program_app}
use Rattle.bootimg.specs.declared.codes.CodeField.TheVariants.{Os}
use Rattle.bootimg.proofs.ArgumentFacts.{code_with_name, codes_are_known, decimal_digits, hexadecimal_digits_after}
use Rattle.bootimg.proofs.FirstFailureFacts.{flag_is_on, no_edits}
use Rattle.bootimg.proofs.OptionFacts.{found_values}
use Rattle.bootimg.proofs.RequestFacts.{flag_is, not_given_and_missing, option_is}
use Rattle.bootimg.proofs.SetWords.{setting_slash}

-- Small words and options of `update` are known.

-- ---- words

-- Words for another field, and for none.
no_type_word : (value : FieldValue) → ¬ (IsFieldWord (codes "type kernel") value)
no_type_word (field.Name name) is = other_bytes (codes "type") (codes "name") refl (ap (take 4) is.is)
no_type_word (field.Time time) is = other_bytes (codes "type") (codes "time") refl (ap (take 4) is.is)
no_type_word (field.Load load) is = other_bytes (codes "type") (codes "load") refl (ap (take 4) is.is)
no_type_word (field.Entry entry) is = other_bytes (codes "type ") (codes "entry") refl (ap (take 5) is.is)
no_type_word (field.Os code) is = other_bytes (codes "ty") (codes "os") refl (ap (take 2) is.is)
no_type_word (field.Arch code) is = other_bytes (codes "type") (codes "arch") refl (ap (take 4) is.is)
no_type_word (field.Compression code) is = other_bytes (codes "type kernel") (codes "compression") refl (ap (take 11) is.is)

no_value_word : (value : FieldValue) → ¬ (IsFieldWord (codes "load") value)
no_value_word (field.Name name) is = other_bytes (codes "load") (codes "name") refl (ap (take 4) is.is)
no_value_word (field.Time time) is = other_bytes (codes "load") (codes "time") refl (ap (take 4) is.is)
no_value_word (field.Load load) is = omega (arith, ap length is.is)
no_value_word (field.Entry entry) is = other_bytes (codes "load") (codes "entr") refl (ap (take 4) is.is)
no_value_word (field.Os code) is = other_bytes (codes "lo") (codes "os") refl (ap (take 2) is.is)
no_value_word (field.Arch code) is = other_bytes (codes "load") (codes "arch") refl (ap (take 4) is.is)
no_value_word (field.Compression code) is = other_bytes (codes "load") (codes "comp") refl (ap (take 4) is.is)

no_other_code : (value : FieldValue) → ¬ (IsFieldWord (codes "os arm") value)
no_other_code (field.Name name) is = other_bytes (codes "os a") (codes "name") refl (ap (take 4) is.is)
no_other_code (field.Time time) is = other_bytes (codes "os a") (codes "time") refl (ap (take 4) is.is)
no_other_code (field.Load load) is = other_bytes (codes "os a") (codes "load") refl (ap (take 4) is.is)
no_other_code (field.Entry entry) is = other_bytes (codes "os ar") (codes "entry") refl (ap (take 5) is.is)
no_other_code (field.Os code) is =
    codes_are_known.name_of_other_field code (subst (λ text. IsCode Os text code) (sym (ap (drop 3) is.is)) is.is_text)
no_other_code (field.Arch code) is = other_bytes (codes "os a") (codes "arch") refl (ap (take 4) is.is)
no_other_code (field.Compression code) is = other_bytes (codes "os arm") (codes "compre") refl (ap (take 6) is.is)

-- Two words of one place.
load_place : (word rest : List ℕ) → word ≡ codes "load " ++ rest → (edit : Edit) → IsSetWord word edit → set_place edit ≡ codes "load"
load_place word rest same (SetProperty place value) is =
    absurd (omega (arith, ap (λ w. slice_index w 0) same, setting_slash word place value.items is))
load_place word rest same (SetField (field.Name name)) is =
    absurd (other_bytes (codes "load") (codes "name") refl (sym (ap (take 4) same) ∙ ap (take 4) is.is))
load_place word rest same (SetField (field.Time time)) is =
    absurd (other_bytes (codes "load") (codes "time") refl (sym (ap (take 4) same) ∙ ap (take 4) is.is))
load_place word rest same (SetField (field.Load load)) is = refl
load_place word rest same (SetField (field.Entry entry)) is =
    absurd (other_bytes (codes "load ") (codes "entry") refl (sym (ap (take 5) same) ∙ ap (take 5) is.is))
load_place word rest same (SetField (field.Os code)) is =
    absurd (other_bytes (codes "lo") (codes "os") refl (sym (ap (take 2) same) ∙ ap (take 2) is.is))
load_place word rest same (SetField (field.Arch code)) is =
    absurd (other_bytes (codes "load") (codes "arch") refl (sym (ap (take 4) same) ∙ ap (take 4) is.is))
load_place word rest same (SetField (field.Compression code)) is =
    absurd (other_bytes (codes "load ") (codes "compr") refl (sym (ap (take 5) same) ∙ ap (take 5) is.is))
load_place word rest same (RemoveNode names) is = absurd is
load_place word rest same (RemoveProperty place) is = absurd is
load_place word rest same (SetPayload image payload) is = absurd is
load_place word rest same (SetTime time) is = absurd is
load_place word rest same SetDigests is = absurd is

two_loads : (edits : List Edit) → ¬ (AreSetWords (codes "load 1" ∷ codes "load 2" ∷ []) edits)
two_loads [] are = are.each
two_loads (one ∷ []) are = are.each.1
two_loads (one ∷ other ∷ []) are =
    are.distinct.0.0 (load_place (codes "load 2") (codes "2") refl other are.each.1.0
    ∙ sym (load_place (codes "load 1") (codes "1") refl one are.each.0))
two_loads (one ∷ other ∷ (more ∷ edits)) are = are.each.1.1

pub field_words_are_known : FieldWordsAreKnown
field_words_are_known = record {
  name = λ name items. record {
    text = codes "a%20b";
    is = refl;
    is_text = subst (IsNameShownAs (codes "a%20b")) (sym items) (only_name (codes "a%20b") (codes "a b") (bytes_by_test _ refl) refl);
  };
  no_name = λ name items. record {
    text = codes "-";
    is = refl;
    is_text = subst (IsNameShownAs (codes "-")) (sym items) (only_name (codes "-") [] AreBytes-none refl);
  };
  load = record { text = codes "0x9000"; is = refl; is_text = (hexadecimal_digits_after (codes "9000") refl).0 };
  time = record { text = codes "5"; is = refl; is_text = (decimal_digits (codes "5") refl refl).0 };
  os = record { text = codes "linux"; is = refl; is_text = (code_with_name Os (codes "linux") 5 refl).0 };
  no_type = no_type_word;
  no_value = no_value_word;
  of_another_field = no_other_code;
  twice = two_loads;
}

-- ---- options

some_value : (values : List (List ℕ)) (word : List ℕ) → values ≡ word ∷ [] → ¬ (values ≡ [])
some_value values word is none = absurd (let e : word ∷ [] ≡ [] = sym is ∙ none in cc)

-- The choice if the form is kept, and if it is not.
kept_choice : (options : ArgMatches) (keeps : Bool) (chosen : FormChoice) → keeps ≡ true → IsFormChoiceWith keeps options chosen →
    (chosen ≡ choice.Keep) × IsForm options Embedded
kept_choice options keeps chosen kept is = by chosen (subst (λ k. IsFormChoiceWith k options chosen) kept is) where
  by : (chosen : FormChoice) → IsFormChoiceWith true options chosen → (chosen ≡ choice.Keep) × IsForm options Embedded
  by choice.Keep is = (refl, is)
  by (choice.Given form) is = absurd is

given_choice : (options : ArgMatches) (keeps : Bool) (chosen : FormChoice) → keeps ≡ false → IsFormChoiceWith keeps options chosen →
    (form : Form) × IsForm options form × (chosen ≡ choice.Given form)
given_choice options keeps chosen not_kept is = by chosen (subst (λ k. IsFormChoiceWith k options chosen) not_kept is) where
  by : (chosen : FormChoice) → IsFormChoiceWith false options chosen → (form : Form) × IsForm options form × (chosen ≡ choice.Given form)
  by choice.Keep is = absurd is
  by (choice.Given form) is = (form, is, refl)

-- The form of options with `--external` and without `--align`.
external_form : (options : ArgMatches) → external_flag options ≡ Some (codes "true") → align_option options ≡ None → (form : Form) →
    IsForm options form → form ≡ External
external_form options flag align form is =
    subst₂ (λ external align. IsFormWith external align form) (is.is_external.given flag) align is.is_form

-- That of an alignment without `--external`.
no_aligned_form : (options : ArgMatches) (argument : List ℕ) → external_flag options ≡ Some (codes "false") →
    align_option options ≡ Some argument → (form : Form) → ¬ (IsForm options form)
no_aligned_form options argument flag align form is =
    subst₂ (λ external align. IsFormWith external align form) (is.is_external.not_given flag) align is.is_form

pub edit_options_are_known : EditOptionsAreKnown
unfolding program_app clap_on_literals
edit_options_are_known = record {
  no_edit = λ options is. (no_edits (codes "update --external") options is refl refl refl refl refl refl).none;
  time = λ options is.
      AsksForTime (not_given_and_missing _ (codes "5")
      (option_is (codes "update --time 5") (codes "update") options is (codes "time") ∙ refl));
  hashes = λ options is.
      AsksForHashes (flag_is_on _ (flag_is (codes "update --hashes") (codes "update") options is (codes "hashes") ∙ refl));
  removal = λ options is.
      AsksToRemove (some_value _ (codes "/a")
      (found_values (codes "update --remove /a") (codes "update") options is (codes "remove") ∙ refl));
  setting = λ options is.
      AsksToSet (some_value _ (codes "/a") (found_values (codes "update --set /a") (codes "update") options is (codes "set") ∙ refl));
  payload = λ options is.
      AsksForPayloads (some_value _ (codes "a")
      (found_values (codes "update --payload a") (codes "update") options is (codes "payload") ∙ refl));
  form = λ options is.
      AsksToKeepForm (flag_is_on _ (flag_is (codes "update --keep-form") (codes "update") options is (codes "keep-form") ∙ refl));
  kept = λ options is chosen holds.
      (kept_choice options holds.keeps chosen
      (holds.keeps_form.given (flag_is (codes "update --keep-form") (codes "update") options is (codes "keep-form") ∙ refl))
      holds.is_choice).0;
  external = λ options is chosen holds.
      let line = codes "update --remove /a --external" in
      let name = codes "update" in
      let given = given_choice options holds.keeps chosen
      (holds.keeps_form.not_given (flag_is line name options is (codes "keep-form") ∙ refl)) holds.is_choice in
      given.2
      ∙ ap choice.Given (external_form options (flag_is line name options is (codes "external") ∙ refl)
      (option_is line name options is (codes "align") ∙ refl) given.0 given.1);
  both = λ options is chosen holds.
      let line = codes "update --keep-form --external" in
      let name = codes "update" in
      let kept = kept_choice options holds.keeps chosen
      (holds.keeps_form.given (flag_is line name options is (codes "keep-form") ∙ refl)) holds.is_choice in
      absurd (let e = external_form options (flag_is line name options is (codes "external") ∙ refl)
      (option_is line name options is (codes "align") ∙ refl) Embedded kept.1 in cc);
  aligned = λ options is chosen holds.
      let line = codes "update --keep-form --align 4" in
      let name = codes "update" in
      let kept = kept_choice options holds.keeps chosen
      (holds.keeps_form.given (flag_is line name options is (codes "keep-form") ∙ refl)) holds.is_choice in
      no_aligned_form options (codes "4") (flag_is line name options is (codes "external") ∙ refl)
      (option_is line name options is (codes "align") ∙ refl) Embedded kept.1;
}

-- ---- failures

pub edit_failures_are_known : EditFailuresAreKnown
edit_failures_are_known = record {
  second = λ one other file failure is. is;
  no_part = λ word file failure begins is. elim is [
    | OfLegacyImage legacy same ↦ same
    | OfTree tree same ↦ absurd (tree begins)
  ];
  no_image = λ file failure other is. elim is [
    | OfLegacyImage legacy same ↦ absurd (other legacy)
    | OfTree tree same ↦ same
  ];
  wrong_kind = λ words file failure is. is;
}
