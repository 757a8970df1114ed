use Rattle.std.proofs.Common.{ℕ, List, [], ◌∷◌, codes, refl, subst, lit<, arith}
use Rattle.bi_base.specs.Limits.{widest}
use Rattle.bi_legacy.specs.Laws.{OneLegacyMeaning}
use Rattle.bi_values.specs.Getting.{IsTextOfValues}
use Rattle.bi_values.specs.KnownValues.{IsOnlyGetText, of_root, valued_file}
use Rattle.bi_values.specs.NameWords.{AreWordsOf}
use Rattle.bi_values.specs.ValueNames.{FieldAt, ValueNameModel}
use Rattle.bi_values.specs.declared.get_error.GetError.TheVariants as get
use Rattle.bi_values.specs.declared.value_form.ValueForm.TheVariants.{Text}
use Rattle.bi_values.specs.declared.value_name.HeaderField.TheVariants as field
use Rattle.bi_values.proofs.NameWordFacts.{name_words_are_known}
use Rattle.bi_values.proofs.ValueFacts.{get_errors_are_known, property_values_are_known}
use Rattle.bi_values.proofs.ValueWords.{value_words_are}
use Rattle.bi_c.specs.KnownValueCalls.{ValueCallsAreKnown}
use Rattle.bi_c.specs.ValueCalls.{HasValueForm, IsGotten, IsOneName}
use Rattle.bi_c.proofs.AnswerFacts.{widest_is_in_range}
use Rattle.bi_c.specs.declared.argument.Argument.TheVariants.{Form, Place}
use Rattle.bi_c.specs.Checks.{LimitsCheck, NextCheck}
use Rattle.bi_c.specs.ValueCalls.{HasPlace}
use Rattle.bi_c.proofs.CheckFacts.{first_is_wrong, next_is_wrong}
use Rattle.bi_c.proofs.ValueCallAnswers.{not_one_named, nothing_named}

-- What the call that gets a value returns for a small file.

no_form : ¬ (HasValueForm 0x7fffffff 64 4)
no_form valid = absurd (omega (arith, valid.is_form))

abbrev model_names : List ValueNameModel
model_names = of_root (codes "model") ∷ []

model_is_one : IsOneName (codes "/") (codes "model") model_names
model_is_one = record { value = of_root (codes "model"); is_one = refl; are_words = name_words_are_known.root }

load_words : AreWordsOf (codes "load" ∷ []) (FieldAt field.Load ∷ [])
load_words = value_words_are _ _ (tt, tt) refl

pub value_calls_are_known : OneLegacyMeaning → ValueCallsAreKnown
value_calls_are_known one_legacy = record {
  texts = record {
    arguments = record { limits = widest_is_in_range; is_form = lit< tt };
    names = model_names;
    is_one = model_is_one;
    is = known.is;
    no_value = refl;
  };
  only = λ text value got. (known.only text (model_text text value got), got.no_value);
  other_kind = record {
    arguments = record { limits = widest_is_in_range; is_form = lit< tt };
    names = FieldAt field.Load ∷ [];
    is_one = record { value = FieldAt field.Load; is_one = refl; are_words = load_words };
    cause = get.WrongKind;
    is_error = (get_errors_are_known one_legacy).field_of_tree.is;
    is_failure = refl;
  };
  other_form =
      first_is_wrong (NextCheck (LimitsCheck 0x7fffffff 64) Form (HasValueForm 0x7fffffff 64 4)) Place
      (HasPlace 0x7fffffff 64 4 (codes "/") (codes "model")) Form 0 (λ valid. valid.arguments)
      (next_is_wrong (LimitsCheck 0x7fffffff 64) Form (HasValueForm 0x7fffffff 64 4) widest_is_in_range no_form);
  bad_words =
      next_is_wrong (NextCheck (LimitsCheck 0x7fffffff 64) Form (HasValueForm 0x7fffffff 64 0)) Place
      (HasPlace 0x7fffffff 64 0 (codes "size") []) (record { limits = widest_is_in_range; is_form = lit< tt })
      (λ valid. nothing_named (codes "size") [] name_words_are_known.other_field valid.names valid.is_one);
  no_form = no_form;
  no_field = nothing_named (codes "size") [] name_words_are_known.other_field;
  two_fields = not_one_named (codes "load") (codes "name") _ name_words_are_known.fields (λ e. absurd cc);
}
  where
    known : IsOnlyGetText Text model_names valued_file (codes "two\ntexts\n")
    known = (property_values_are_known one_legacy).texts

    model_text : (text : List ℕ) (value : ℕ) → IsGotten 0x7fffffff 64 1 (codes "/") (codes "model") valued_file text value →
        IsTextOfValues Text model_names widest valued_file text
    model_text text value got =
        subst (λ (names : List ValueNameModel). IsTextOfValues Text names widest valued_file text)
        (name_words_are_known.root.only got.names got.is_one.are_words.valid got.is_one.are_words.are) got.is
