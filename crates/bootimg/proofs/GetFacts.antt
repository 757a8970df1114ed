use Rattle.std.proofs.Common.{◌≡◌, ◌∙◌, ℕ, List, [], Option, Some, None, codes, length, map, ap, refl, sym}
use Rattle.std.proofs.lemmas.List.{length-map}
use Rattle.bi_base.proofs.EqualBytes.{other_bytes}
use Rattle.bi_values.specs.KnownValues.{load_and_default}
use Rattle.bi_values.specs.NameWords.{AreNoWords, AreWordsOf}
use Rattle.bi_values.specs.ValueNames.{ValueNameModel, value_name_model, value_name_models, words_of_value}
use Rattle.bi_values.specs.declared.value_form.ValueForm.{ValueForm}
use Rattle.bi_values.specs.declared.value_form.ValueForm.TheVariants as value_form
use Rattle.bi_values.proofs.NameWordFacts.{name_words_are_known}
use Rattle.clap.specs.declared.parser.matches.ArgMatches.{ArgMatches}
use Rattle.clap.proofs.OnLiterals.{clap_on_literals}
use Rattle.bootimg.specs.CommandLine.{IsGetPlan, option_of, values_of}
use Rattle.bootimg.specs.KnownRequests.{GetPlansAreKnown, IsPlanOf}
use Rattle.bootimg.specs.Program.{program_app}
use Rattle.bootimg.specs.ValueWords.{form_argument}
use Rattle.bootimg.specs.declared.command_line.values.GetPlan.{GetPlan}
use Rattle.bootimg.proofs.GetWords.{load_and_name}
use Rattle.bootimg.proofs.OptionFacts.{found_values}
use Rattle.bootimg.proofs.RequestFacts.{option_is}

-- What the options of `get` mean is known.

-- ---- forms

-- The form without the option, and with each word for one.
shown_is : (form : ValueForm) → None ≡ form_argument form → form ≡ value_form.Shown
shown_is value_form.Shown is = refl
shown_is value_form.Text is = absurd cc
shown_is value_form.Number is = absurd cc
shown_is value_form.Raw is = absurd cc

abbrev word_in : Option (List ℕ) → List ℕ
word_in None = []
word_in (Some word) = word

text_is : (form : ValueForm) → Some (codes "text") ≡ form_argument form → form ≡ value_form.Text
text_is value_form.Shown is = absurd cc
text_is value_form.Text is = refl
text_is value_form.Number is = absurd (other_bytes (codes "text") (codes "number") refl (ap word_in is))
text_is value_form.Raw is = absurd (other_bytes (codes "text") (codes "raw") refl (ap word_in is))

number_is : (form : ValueForm) → Some (codes "number") ≡ form_argument form → form ≡ value_form.Number
number_is value_form.Shown is = absurd cc
number_is value_form.Text is = absurd (other_bytes (codes "number") (codes "text") refl (ap word_in is))
number_is value_form.Number is = refl
number_is value_form.Raw is = absurd (other_bytes (codes "number") (codes "raw") refl (ap word_in is))

raw_is : (form : ValueForm) → Some (codes "raw") ≡ form_argument form → form ≡ value_form.Raw
raw_is value_form.Shown is = absurd cc
raw_is value_form.Text is = absurd (other_bytes (codes "raw") (codes "text") refl (ap word_in is))
raw_is value_form.Number is = absurd (other_bytes (codes "raw") (codes "number") refl (ap word_in is))
raw_is value_form.Raw is = refl

no_form : (form : ValueForm) → ¬ (Some (codes "shown") ≡ form_argument form)
no_form value_form.Shown is = absurd cc
no_form value_form.Text is = other_bytes (codes "shown") (codes "text") refl (ap word_in is)
no_form value_form.Number is = other_bytes (codes "shown") (codes "number") refl (ap word_in is)
no_form value_form.Raw is = other_bytes (codes "shown") (codes "raw") refl (ap word_in is)

-- ---- plans

module _ (options : ArgMatches) (plan : GetPlan) (is : IsGetPlan options plan) where
  -- The form, if the option has this value.
  form_given : (argument : Option (List ℕ)) → option_of options (codes "as") ≡ argument → argument ≡ form_argument plan.form
  form_given argument given = sym given ∙ is.form

  -- The names, if the arguments are their words.
  names_given : (words : List (List ℕ)) (names : List ValueNameModel) → values_of options (codes "where") ≡ words →
      AreWordsOf words names → value_name_models plan.names.items ≡ names
  names_given words names given are =
      are.only (value_name_models plan.names.items) is.names.valid (is.names.are ∙ given)

  no_names_given : (words : List (List ℕ)) → values_of options (codes "where") ≡ words → ¬ (AreNoWords words)
  no_names_given words given none = none (value_name_models plan.names.items) is.names.valid (is.names.are ∙ given)

  plan_given : (form : ValueForm) (words : List (List ℕ)) (names : List ValueNameModel) → plan.form ≡ form →
      values_of options (codes "where") ≡ words → AreWordsOf words names → IsPlanOf form names (map words_of_value names) plan
  plan_given form words names form_is given are = record {
    form_is = form_is;
    names_are = names_given words names given are;
    words_are = is.words ∙ ap (map words_of_value) (names_given words names given are);
  }

pub get_plans_are_known : GetPlansAreKnown
unfolding program_app clap_on_literals
get_plans_are_known = record {
  two = λ options gives plan is.
      let line = codes "get in /images/kernel-1 load /configurations default" in
      plan_given options plan is value_form.Shown _ load_and_default
      (shown_is plan.form (form_given options plan is None (option_is line (codes "get") options gives (codes "as") ∙ refl)))
      (found_values line (codes "get") options gives (codes "where") ∙ refl) name_words_are_known.two;
  text = λ options gives plan is.
      let line = codes "get --as text in load name" in
      plan_given options plan is value_form.Text _ load_and_name
      (text_is plan.form (form_given options plan is (Some (codes "text"))
      (option_is line (codes "get") options gives (codes "as") ∙ refl)))
      (found_values line (codes "get") options gives (codes "where") ∙ refl) name_words_are_known.fields;
  number = λ options gives plan is.
      number_is plan.form (form_given options plan is (Some (codes "number"))
      (option_is (codes "get --as number in load name") (codes "get") options gives (codes "as") ∙ refl));
  raw = λ options gives plan is.
      raw_is plan.form (form_given options plan is (Some (codes "raw"))
      (option_is (codes "get --as raw in load") (codes "get") options gives (codes "as") ∙ refl));
  two_raw = λ options gives plan is.
      let line = codes "get --as raw in load name" in
      let one = is.one (raw_is plan.form (form_given options plan is (Some (codes "raw"))
      (option_is line (codes "get") options gives (codes "as") ∙ refl))) in
      let names = names_given options plan is _ load_and_name
      (found_values line (codes "get") options gives (codes "where") ∙ refl) name_words_are_known.fields in
      let two : length plan.names.items ≡ 2 = sym (length-map plan.names.items value_name_model) ∙ ap length names in
      absurd (let e : 1 ≡ 2 = sym one ∙ two in cc);
  other_form = λ options gives plan is.
      no_form plan.form (form_given options plan is (Some (codes "shown"))
      (option_is (codes "get --as shown in load") (codes "get") options gives (codes "as") ∙ refl));
  no_name = λ options gives plan is.
      no_names_given options plan is _
      (found_values (codes "get in /") (codes "get") options gives (codes "where") ∙ refl) name_words_are_known.no_name;
}
