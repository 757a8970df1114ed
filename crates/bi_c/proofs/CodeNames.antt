use Rattle.std.proofs.Common.{◌≡◌, ◌⊎◌, ◌==◌, ◌<◌, ℕ, Bool, true, false, cond, List, [], ◌∷◌, Option, None, Some, codes, bytes_eq}
use Rattle.std.proofs.Common.{ap, ◌∙◌, inl, refl, sym, subst, lit<, arith}
use Rattle.std.specs.Prelude.{IsUtf8, ltb}
use Rattle.std.specs.List.{list_all}
use Rattle.std.proofs.lemmas.Bool.{and_parts, eqb-true, false≢true, ltb-true}
use Rattle.std.proofs.lemmas.Str.{IsUtf8-from_ascii}
use Rattle.bi_base.proofs.EqualBytes.{same_bytes}
use Rattle.bi_common.proofs.PrintedTexts.{HasAscii, is_ascii}
use Rattle.bi_legacy.specs.Codes.{CodeName, compression_names, name_of_code}
use Rattle.bi_show.specs.AllCodes.{code_of_name, given_arch_names, given_os_names, given_type_names}
use Rattle.bi_c.specs.CodeCalls.{HasCodeOfField, IsCodeNameFailure, IsCodeNumberFailure, IsNameOfCode, IsNumberOfName, names_of_field}
use Rattle.bi_c.specs.Answers.{answer_of}
use Rattle.bi_c.specs.KnownCalls.{AlwaysAnswers, AlwaysFills}
use Rattle.bi_c.specs.KnownCodeCalls.{NamesOfCodesAreKnown}
use Rattle.bi_c.specs.declared.failure.Failure.{Failure}
use Rattle.bi_c.specs.declared.failure.Failure.TheVariants.{NotFound, OutOfMemory, Refused, WrongArgument}
use Rattle.bi_c.specs.declared.argument.Argument.{Argument}
use Rattle.bi_c.specs.declared.argument.Argument.TheVariants.{Code, Field}
use Rattle.bi_c.specs.Answers.{answer_of_failure}
use Rattle.bi_c.specs.Checks.{NoCheck}
use Rattle.bi_c.specs.CodeCalls.{CodeCheck, FieldCheck}
use Rattle.bi_c.proofs.CheckFacts.{OnlyWrong, next_keeps, next_none, next_only, no_check_none}
use Rattle.bi_c.proofs.AnswerFacts.{always_answers, never_answers, never_fills}

-- The names of codes, and the codes of names.

-- ---- names are texts

-- Each name in a list is ASCII.
abbrev HasAsciiNames : List CodeName → Type 0
HasAsciiNames names = list_all (λ (entry : CodeName). list_all (λ byte. ltb byte 128) entry.name) names ≡ true

ascii_by_test : (name : List ℕ) → list_all (λ byte. ltb byte 128) name ≡ true → HasAscii name
ascii_by_test [] passes = tt
ascii_by_test (byte ∷ later) passes =
    let parts = and_parts (ltb byte 128) (list_all (λ byte. ltb byte 128) later) passes in
    (ltb-true byte 128 parts.0, ascii_by_test later parts.1)

-- So bytes that are not a text are not a name.
no_name_without_text : (names : List CodeName) → HasAsciiNames names → (name : List ℕ) → ¬ (IsUtf8 name) →
    code_of_name names name ≡ None
no_name_without_text [] are name no_text = refl
no_name_without_text (entry ∷ later) are name no_text =
    let parts = and_parts (list_all (λ byte. ltb byte 128) entry.name)
    (list_all (λ (entry : CodeName). list_all (λ byte. ltb byte 128) entry.name) later) are in
    by parts.0 (no_name_without_text later parts.1 name no_text) (bytes_eq entry.name name) refl
  where
    by : list_all (λ byte. ltb byte 128) entry.name ≡ true → code_of_name later name ≡ None → (b : Bool) →
        bytes_eq entry.name name ≡ b → cond b (Some entry.code) (code_of_name later name) ≡ None
    by ascii rest true same = absurd
        (no_text (subst IsUtf8 (same_bytes entry.name name same)
        (IsUtf8-from_ascii entry.name (is_ascii entry.name (ascii_by_test entry.name ascii)))))
    by ascii rest false other = rest

-- The names of a field, by the tests of its number.
abbrev names_by : (first second third : Bool) → List CodeName
names_by first second third = cond first given_os_names (cond second given_arch_names (cond third given_type_names compression_names))

-- The names of each field.
pub no_name_of_field_without_text : (field : ℕ) (name : List ℕ) → ¬ (IsUtf8 name) → code_of_name (names_of_field field) name ≡ None
no_name_of_field_without_text field name no_text = by (field == 0) (field == 1) (field == 2)
  where
    by : (first second third : Bool) → code_of_name (names_by first second third) name ≡ None
    by true second third = no_name_without_text given_os_names refl name no_text
    by false true third = no_name_without_text given_arch_names refl name no_text
    by false false true = no_name_without_text given_type_names refl name no_text
    by false false false = no_name_without_text compression_names refl name no_text

-- ---- the code of the name of a code

-- Whether a code is this one.
abbrev is_this : Option ℕ → ℕ → Bool
is_this None code = false
is_this (Some found) code = found == code

this_by_test : (found : Option ℕ) (code : ℕ) → is_this found code ≡ true → found ≡ Some code
this_by_test None code passes = absurd (false≢true passes)
this_by_test (Some found) code passes = ap Some (eqb-true found code passes)

-- Each entry is the first one of some names with its name.
abbrev AreFirst : (names entries : List CodeName) → Type 0
AreFirst names entries = list_all (λ (entry : CodeName). is_this (code_of_name names entry.name) entry.code) entries ≡ true

code_of_its_name : (names entries : List CodeName) → AreFirst names entries → (code : ℕ) (name : List ℕ) →
    name_of_code entries code ≡ Some name → code_of_name names name ≡ Some code
code_of_its_name names [] are code name is = absurd (let wrong : None ≡ Some name = is in cc)
code_of_its_name names (entry ∷ later) are code name is =
    let parts = and_parts (is_this (code_of_name names entry.name) entry.code)
    (list_all (λ (entry : CodeName). is_this (code_of_name names entry.name) entry.code) later) are in
    by parts.0 (code_of_its_name names later parts.1 code name) (entry.code == code) refl is
  where
    by : is_this (code_of_name names entry.name) entry.code ≡ true →
        (name_of_code later code ≡ Some name → code_of_name names name ≡ Some code) → (b : Bool) → (entry.code == code) ≡ b →
        cond b (Some entry.name) (name_of_code later code) ≡ Some name → code_of_name names name ≡ Some code
    by first rest true same this =
        let named : entry.name ≡ name = cc in
        subst (λ (text : List ℕ). code_of_name names text ≡ Some code) named
        (this_by_test (code_of_name names entry.name) entry.code first ∙ ap Some (eqb-true entry.code code same))
    by first rest false other next = rest next

-- The names of each field.
code_of_its_name_of_field : (field code : ℕ) (name : List ℕ) → name_of_code (names_of_field field) code ≡ Some name →
    code_of_name (names_of_field field) name ≡ Some code
code_of_its_name_of_field field code name = by (field == 0) (field == 1) (field == 2)
  where
    by : (first second third : Bool) →
        name_of_code (names_by first second third) code ≡ Some name → code_of_name (names_by first second third) name ≡ Some code
    by true second third = code_of_its_name given_os_names given_os_names refl code name
    by false true third = code_of_its_name given_arch_names given_arch_names refl code name
    by false false true = code_of_its_name given_type_names given_type_names refl code name
    by false false false = code_of_its_name compression_names compression_names refl code name

-- ---- known names

-- A name has one code, and the call returns it.
finds_code : (field code : ℕ) (name : List ℕ) → field < 4 → code_of_name (names_of_field field) name ≡ Some code →
    AlwaysAnswers (IsNumberOfName field name) (IsCodeNumberFailure field name) (answer_of 0 code) 0
finds_code field code name is_field found =
    always_answers (IsNumberOfName field name) (IsCodeNumberFailure field name) 0 code
    (λ size value is. (is.nothing, let same : Some value ≡ Some code = sym is.is_code ∙ found in cc)) fails
  where
    fails : (failure : Failure) → IsCodeNumberFailure field name failure → failure ≡ OutOfMemory
    fails (WrongArgument found index) is = absurd (is.0 is_field)
    fails (NotFound reason index) is = absurd (let wrong : None ≡ Some code = sym is.1 ∙ found in cc)
    fails (Refused file fault) is = absurd is
    fails OutOfMemory is = absurd is

-- No code has the name `linux` in the field of types.
no_code_fails : (failure : Failure) → IsCodeNumberFailure 2 (codes "linux") failure → (failure ≡ NotFound 15 0) ⊎ (failure ≡ OutOfMemory)
no_code_fails (WrongArgument found index) is = absurd (is.0 (lit< tt))
no_code_fails (NotFound reason index) is = inl (λ i. NotFound (is.2 i) (is.3 i))
no_code_fails (Refused file fault) is = absurd is
no_code_fails OutOfMemory is = absurd is

-- There is no field with the number 4.
no_field_fails : (failure : Failure) → IsCodeNumberFailure 4 (codes "linux") failure →
    (failure ≡ WrongArgument Field 0) ⊎ (failure ≡ OutOfMemory)
no_field_fails (WrongArgument found index) is =
    let same = next_only NoCheck Field (4 < 4) no_check_none found index is.1 in inl (λ i. WrongArgument (same.0 i) (same.1 i))
no_field_fails (NotFound reason index) is = absurd (omega (arith, is.0))
no_field_fails (Refused file fault) is = absurd is
no_field_fails OutOfMemory is = absurd is

-- Numbers that are none of a field and a code.
wrong_numbers : (field code : ℕ) (argument : Argument) → ¬ (HasCodeOfField field code) → OnlyWrong (CodeCheck field code) argument 0 →
    (before : List ℕ) →
    AlwaysFills (IsNameOfCode field code) (IsCodeNameFailure field code) before before (answer_of_failure (WrongArgument argument 0)) 4
wrong_numbers field code argument wrong only before =
    never_fills (IsNameOfCode field code) (IsCodeNameFailure field code) before (WrongArgument argument 0)
    (λ text value is. wrong is.arguments) fails
  where
    fails : (failure : Failure) → IsCodeNameFailure field code failure → (failure ≡ WrongArgument argument 0) ⊎ (failure ≡ OutOfMemory)
    fails (WrongArgument found index) is =
        let same = only found index is.1 in inl (λ i. WrongArgument (same.0 i) (same.1 i))
    fails (NotFound reason index) is = absurd (wrong is.0)
    fails (Refused file fault) is = absurd is
    fails OutOfMemory is = absurd is

-- The code 0 of an operating system has no name.
no_name_fails : (failure : Failure) → IsCodeNameFailure 0 0 failure → (failure ≡ NotFound 14 0) ⊎ (failure ≡ OutOfMemory)
no_name_fails (WrongArgument found index) is = absurd (is.0 (record { is_field = lit< tt; is_code = lit< tt }))
no_name_fails (NotFound reason index) is = inl (λ i. NotFound (is.2 i) (is.3 i))
no_name_fails (Refused file fault) is = absurd is
no_name_fails OutOfMemory is = absurd is

pub names_of_codes_are_known : NamesOfCodesAreKnown
names_of_codes_are_known = record {
  os = record { arguments = record { is_field = lit< tt; is_code = lit< tt }; is_name = refl; no_value = refl };
  arch = record { arguments = record { is_field = lit< tt; is_code = lit< tt }; is_name = refl; no_value = refl };
  image_type = record { arguments = record { is_field = lit< tt; is_code = lit< tt }; is_name = refl; no_value = refl };
  compression = record { arguments = record { is_field = lit< tt; is_code = lit< tt }; is_name = refl; no_value = refl };
  only_name = λ text value is. let same : Some (codes "linux") ≡ Some text = is.is_name in cc;
  no_name = λ before.
      never_fills (IsNameOfCode 0 0) (IsCodeNameFailure 0 0) before (NotFound 14 0)
      (λ text value is. let wrong : None ≡ Some text = is.is_name in cc) no_name_fails;
  no_field = wrong_numbers 4 5 Field (λ has. omega (arith, has.is_field))
      (next_keeps (FieldCheck 4) Code (HasCodeOfField 4 5) Field 0 (next_only NoCheck Field (4 < 4) no_check_none)
      (λ is. omega (arith, is)));
  large_code = wrong_numbers 0 256 Code (λ has. omega (arith, has.is_code))
      (next_only (FieldCheck 0) Code (HasCodeOfField 0 256) (next_none NoCheck Field (0 < 4) no_check_none (lit< tt)));
  os_code = finds_code 0 5 (codes "linux") (lit< tt) refl;
  second_name = finds_code 1 7 (codes "powerpc") (lit< tt) refl;
  no_code = never_answers (IsNumberOfName 2 (codes "linux")) (IsCodeNumberFailure 2 (codes "linux")) (NotFound 15 0)
      (λ size value is. let wrong : None ≡ Some value = is.is_code in cc) no_code_fails;
  no_code_of_field = never_answers (IsNumberOfName 4 (codes "linux")) (IsCodeNumberFailure 4 (codes "linux")) (WrongArgument Field 0)
      (λ size value is. omega (arith, is.is_field)) no_field_fails;
  back = λ field code value name is. record {
    is_field = is.arguments.is_field;
    is_code = code_of_its_name_of_field field code name is.is_name;
    nothing = refl;
  };
}
