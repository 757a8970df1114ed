use Rattle.std.specs.Prelude.{ℕ, ◌<◌, ◌≡◌, ◌==◌, List, None, Some, if◌then◌else◌}
use Rattle.std.specs.Prelude.{Option}
use Rattle.bi_legacy.specs.Codes.{CodeName, compression_names, name_of_code}
use Rattle.bi_show.specs.AllCodes.{code_of_name, given_arch_names, given_os_names, given_type_names}
use Rattle.bi_c.specs.Checks.{IsWrong, NextCheck, NoCheck}
use Rattle.bi_c.specs.declared.argument.Argument.{Argument}
use Rattle.bi_c.specs.declared.argument.Argument.TheVariants as argument
use Rattle.bi_c.specs.declared.failure.Failure.{Failure}
use Rattle.bi_c.specs.declared.failure.Failure.TheVariants.{WrongArgument, NotFound}

-- What calls from C return that name the codes in legacy headers, and find the code of a name
-- (profile of this project).

-- The names of the codes of a field that can be given, by the number of the field: 0 for the
-- operating system, 1 for the architecture, 2 for the image type, and 3 for the compression.
abbrev pub names_of_field : ℕ → List CodeName
names_of_field field =
    if field == 0 then given_os_names
    else if field == 1 then given_arch_names
    else if field == 2 then given_type_names
    else compression_names

-- The numbers are those of a field and of a code.
pub record HasCodeOfField (field code : ℕ) : Type 0 where
  pub is_field : field < 4
  pub is_code : code < 256

-- The field is checked,
abbrev pub FieldCheck : (field : ℕ) → Option (Argument × ℕ) → Type 0
FieldCheck field = NextCheck NoCheck argument.Field (field < 4)

-- or the field and then the code.
abbrev pub CodeCheck : (field code : ℕ) → Option (Argument × ℕ) → Type 0
CodeCheck field code = NextCheck (FieldCheck field) argument.Code (HasCodeOfField field code)

-- The text is the name of the code.
pub record IsNameOfCode (field code : ℕ) (text : List ℕ) (value : ℕ) : Type 0 where
  pub arguments : HasCodeOfField field code
  pub is_name : name_of_code (names_of_field field) code ≡ Some text
  pub no_value : value ≡ 0

-- Why no name is written: a number is wrong, or the code has no name.
abbrev pub IsCodeNameFailure : (field code : ℕ) → Failure → Type 0
IsCodeNameFailure field code (WrongArgument found index) =
    IsWrong (CodeCheck field code) found index
IsCodeNameFailure field code (NotFound reason index) =
    HasCodeOfField field code × (name_of_code (names_of_field field) code ≡ None)
    × (reason ≡ 14) × (index ≡ 0)
IsCodeNameFailure field code other = ⊥

-- The number is the code with this name. Nothing is written.
pub record IsNumberOfName (field : ℕ) (name : List ℕ) (size value : ℕ) : Type 0 where
  pub is_field : field < 4
  pub is_code : code_of_name (names_of_field field) name ≡ Some value
  pub nothing : size ≡ 0

-- Why there is no number: the number of the field is wrong, or no code has the name.
abbrev pub IsCodeNumberFailure : (field : ℕ) → (name : List ℕ) → Failure → Type 0
IsCodeNumberFailure field name (WrongArgument found index) =
    IsWrong (FieldCheck field) found index
IsCodeNumberFailure field name (NotFound reason index) =
    (field < 4) × (code_of_name (names_of_field field) name ≡ None) × (reason ≡ 15) × (index ≡ 0)
IsCodeNumberFailure field name other = ⊥
