use Rattle.std.specs.Prelude.{ℕ, ◌<◌, ◌^◌, ◌≡◌, List, Option, Some, None, map}
use Rattle.bi_legacy.specs.Codes.{CodeName, os_names, arch_names, type_names, compression_names}
use Rattle.bi_legacy.specs.Codes.{name_of_code}
use Rattle.bi_norm.specs.FitBuilding.{ImageTextsModel}
use Rattle.bi_show.specs.AllCodes.{code_of_name, given_os_names, given_arch_names, given_type_names}
use Rattle.bootimg.specs.declared.codes.CodeField.{CodeField}
use Rattle.bootimg.specs.declared.codes.CodeField.TheVariants.{Os, Arch, ImageType}
use Rattle.bootimg.specs.declared.codes.CodeField.TheVariants.{Compression}
use Rattle.bootimg.specs.Numbers.{IsNumber}

-- Codes of legacy headers on the command line (profile of this project).

-- The names that listings have of the codes of a field.
abbrev pub codes_of : CodeField → List CodeName
codes_of Os = os_names
codes_of Arch = arch_names
codes_of ImageType = type_names
codes_of Compression = compression_names

-- The names of the codes of a field that can be given: those of U-Boot's own tables.
abbrev pub given_names_of : CodeField → List CodeName
given_names_of Os = given_os_names
given_names_of Arch = given_arch_names
given_names_of ImageType = given_type_names
given_names_of Compression = compression_names

-- The names without their codes.
abbrev pub names_given_for : CodeField → List (List ℕ)
names_given_for field = map (λ (entry : CodeName). entry.name) (given_names_of field)

-- The argument is this code of a field: its name, or if no code of the field has this name, a
-- number of at most 255.
pub data IsCode (field : CodeField) (argument : List ℕ) (code : ℕ) : Type 0 where
  Named : code_of_name (given_names_of field) argument ≡ Some code → IsCode field argument code
  Numbered : code_of_name (given_names_of field) argument ≡ None → IsNumber argument code
      → code < 2 ^ 8 → IsCode field argument code

-- The text in an image node for an argument that is this code: the argument if it is a name, and
-- the name that listings have of the code if it is a number.
abbrev text_for : (named : Option ℕ) → CodeField → List ℕ → ℕ → Option (List ℕ)
text_for (Some code) field argument number = Some argument
text_for None field argument number = name_of_code (codes_of field) number

abbrev pub text_of_code : CodeField → List ℕ → ℕ → Option (List ℕ)
text_of_code field argument code =
    text_for (code_of_name (given_names_of field) argument) field argument code

-- The four texts, if there are four.
abbrev pub four_texts : (image_type arch os compression : Option (List ℕ)) → Option ImageTextsModel
four_texts (Some image_type) (Some arch) (Some os) (Some compression) = Some (record {
  image_type = image_type;
  arch = arch;
  os = os;
  compression = compression;
})
four_texts image_type arch os compression = None
