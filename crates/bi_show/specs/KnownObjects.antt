use Rattle.std.specs.Prelude.{◌≡◌, ℕ, List, [], ◌∷◌, ◌++◌, Some, None, codes, drop}
use Rattle.bi_base.specs.Cells.{cell}
use Rattle.bi_base.specs.Limits.{widest}
use Rattle.bi_legacy.specs.KnownFiles.{kernel_file_with_rest}
use Rattle.bi_legacy.specs.KnownImages.{kernel_image}
use Rattle.bi_common.specs.Json.{Member, json_number, json_string}
use Rattle.bi_common.specs.KnownWords.{lines}
use Rattle.bi_show.specs.ShownObjects.{IsShownObject, number_in_value, shown_legacy_members}
use Rattle.bi_show.specs.ShownObjects.{text_in_value, texts_in}

-- What the JSON of a page has: values of properties, codes, and a small legacy image. A reader can
-- judge the definitions by them.

-- The members for the four codes of the kernel image with these other codes.
abbrev pub members_of_codes : (os arch image_type : ℕ) → List Member
members_of_codes os arch image_type =
    drop 5
    (shown_legacy_members (record kernel_image { os = os; arch = arch; image_type = image_type }))

-- A value is one text, or more, or none; and a number in one cell or two. A code that has a name
-- only on a page is a number: the invalid one, and the type of a vendor's format.
pub record ObjectValuesAreKnown : Type 0 where
  pub text : text_in_value (codes "a b" ++ 0 ∷ []) ≡ Some (codes "a b")
  pub two_texts : text_in_value (codes "a" ++ 0 ∷ codes "b" ++ 0 ∷ []) ≡ None
  pub empty_text : text_in_value (0 ∷ []) ≡ None
  pub no_zero : text_in_value (codes "a") ≡ None
  pub texts : texts_in (codes "a" ++ 0 ∷ codes "b" ++ 0 ∷ []) ≡ codes "a" ∷ codes "b" ∷ []
  pub no_texts : texts_in (codes "a" ++ 0 ∷ 10 ∷ 0 ∷ []) ≡ []
  pub number : number_in_value (cell 0x80080000) ≡ Some 2148007936
  pub long_number : number_in_value (cell 1 ++ cell 2) ≡ Some 4294967298
  pub no_number : number_in_value (codes "abc") ≡ None
  pub codes_with_names : members_of_codes 28 7 7
      ≡ (codes "os", json_string (codes "efi")) ∷ (codes "arch", json_string (codes "ppc"))
      ∷ (codes "type", json_string (codes "filesystem"))
      ∷ (codes "compression", json_string (codes "none")) ∷ []
  pub codes_without_names : members_of_codes 0 0 9
      ≡ (codes "os", json_number 0) ∷ (codes "arch", json_number 0)
      ∷ (codes "type", json_number 9) ∷ (codes "compression", json_string (codes "none")) ∷ []

-- The JSON of a kernel image with seven bytes after its data.
abbrev pub page_object : List ℕ
page_object =
    lines
    ((codes "{\"kind\":\"legacy\",\"name\":\"k\",\"time\":0,\"load\":32768,\"entry\":32768,"
    ++ (codes "\"os\":\"linux\",\"arch\":\"arm\",\"type\":\"kernel\",\"compression\":\"none\","
    ++ (codes "\"parts\":[{\"offset\":64,\"size\":9}],\"unused\":7,"
    ++ codes "\"concerns\":[{\"concern\":\"trailing\",\"size\":7}]}"))) ∷ [])

pub record ObjectsAreKnown : Type 0 where
  pub kernel : IsShownObject widest kernel_file_with_rest page_object
