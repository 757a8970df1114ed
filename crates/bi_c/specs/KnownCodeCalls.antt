use Rattle.std.specs.Prelude.{ℕ, ◌≡◌, List, codes}
use Rattle.bi_c.specs.CodeCalls.{IsCodeNameFailure, IsCodeNumberFailure, IsNameOfCode}
use Rattle.bi_c.specs.CodeCalls.{IsNumberOfName}
use Rattle.bi_c.specs.KnownCalls.{AlwaysAnswers, AlwaysFills, empty_answer}

-- What calls from C return for codes of legacy headers and for their names, by which a reader can
-- judge the definitions.

-- A code of each field and its name: a listing has the first two names, and not the third. The code
-- 7 of an architecture has two names. Some numbers are none of a field or of a code, and some codes
-- and names are unknown. The name of each code has this code and no other.
pub record NamesOfCodesAreKnown : Type 0 where
  pub os : IsNameOfCode 0 5 (codes "linux") 0
  pub arch : IsNameOfCode 1 7 (codes "ppc") 0
  pub image_type : IsNameOfCode 2 14 (codes "kernel_noload") 0
  pub compression : IsNameOfCode 3 6 (codes "zstd") 0
  pub only_name : (text : List ℕ) (value : ℕ) → IsNameOfCode 0 5 text value → text ≡ codes "linux"
  pub no_name : (before : List ℕ)
      → AlwaysFills (IsNameOfCode 0 0) (IsCodeNameFailure 0 0) before before
      (record empty_answer { reason = 14 }) 5
  pub no_field : (before : List ℕ)
      → AlwaysFills (IsNameOfCode 4 5) (IsCodeNameFailure 4 5) before before
      (record empty_answer { reason = 9 }) 4
  pub large_code : (before : List ℕ)
      → AlwaysFills (IsNameOfCode 0 256) (IsCodeNameFailure 0 256) before before
      (record empty_answer { reason = 10 }) 4
  pub os_code : AlwaysAnswers (IsNumberOfName 0 (codes "linux"))
      (IsCodeNumberFailure 0 (codes "linux")) (record empty_answer { value = 5 }) 0
  pub second_name : AlwaysAnswers (IsNumberOfName 1 (codes "powerpc"))
      (IsCodeNumberFailure 1 (codes "powerpc")) (record empty_answer { value = 7 }) 0
  pub no_code : AlwaysAnswers (IsNumberOfName 2 (codes "linux"))
      (IsCodeNumberFailure 2 (codes "linux")) (record empty_answer { reason = 15 }) 5
  pub no_code_of_field : AlwaysAnswers (IsNumberOfName 4 (codes "linux"))
      (IsCodeNumberFailure 4 (codes "linux")) (record empty_answer { reason = 9 }) 4
  pub back : (field code value : ℕ) (name : List ℕ) → IsNameOfCode field code name value
      → IsNumberOfName field name 0 code
