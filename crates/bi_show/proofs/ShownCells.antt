use Rattle.std.proofs.Common.{◌≡◌, ◌++◌, ◌<◌, ℕ, List, [], ◌∷◌, Option, Some, None, append-nil, ap, refl, subst, sym}
use Rattle.std.specs.List.{join_with_byte}
use Rattle.std.specs.Prelude.{IfOk, IfSome, IsAscii, Result, Ok, Err, String, string_bytes}
use Rattle.std.specs.declared.alloc.Global.{Global}
use Rattle.bi_base.specs.MemoryPens.{MemoryPuts}
use Rattle.bi_base.proofs.ListMembers.{each-front}
use Rattle.bi_common.specs.Json.{json_string, string_text}
use Rattle.bi_common.specs.Lines.{Field, Text, Name, Decimal, Hexadecimal, Hexadecimal64, Digits, Path, Value, field_text, field_texts}
use Rattle.bi_common.specs.ValueTexts.{value_words}
use Rattle.bi_common.proofs.PrintedTexts.{is_ascii, json_printed, printed_before}
use Rattle.bi_common.specs.Lines.{CanPrint}
use Rattle.bi_common.proofs.PrintedWords.{lines_have_ascii}

-- These lemmas are about the cells of a page.

-- What was put to a pen that had no text is ASCII if the text is,
pub ascii_in_memory : (old new : Option (List ℕ)) (text : List ℕ) → old ≡ Some [] → MemoryPuts old text new → IsAscii text →
    IfSome new IsAscii
ascii_in_memory old None text empty put ascii = tt
ascii_in_memory old (Some all) text empty put ascii = subst IsAscii (sym (subst (λ o. MemoryPuts o text (Some all)) empty put)) ascii

-- and what is then made of it is the text.
pub text_made : {E : Type 0} (result : Result (String Global) E) (old new : Option (List ℕ)) (text : List ℕ) → old ≡ Some [] →
    MemoryPuts old text new → IfOk result (λ shown. new ≡ Some (string_bytes shown)) → IfOk result (λ shown. string_bytes shown ≡ text)
text_made (Ok shown) old new text empty put is =
    subst (λ o. MemoryPuts o text (Some (string_bytes shown))) empty (subst (MemoryPuts old text) is put)
text_made (Err error) old new text empty put is = tt

-- A field that can be printed is ASCII,
one_word : (field : Field) → join_with_byte 32 (field_texts field ++ []) ≡ field_text field
one_word (Text text) = refl
one_word (Name name) = refl
one_word (Decimal number) = refl
one_word (Hexadecimal number) = refl
one_word (Hexadecimal64 number) = refl
one_word (Digits bytes) = refl
one_word (Path names) = refl
one_word (Value value) = ap (join_with_byte 32) (append-nil (value_words value))

pub field_ascii : (field : Field) → CanPrint field → IsAscii (field_text field)
field_ascii field can =
    let each = lines_have_ascii ((field ∷ []) ∷ []) ((can, tt), tt) in
    subst IsAscii (one_word field) (is_ascii _ (each-front (λ byte. byte < 128) _ (10 ∷ []) (each-front (λ byte. byte < 128) _ [] each)))

-- and so is a string of JSON.
pub string_ascii : (bytes : List ℕ) → IsAscii (string_text bytes)
string_ascii bytes =
    let text = string_text bytes in
    subst IsAscii (append-nil text) (is_ascii (text ++ []) (printed_before text [] (json_printed (json_string bytes)) tt))
