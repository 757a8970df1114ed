use Rattle.std.proofs.Common.{◌≡◌, ◌++◌, ◌∷◌, [], ◌∙◌, ◌<◌, ◌≤◌, ◌^◌, ◌&&◌, ℕ, Bool, true, false, List, Some, None, length}
use Rattle.std.proofs.Common.{take, drop}
use Rattle.std.proofs.Common.{codes, bytes_eq, ap, refl, subst, sym, inl, inr, lit<, lit≤, arith}
use Rattle.std.specs.Prelude.{nat_lt}
use Rattle.std.specs.Bool.{Decides}
use Rattle.std.specs.Char.{digit_value}
use Rattle.std.specs.Str.Parse.{AllDigits, digits_value, IsNumeral}
use Rattle.std.proofs.lemmas.Bool.{true≢false}
use Rattle.std.proofs.lemmas.Bool.Decides.{Decides-and, Decides-ltb}
use Rattle.std.proofs.lemmas.Slice.Eq.{bytes_eq-Decides}
use Rattle.bi_show.specs.AllCodes.{code_of_name}
use Rattle.bootimg.specs.CodeWords.{given_names_of, IsCode, Named, Numbered}
use Rattle.bootimg.specs.CommandLine.{NoneIs}
use Rattle.bootimg.specs.KnownArguments.{CodesAreKnown, IsOnlyCode, IsOnlyLimit, IsOnlyNumber, LimitsAreKnown, NumbersAreKnown}
use Rattle.bootimg.specs.Numbers.{IsNumber}
use Rattle.bootimg.specs.declared.codes.CodeField.{CodeField}
use Rattle.bootimg.specs.declared.codes.CodeField.TheVariants.{Os, Arch, ImageType, Compression}

-- Small words are known numbers, codes and limits, or none.

-- ---- numbers

-- Whether a text is a number in a base, of at most 32 bits.
abbrev are_digits : (base : ℕ) → List ℕ → Bool
are_digits base [] = true
are_digits base (digit ∷ later) = nat_lt (digit_value digit) base && are_digits base later

abbrev is_numeral : (base : ℕ) → List ℕ → Bool
is_numeral base text = (nat_lt 0 (length text) && are_digits base text) && nat_lt (digits_value base text) (2 ^ 32)

are_digits_decides : (base : ℕ) (text : List ℕ) → Decides (are_digits base text) (AllDigits base text)
are_digits_decides base [] = ((λ e. tt), (λ all. refl))
are_digits_decides base (digit ∷ later) =
    Decides-and (nat_lt (digit_value digit) base) (are_digits base later) (Decides-ltb (digit_value digit) base)
    (are_digits_decides base later)

is_numeral_decides : (base : ℕ) (text : List ℕ) →
    Decides (is_numeral base text) (((0 < length text) × AllDigits base text) × (digits_value base text < 2 ^ 32))
is_numeral_decides base text =
    Decides-and (nat_lt 0 (length text) && are_digits base text) (nat_lt (digits_value base text) (2 ^ 32))
    (Decides-and (nat_lt 0 (length text)) (are_digits base text) (Decides-ltb 0 (length text)) (are_digits_decides base text))
    (Decides-ltb (digits_value base text) (2 ^ 32))

-- A text of decimal digits is the number that these say, and no other. It does not begin with `0x`.
pub decimal_digits : (text : List ℕ) → is_numeral 10 text ≡ true → bytes_eq (take 2 text) (codes "0x") ≡ false
    → IsOnlyNumber text (digits_value 10 text)
decimal_digits text holds plain =
    let is = (is_numeral_decides 10 text).0 holds in (
      record { written = inl (record { each = is.0; value = refl }); fits = is.1 },
      λ other is_other. elim is_other.written [
        | inl digits ↦ sym digits.value
        | inr hexadecimal ↦ absurd (begins plain hexadecimal.0 hexadecimal.1)
      ],
    )
  where
    begins : bytes_eq (take 2 text) (codes "0x") ≡ false → (digits : List ℕ) → text ≡ codes "0x" ++ digits → ⊥
    begins plain digits same =
        true≢false (sym ((bytes_eq-Decides (take 2 text) (codes "0x")).1 (ap (λ l. take 2 l) same)) ∙ plain)

-- Hexadecimal digits after `0x` are the number that they say, and no other.
pub hexadecimal_digits_after : (digits : List ℕ) → is_numeral 16 digits ≡ true
    → IsOnlyNumber (codes "0x" ++ digits) (digits_value 16 digits)
hexadecimal_digits_after digits holds =
    let is = (is_numeral_decides 16 digits).0 holds in (
      record { written = inr (digits, refl, record { each = is.0; value = refl }); fits = is.1 },
      λ other is_other. elim is_other.written [
        | inl decimal ↦ absurd (no_letter decimal.each.1)
        | inr hexadecimal ↦ sym hexadecimal.2.value ∙ ap (digits_value 16) (sym (ap (λ l. drop 2 l) hexadecimal.1))
      ],
    )
  where
    no_letter : AllDigits 10 (codes "0x" ++ digits) → ⊥
    no_letter all = omega (arith, all.1.0)

-- Any other text is not a number.
pub is_no_number : (text : List ℕ) → is_numeral 10 text ≡ false
    → (bytes_eq (take 2 text) (codes "0x") && is_numeral 16 (drop 2 text)) ≡ false
    → NoneIs (IsNumber text)
is_no_number text not_decimal not_hexadecimal number is = elim is.written [
  | inl decimal ↦
      let fits : digits_value 10 text < 2 ^ 32 = subst (λ n. n < 2 ^ 32) (sym decimal.value) is.fits in
      true≢false (sym ((is_numeral_decides 10 text).1 (decimal.each, fits)) ∙ not_decimal)
  | inr hexadecimal ↦
      let rest : drop 2 text ≡ hexadecimal.0 = ap (λ l. drop 2 l) hexadecimal.1 in
      let begins : take 2 text ≡ codes "0x" = ap (λ l. take 2 l) hexadecimal.1 in
      let value : digits_value 16 (drop 2 text) ≡ number = ap (digits_value 16) rest ∙ hexadecimal.2.value in
      let fits : digits_value 16 (drop 2 text) < 2 ^ 32 = subst (λ n. n < 2 ^ 32) (sym value) is.fits in
      let each : IsNumeral 16 (drop 2 text) = subst (IsNumeral 16) (sym rest) hexadecimal.2.each in
      true≢false
      (sym ((Decides-and (bytes_eq (take 2 text) (codes "0x")) (is_numeral 16 (drop 2 text))
      (bytes_eq-Decides (take 2 text) (codes "0x")) (is_numeral_decides 16 (drop 2 text))).1 (begins, (each, fits)))
      ∙ not_hexadecimal)
]

pub numbers_are_known : NumbersAreKnown
numbers_are_known = record {
  zero = decimal_digits (codes "0") refl refl;
  leading_zeros = decimal_digits (codes "007") refl refl;
  greatest = decimal_digits (codes "4294967295") refl refl;
  hexadecimal = hexadecimal_digits_after (codes "10") refl;
  both_cases = hexadecimal_digits_after (codes "aBcDeF") refl;
  greatest_hexadecimal = hexadecimal_digits_after (codes "0ffffffff") refl;
  no_bytes = is_no_number [] refl refl;
  no_digits = is_no_number (codes "0x") refl refl;
  other_prefix = is_no_number (codes "0X10") refl refl;
  plus = is_no_number (codes "+1") refl refl;
  plus_inside = is_no_number (codes "0x+1") refl refl;
  minus = is_no_number (codes "-1") refl refl;
  space = is_no_number (codes " 1") refl refl;
  underscore = is_no_number (codes "1_000") refl refl;
  letter = is_no_number (codes "1f") refl refl;
  other_letter = is_no_number (codes "0x1g") refl refl;
  past_greatest = is_no_number (codes "4294967296") refl refl;
  past_greatest_hexadecimal = is_no_number (codes "0x100000000") refl refl;
}

-- ---- codes

-- The name of a code is this code and no other.
pub code_with_name : (field : CodeField) (argument : List ℕ) (code : ℕ) → code_of_name (given_names_of field) argument ≡ Some code
    → IsOnlyCode field argument code
code_with_name field argument code is = (Named is, only) where
  only : (other : ℕ) → IsCode field argument other → other ≡ code
  only other (Named named) = let e : Some other ≡ Some code = sym named ∙ is in cc
  only other (Numbered none number small) = absurd (let e : None ≡ Some code = sym none ∙ is in cc)

-- A number that is not a name is this code and no other.
pub numbered_code : (field : CodeField) (argument : List ℕ) (code : ℕ) → code_of_name (given_names_of field) argument ≡ None
    → IsOnlyNumber argument code → code < 2 ^ 8 → IsOnlyCode field argument code
numbered_code field argument code none number small = (Numbered none number.0 small, only) where
  only : (other : ℕ) → IsCode field argument other → other ≡ code
  only other (Named named) = absurd (let e : None ≡ Some other = sym none ∙ named in cc)
  only other (Numbered no_name is_other fits) = number.1 other is_other

-- A word that is neither is not a code.
no_code : (field : CodeField) (argument : List ℕ) → code_of_name (given_names_of field) argument ≡ None
    → ((number : ℕ) → IsNumber argument number → ¬ (number < 2 ^ 8)) → NoneIs (IsCode field argument)
no_code field argument none too_large code (Named named) = absurd (let e : None ≡ Some code = sym none ∙ named in cc)
no_code field argument none too_large code (Numbered no_name number small) = too_large code number small

pub codes_are_known : CodesAreKnown
codes_are_known = record {
  name = code_with_name Os (codes "linux") 5 refl;
  zero = code_with_name Compression (codes "none") 0 refl;
  named_number = numbered_code Os (codes "5") 5 refl (decimal_digits (codes "5") refl refl) (lit< tt);
  other_number = numbered_code Arch (codes "0xff") 255 refl (hexadecimal_digits_after (codes "ff") refl) (lit< tt);
  past_greatest = no_code Os (codes "256") refl
      (λ number is small. omega (arith, small, (decimal_digits (codes "256") refl refl).1 number is));
  name_of_other_field = no_code Os (codes "arm") refl (λ number is small. is_no_number (codes "arm") refl refl number is);
  other_name = code_with_name Arch (codes "powerpc") 7 refl;
  name_that_says_nothing = no_code Arch (codes "invalid") refl
      (λ number is small. is_no_number (codes "invalid") refl refl number is);
  format_of_a_vendor = no_code ImageType (codes "imximage") refl
      (λ number is small. is_no_number (codes "imximage") refl refl number is);
  no_name = no_code Compression (codes "Gzip") refl (λ number is small. is_no_number (codes "Gzip") refl refl number is);
}

-- ---- limits

-- A number in range is this limit and no other.
pub limit_in_range : (argument : List ℕ) (limit : ℕ) → IsOnlyNumber argument limit → 64 ≤ limit → limit ≤ 0x7fffffff
    → IsOnlyLimit argument limit
limit_in_range argument limit number least most = (
  record { file = number.0; least = least; most = most; depth = refl },
  λ limits is. (λ i. record { file = number.1 limits.file is.file i; depth = is.depth i }),
)

pub limits_are_known : LimitsAreKnown
limits_are_known = record {
  least = limit_in_range (codes "64") 64 (decimal_digits (codes "64") refl refl) (lit≤ tt) (lit≤ tt);
  greatest = limit_in_range (codes "0x7fffffff") 2147483647 (hexadecimal_digits_after (codes "7fffffff") refl) (lit≤ tt) (lit≤ tt);
  below_least = λ limits is. omega (arith, is.least, (decimal_digits (codes "63") refl refl).1 limits.file is.file);
  past_greatest = λ limits is. omega (arith, is.most, (decimal_digits (codes "2147483648") refl refl).1 limits.file is.file);
  no_number = λ limits is. is_no_number (codes "1k") refl refl limits.file is.file;
}
