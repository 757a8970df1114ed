use Rattle.std.proofs.Common.{◌≡◌, ℕ, zero, suc, ◌+◌, ◌<◌, ◌^◌, List, [], ◌∷◌, ◌++◌, Option, None, Some, length, map, flat_map, refl, sym}
use Rattle.std.proofs.Common.{ap, ap₂, ◌∙◌, arith}
use Rattle.std.specs.Prelude.{unwrap_or}
use Rattle.std.specs.Fmt.{decimal}
use Rattle.std.specs.List.{AllByRecursion}
use Rattle.std.proofs.lemmas.Fmt.{decimal_injective}
use Rattle.bi_legacy.specs.Codes.{CodeName, os_names, arch_names, type_names, compression_names, name_of_code}
use Rattle.bi_legacy.specs.Meaning.{LegacyImage}
use Rattle.bi_legacy.specs.Text.{IsLegacyImage}
use Rattle.bi_common.specs.CommonLines.{code_word, named_field}
use Rattle.bi_common.specs.Lines.{Line, field_texts}
use Rattle.bi_common.specs.Shown.{Words}
use Rattle.bi_common.proofs.JsonSizes.{part_sizes_small}
use Rattle.bi_common.proofs.ReadableWords.Cuts.{first_same, later_same}
use Rattle.bi_common.proofs.ReadableWords.Lines.{CanReadLine}
use Rattle.bi_common.proofs.ReadableWords.Numbers.{same_hexadecimal}
use Rattle.bi_common.proofs.ReadableWords.ShownNames.{same_shown}
use Rattle.bi_describe.specs.DescriptionLaws.{AreSimilarImages}
use Rattle.bi_describe.specs.Descriptions.{PayloadDigest, digest_of_payload, legacy_lines, part_lines}
use Rattle.bi_describe.proofs.ReadableDescriptions.CodeWords.{code_bare, same_code}
use Rattle.bi_describe.proofs.ReadableDescriptions.Items.{same_digest}

-- Legacy images whose lines have the same words are similar.

-- ---- the words can be read back from the text

parts_can : (index : ℕ) (parts : List PayloadDigest) → AllByRecursion CanReadLine (part_lines index parts)
parts_can index [] = tt
parts_can index (part ∷ later) = ((refl, (tt, (refl, (tt, (refl, (tt, tt)))))), parts_can (index + 1) later)

pub legacy_lines_can : (image : LegacyImage) → AllByRecursion CanReadLine (legacy_lines image)
legacy_lines_can image = (
  (refl, (refl, tt)),
  (
    (refl, (tt, tt)),
    (
      (refl, (tt, tt)),
      (
        (refl, (tt, tt)),
        (
          (refl, (tt, tt)),
          (
            (refl, (code_bare os_names image.os refl, tt)),
            (
              (refl, (code_bare arch_names image.arch refl, tt)),
              (
                (refl, (code_bare type_names image.image_type refl, tt)),
                (
                  (refl, (code_bare compression_names image.compression refl, tt)),
                  parts_can 0 (map digest_of_payload image.parts),
                ),
              ),
            ),
          ),
        ),
      ),
    ),
  ),
)

-- ---- reading

abbrev words_of : List Line → List Words
words_of lines = map (flat_map field_texts) lines

abbrev lines_from : ℕ → List Words → List Words
lines_from zero lines = lines
lines_from (suc index) [] = []
lines_from (suc index) (words ∷ later) = lines_from index later

-- The word of a code.
word_is : (name : Option (List ℕ)) (code : ℕ) → field_texts (named_field name code) ++ [] ≡ unwrap_or name (decimal code) ∷ []
word_is None code = refl
word_is (Some name) code = refl

codes_same : (names : List CodeName) (m n : ℕ) →
    field_texts (named_field (name_of_code names m) m) ++ [] ≡ field_texts (named_field (name_of_code names n) n) ++ [] →
    code_word names m ≡ code_word names n
codes_same names m n same =
    first_same (sym (word_is (name_of_code names m) m) ∙ same ∙ word_is (name_of_code names n) n)

-- The words of a line after the first.
abbrev later_words : ℕ → List Words → Words
later_words index [] = []
later_words zero ((first ∷ words) ∷ later) = words
later_words zero (words ∷ later) = []
later_words (suc index) (words ∷ later) = later_words index later

parts_agree : (index : ℕ) (one other : List (List ℕ)) → AllByRecursion (λ (part : List ℕ). length part < 2 ^ 64) one →
    AllByRecursion (λ (part : List ℕ). length part < 2 ^ 64) other →
    words_of (part_lines index (map digest_of_payload one)) ≡ words_of (part_lines index (map digest_of_payload other)) →
    map digest_of_payload one ≡ map digest_of_payload other
parts_agree index [] [] small also same = refl
parts_agree index [] (b ∷ other) small also same = absurd cc
parts_agree index (a ∷ one) [] small also same = absurd cc
parts_agree index (a ∷ one) (b ∷ other) small also same =
    ap₂ (λ (digest : PayloadDigest) later. digest ∷ later)
    (same_digest (digest_of_payload a) (digest_of_payload b) small.0 also.0 (later_same (later_same (first_same same))))
    (parts_agree (index + 1) one other small.1 also.1 (later_same same))

pub similar_images : (one other : LegacyImage) → IsLegacyImage one → IsLegacyImage other → words_of (legacy_lines one)
    ≡ words_of (legacy_lines other) → AreSimilarImages one other
similar_images one other is also same = record {
  name = same_shown one.name other.name (first_same (ap (later_words 1) same));
  time = decimal_injective one.time other.time (wider is.ranges.time) (wider also.ranges.time) (first_same (ap (later_words 2) same));
  load = same_hexadecimal one.load other.load is.ranges.load also.ranges.load (first_same (ap (later_words 3) same));
  entry = same_hexadecimal one.entry other.entry is.ranges.entry also.ranges.entry (first_same (ap (later_words 4) same));
  os = same_code os_names one.os other.os refl is.ranges.os also.ranges.os (codes_same os_names one.os other.os (ap (later_words 5) same));
  arch = same_code arch_names one.arch other.arch refl is.ranges.arch also.ranges.arch
      (codes_same arch_names one.arch other.arch (ap (later_words 6) same));
  image_type = same_code type_names one.image_type other.image_type refl is.ranges.image_type also.ranges.image_type
      (codes_same type_names one.image_type other.image_type (ap (later_words 7) same));
  compression = same_code compression_names one.compression other.compression refl is.ranges.compression also.ranges.compression
      (codes_same compression_names one.compression other.compression (ap (later_words 8) same));
  parts = parts_agree 0 one.parts other.parts (part_sizes_small one is) (part_sizes_small other also) (ap (lines_from 9) same);
}
  where
    wider : {n : ℕ} → n < 2 ^ 32 → n < 2 ^ 64
    wider small = omega (arith, small)
