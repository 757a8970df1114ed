use Rattle.std.proofs.Common.{◌≡◌, ◌≢◌, ◌==◌, ◌∙◌, ◌++◌, ℕ, List, [], ◌∷◌, map, codes, lit<, refl, sym, subst, subst₂, true≢false}
use Rattle.std.specs.List.{AllZip, after_first}
use Rattle.bi_base.proofs.EqualBytes.{other_bytes}
use Rattle.clap.proofs.OnLiterals.{clap_on_literals}
use Rattle.bootimg.specs.CommandLine.{NoneIs, values_of}
use Rattle.bootimg.specs.ConfigurationWords.{name_of_word}
use Rattle.bootimg.specs.KnownBuildRequests.{NamedTextsAreKnown, OwnTextOptionsAreKnown, TextsOfNamesAreKnown}
use Rattle.bootimg.specs.KnownBuildRequests.{text_for_name, pairs_of, two_names}
use Rattle.bootimg.specs.OwnTexts.{AreDescriptions, AreNamedTexts, IsNamedText}
use Rattle.bootimg.specs.Program.{program_app}
use Rattle.bootimg.specs.declared.command_line.texts.NamedText.{NamedText}
use Rattle.bootimg.proofs.NamedTexts.{without_colon, nothing_after_colon, text_after_colon}
use Rattle.bootimg.proofs.OptionFacts.{found_values}

-- What small words give to one image or one configuration is known.

-- ---- words

-- The name and the text of a word.
abbrev pair_in : List ℕ → List ℕ × List ℕ
pair_in word = (name_of_word word, after_first (λ byte. byte == 58) word)

pair_of : (word : List ℕ) (named : NamedText) → IsNamedText word named → (named.name.now, named.text.now) ≡ pair_in word
pair_of word named is = λ i. (is.name i, text_after_colon word named is i)

pairs_are : (words : List (List ℕ)) (texts : List NamedText) → AllZip IsNamedText words texts → pairs_of texts ≡ map pair_in words
pairs_are [] [] are = refl
pairs_are [] (named ∷ texts) are = absurd are
pairs_are (word ∷ words) [] are = absurd are
pairs_are (word ∷ words) (named ∷ texts) are =
    let one = pair_of word named are.0 in
    let later = pairs_are words texts are.1 in
    λ i. one i ∷ later i

-- If a word is none, words are none.
no_first : (names : List (List ℕ)) (word : List ℕ) (later : List (List ℕ)) → NoneIs (IsNamedText word) →
    NoneIs (AreNamedTexts names (word ∷ later))
no_first names word later none [] are = are.each
no_first names word later none (named ∷ texts) are = none named are.each.0

no_second : (names : List (List ℕ)) (word other : List ℕ) (later : List (List ℕ)) → NoneIs (IsNamedText other) →
    NoneIs (AreNamedTexts names (word ∷ other ∷ later))
no_second names word other later none [] are = are.each
no_second names word other later none (named ∷ []) are = are.each.1
no_second names word other later none (named ∷ next ∷ texts) are = none next are.each.1.0

-- A word that is a text.
named_word : (word name text : List ℕ) → name ≡ name_of_word word → word ≡ name ++ (codes ":" ++ text) → text ≢ [] →
    IsNamedText word (text_for_name name text)
named_word word name text same is some = record { name = same; is = is; some = some }

pub named_texts_are_known : NamedTextsAreKnown
named_texts_are_known = record {
  none = (([], record { each = tt; known = tt }), λ texts are. pairs_are [] texts are.each);
  in_order = (
    (
      text_for_name (codes "b") (codes "x") ∷ text_for_name (codes "a") (codes "acme,one") ∷ text_for_name (codes "b") (codes "y:z") ∷ [],
      record {
        each = (
          named_word (codes "b:x") (codes "b") (codes "x") refl refl (λ e. absurd cc),
          (
            named_word (codes "a:acme,one") (codes "a") (codes "acme,one") refl refl (λ e. absurd cc),
            (named_word (codes "b:y:z") (codes "b") (codes "y:z") refl refl (λ e. absurd cc), tt),
          ),
        );
        known = (refl, (refl, (refl, tt)));
      },
    ),
    λ texts are. pairs_are (codes "b:x" ∷ codes "a:acme,one" ∷ codes "b:y:z" ∷ []) texts are.each,
  );
  descriptions = (
    (
      text_for_name (codes "b") (codes "x") ∷ text_for_name (codes "a") (codes ": ") ∷ [],
      record {
        texts = record {
          each = (
            named_word (codes "b:x") (codes "b") (codes "x") refl refl (λ e. absurd cc),
            (named_word (codes "a:: ") (codes "a") (codes ": ") refl refl (λ e. absurd cc), tt),
          );
          known = (refl, (refl, tt));
        };
        distinct = ((other_bytes (codes "a") (codes "b") refl, tt), (tt, tt));
      },
    ),
    λ texts are. pairs_are (codes "b:x" ∷ codes "a:: " ∷ []) texts are.texts.each,
  );
  no_colon = no_first two_names (codes "a") [] (without_colon (codes "a") refl);
  no_text = no_second two_names (codes "b:x") (codes "a:") [] (nothing_after_colon (codes "a:") (lit< tt) refl);
  other_name = λ texts are. true≢false (sym are.known.0);
  twice = λ texts are. are.distinct.0.1.0 refl;
}

pub texts_of_names_are_known : TextsOfNamesAreKnown
texts_of_names_are_known = record { first = refl; second = refl; none = refl; described = refl; not_described = refl }

-- ---- options

pub own_text_options_are_known : OwnTextOptionsAreKnown
unfolding program_app clap_on_literals
own_text_options_are_known = record {
  no_colon = λ options is texts are.
      let line = codes "build-fit --config a --compatible a" in
      let words : values_of options (codes "compatible") ≡ codes "a" ∷ [] =
      found_values line (codes "build-fit") options is (codes "compatible") ∙ refl in
      no_first (map name_of_word (values_of options (codes "config"))) (codes "a") [] (without_colon (codes "a") refl)
      texts.compatibles.items
      (subst (λ words. AreNamedTexts (map name_of_word (values_of options (codes "config"))) words texts.compatibles.items) words
      are.compatibles);
  no_text = λ options is texts are.
      let line = codes "build-fit --config a --compatible a:" in
      let words : values_of options (codes "compatible") ≡ codes "a:" ∷ [] =
      found_values line (codes "build-fit") options is (codes "compatible") ∙ refl in
      no_first (map name_of_word (values_of options (codes "config"))) (codes "a:") []
      (nothing_after_colon (codes "a:") (lit< tt) refl) texts.compatibles.items
      (subst (λ words. AreNamedTexts (map name_of_word (values_of options (codes "config"))) words texts.compatibles.items) words
      are.compatibles);
  no_configuration = λ options is texts are.
      let line = codes "build-fit --config a --compatible k:x k:kernel" in
      let words : values_of options (codes "compatible") ≡ codes "k:x" ∷ [] =
      found_values line (codes "build-fit") options is (codes "compatible") ∙ refl in
      let configurations : values_of options (codes "config") ≡ codes "a" ∷ [] =
      found_values line (codes "build-fit") options is (codes "config") ∙ refl in
      let bad = subst₂ (λ configurations words. AreNamedTexts (map name_of_word configurations) words texts.compatibles.items)
      configurations words are.compatibles in
      true≢false (sym bad.known.0);
  not_described = λ options is texts are.
      let line = codes "build-fit --config a --describe-config k:x k:kernel" in
      let words : values_of options (codes "describe-config") ≡ codes "k:x" ∷ [] =
      found_values line (codes "build-fit") options is (codes "describe-config") ∙ refl in
      let configurations : values_of options (codes "config") ≡ codes "a" ∷ [] =
      found_values line (codes "build-fit") options is (codes "config") ∙ refl in
      let bad = subst₂ (λ configurations words. AreDescriptions (map name_of_word configurations) words texts.configurations.items)
      configurations words are.configurations in
      true≢false (sym bad.texts.known.0);
  described_twice = λ options is texts are.
      let line = codes "build-fit --config a --describe-config a:x --describe-config a:x" in
      let words : values_of options (codes "describe-config") ≡ codes "a:x" ∷ codes "a:x" ∷ [] =
      found_values line (codes "build-fit") options is (codes "describe-config") ∙ refl in
      let bad = subst
      (λ words. AreDescriptions (map name_of_word (values_of options (codes "config"))) words texts.configurations.items) words
      are.configurations in
      bad.distinct.0.0 refl;
  no_image = λ options is texts are.
      let line = codes "build-fit --config a --describe-image a:x k:kernel" in
      let words : values_of options (codes "describe-image") ≡ codes "a:x" ∷ [] =
      found_values line (codes "build-fit") options is (codes "describe-image") ∙ refl in
      let images : values_of options (codes "images") ≡ codes "k:kernel" ∷ [] =
      found_values line (codes "build-fit") options is (codes "images") ∙ refl in
      let bad = subst₂ (λ images words. AreDescriptions (map name_of_word images) words texts.images.items) images words are.images in
      true≢false (sym bad.texts.known.0);
  image_twice = λ options is texts are.
      let line = codes "build-fit --describe-image k:x --describe-image k:y k:z" in
      let words : values_of options (codes "describe-image") ≡ codes "k:x" ∷ codes "k:y" ∷ [] =
      found_values line (codes "build-fit") options is (codes "describe-image") ∙ refl in
      let bad = subst (λ words. AreDescriptions (map name_of_word (values_of options (codes "images"))) words texts.images.items) words
      are.images in
      bad.distinct.0.0 refl;
}
