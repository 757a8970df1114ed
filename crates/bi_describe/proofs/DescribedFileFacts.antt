use Rattle.std.proofs.Common.{◌≡◌, ◌++◌, ◌↔◌, ◌≤◌, ◌<◌, ℕ, Bool, true, false, IsTrue, List, [], ◌∷◌, codes, length, None, refl, sym, ap}
use Rattle.std.proofs.Common.{subst}
use Rattle.std.proofs.Common.{◌∙◌, rules}
use Rattle.std.proofs.Common.{lit≤, true≢false, arith}
use Rattle.std.specs.Fmt.{digits}
use Rattle.bi_base.specs.Limits.{Limits, widest}
use Rattle.bi_blob.specs.KnownTexts.{smallest_text}
use Rattle.bi_fit.specs.ImageTree.{ImageTree}
use Rattle.bi_fit.specs.KnownFiles.{bare_file, plain_tree}
use Rattle.bi_fit.proofs.FileFacts.{bare_means, no_entries, smallest_means}
use Rattle.bi_legacy.specs.Laws.{OneLegacyMeaning}
use Rattle.bi_norm.specs.Comparing.{AreCompared, MeansOnly}
use Rattle.bi_norm.specs.Meaning.{Meaning, OfLegacy, OfFit}
use Rattle.bi_norm.proofs.KindLaws.{one_file_meaning}
use Rattle.bi_common.specs.declared.format.Format.{Format}
use Rattle.bi_common.specs.declared.format.Format.TheVariants.{Lines, Json}
use Rattle.bi_common.specs.KnownWords.{lines}
use Rattle.bi_common.specs.Lines.{Line, text_of_lines}
use Rattle.bi_describe.specs.declared.compare.signed_lines.Sign.TheVariants as sign
use Rattle.bi_describe.specs.Differences.{SignedLine}
use Rattle.bi_describe.specs.Comparing.{AreDifferent, AreTheSame, IsComparison, comparison}
use Rattle.bi_common.specs.PayloadBounds.{payloads_length}
use Rattle.bi_describe.specs.DescriptionJson.{description_json}
use Rattle.bi_describe.specs.Descriptions.{description_lines}
use Rattle.bi_describe.specs.Describing.{CanBeDescribed, IsDescription, description_text}
use Rattle.bi_describe.specs.KnownDescribedFiles.{ComparedTextsAreKnown, DescribedFilesAreKnown, IsOnlyDescription}
use Rattle.bi_describe.proofs.DifferenceFacts.{comparison_as, image_lines, tree_with}

-- Whole descriptions and comparisons of small files.

-- What the two files mean.
abbrev pub tree_of_smallest_text : ImageTree
tree_of_smallest_text = plain_tree [] []

abbrev pub tree_of_bare_file : ImageTree
tree_of_bare_file = plain_tree (codes "a" ∷ []) (None ∷ [])

-- Their lines.
abbrev smallest_lines : List Line
smallest_lines = tree_with [] [] []

abbrev bare_lines : List Line
bare_lines = tree_with [] [] (image_lines (codes "a"))

smallest_are : description_lines (OfFit tree_of_smallest_text) ≡ smallest_lines
smallest_are = rw no_entries refl

bare_are : description_lines (OfFit tree_of_bare_file) ≡ bare_lines
bare_are = rw no_entries refl

-- They can be described.
can_be : (tree : ImageTree) (lines : List Line) → description_lines (OfFit tree) ≡ lines → length (text_of_lines lines) ≤ 0x7fffffff →
    ¬ (0x7fffffff < payloads_length tree.payloads) → CanBeDescribed Lines widest (OfFit tree)
can_be tree lines are short few = search rules

-- How many images a meaning has.
abbrev pub image_count : Meaning → ℕ
image_count (OfLegacy image) = 0
image_count (OfFit tree) = length tree.payloads

-- What holds for the same is the same.
equal_values : (one other : Bool) (P Q : Type 0) → (P → Q) → (Q → P) → (IsTrue one ↔ P) → (IsTrue other ↔ Q) → one ≡ other
equal_values true true P Q there back is also = refl
equal_values false false P Q there back is also = refl
equal_values true false P Q there back is also = sym (also.1 (there (is.0 refl)))
equal_values false true P Q there back is also = is.1 (back (also.0 refl))

one_value : (format other_format : Format) (limits : Limits) (file other_file : List ℕ) (value other : Bool) (text other_text : List ℕ) →
    IsComparison format limits file other_file value text → IsComparison other_format limits file other_file other other_text →
    value ≡ other
one_value format other_format limits file other_file value other text other_text is also = search (rules, equal_values)

module _ (one_legacy : OneLegacyMeaning) where
  pub only_smallest : MeansOnly widest smallest_text (OfFit tree_of_smallest_text)
  only_smallest = search (rules, smallest_means, one_file_meaning)

  pub only_bare : MeansOnly widest bare_file (OfFit tree_of_bare_file)
  only_bare = search (rules, bare_means, one_file_meaning)

  are_same : AreCompared widest smallest_text smallest_text true
  are_same = search (rules, only_smallest)

  abbrev are_different : AreCompared widest smallest_text bare_file false
  are_different = record {
    meaning = OfFit tree_of_smallest_text;
    other_meaning = OfFit tree_of_bare_file;
    means = only_smallest;
    other_means = only_bare;
    is_same = (λ no. absurd (true≢false (sym no)), λ same. absurd (omega (arith, ap image_count same)));
  }

  abbrev pub new_lines : List SignedLine
  new_lines =
      record { sign = sign.Added; text = codes "node /images/a" }
      ∷ record { sign = sign.Added; text = codes "payload /images/a none" } ∷ []

  pub both_differ : new_lines ≡ comparison (OfFit tree_of_smallest_text) (OfFit tree_of_bare_file)
  unfolding digits
  both_differ = sym (comparison_as tree_of_smallest_text tree_of_bare_file smallest_are bare_are ∙ refl)

  pub small : CanBeDescribed Lines widest (OfFit tree_of_smallest_text)
  unfolding digits
  small = can_be tree_of_smallest_text smallest_lines smallest_are (lit≤ tt) (λ over. omega (arith, over))

  pub bare : CanBeDescribed Lines widest (OfFit tree_of_bare_file)
  unfolding digits
  bare = can_be tree_of_bare_file bare_lines bare_are (lit≤ tt) (λ over. omega (arith, over))

  pub compared_texts_are_known : ComparedTextsAreKnown
  compared_texts_are_known = record {
    same = record {
      compared = are_same;
      differs = record {
        lines = [];
        differences = AreTheSame refl;
        empty = (λ _. refl, λ _. refl);
        is_text = refl;
      };
    };
    same_json = record {
      compared = are_same;
      differs = record {
        lines = [];
        differences = AreTheSame refl;
        empty = (λ _. refl, λ _. refl);
        is_text = refl;
      };
    };
    different = record {
      compared = are_different;
      differs = record {
        lines = new_lines;
        differences = AreDifferent small bare both_differ;
        empty = (λ none. absurd cc, λ no. absurd (true≢false (sym no)));
        is_text = refl;
      };
    };
    different_json = record {
      compared = are_different;
      differs = record {
        lines = new_lines;
        differences = AreDifferent small bare both_differ;
        empty = (λ none. absurd cc, λ no. absurd (true≢false (sym no)));
        is_text = refl;
      };
    };
    no_sign = refl;
    signs = refl;
    one = one_value;
  }

  json_is : description_json (OfFit tree_of_smallest_text) ≡
      codes "{\"kind\":\"fit\",\"boot_cpu\":0,\"reservations\":[],\"root\":{\"properties\":[],"
      ++ lines (codes "\"children\":[{\"name\":\"images\",\"properties\":[],\"children\":[]}]}}" ∷ [])
  unfolding digits
  json_is = rw no_entries refl

  -- The file means nothing else, so it has no other description.
  only_text : (format : Format) (text : List ℕ) → CanBeDescribed format widest (OfFit tree_of_smallest_text) →
      description_text format (OfFit tree_of_smallest_text) ≡ text → IsOnlyDescription format smallest_text text
  only_text format text within is =
      let described : IsDescription format widest smallest_text text =
      record { meaning = OfFit tree_of_smallest_text; means = only_smallest; within = within; is_text = sym is } in
      record {
        is_output = described;
        is_text = described;
        only = λ other output.
            output.is_text ∙ ap (description_text format) (sym (output.means.only (OfFit tree_of_smallest_text) smallest_means)) ∙ is;
      }

  pub described_files_are_known : DescribedFilesAreKnown
  unfolding digits
  described_files_are_known = record {
    text = only_text Lines _ small (ap text_of_lines smallest_are ∙ refl);
    json = only_text Json _
        (record {
          payloads = λ over. omega (arith, over);
          short = subst (λ text. length text ≤ 0x7fffffff) (sym json_is) (lit≤ tt);
        })
        json_is;
  }
