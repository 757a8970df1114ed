use Rattle.std.proofs.Common.{◌≡◌, ◌≢◌, ℕ, true, not, List, [], ◌∷◌, ◌++◌, codes, inl, inr, lit≤, refl, subst, true≢false}
use Rattle.std.specs.Prelude.{◌&&◌, ◌==◌, ltb}
use Rattle.std.specs.List.{AllByRecursion, list_all}
use Rattle.std.proofs.lemmas.Bool.{and_parts, eqb-false, not-true}
use Rattle.bi_base.proofs.ByteLists.{bytes_by_test}
use Rattle.bi_blob.specs.Tree.{HasNoZero}
use Rattle.bi_fit.specs.Names.{configurations_name, images_name}
use Rattle.bi_common.proofs.ReadableWords.Cuts.{HasNoEnd, begin_apart}
use Rattle.bi_common.proofs.ReadableWords.ShownNames.{is_blank, same_shown, shown_no_blank, some_shown}
use Rattle.bi_values.specs.KnownValues.{NameWordsAreKnown}
use Rattle.bi_values.specs.NameWords.{AreNoSteps, AreNoWords, IsNoChildName, IsNoPath}
use Rattle.bi_values.specs.ValueNames.{IsChildNameOfBytes, IsPropertyNameOfBytes}
use Rattle.bi_values.proofs.Steps.{no_path, no_path_steps}
use Rattle.bi_values.proofs.ValueWords.{no_field_found, no_field_word, no_name_word, no_property_words, no_words, value_words_are}

-- The words for the names of values are known.

-- ---- names

-- No byte is zero or a slash.
abbrev are_plain : List ℕ → Type 0
are_plain name = list_all (λ byte. not (byte == 0) && not (byte == 47)) name ≡ true

no_zero : (name : List ℕ) → are_plain name → HasNoZero name
no_zero [] passes = tt
no_zero (byte ∷ later) passes =
    let both = and_parts (not (byte == 0) && not (byte == 47)) (list_all (λ byte. not (byte == 0) && not (byte == 47)) later) passes in
    let first = and_parts (not (byte == 0)) (not (byte == 47)) both.0 in
    (eqb-false byte 0 (not-true (byte == 0) first.0), no_zero later both.1)

no_slash_in : (name : List ℕ) → are_plain name → AllByRecursion (λ byte. byte ≢ 47) name
no_slash_in [] passes = tt
no_slash_in (byte ∷ later) passes =
    let both = and_parts (not (byte == 0) && not (byte == 47)) (list_all (λ byte. not (byte == 0) && not (byte == 47)) later) passes in
    let first = and_parts (not (byte == 0)) (not (byte == 47)) both.0 in
    (eqb-false byte 47 (not-true (byte == 47) first.1), no_slash_in later both.1)

child_name : (byte : ℕ) (later : List ℕ) → are_plain (byte ∷ later) → list_all (λ byte. ltb byte 256) (byte ∷ later) ≡ true →
    IsChildNameOfBytes (byte ∷ later)
child_name byte later plain small = record {
  is_name = record { some = λ e. absurd cc; no_zero = no_zero (byte ∷ later) plain; no_slash = no_slash_in (byte ∷ later) plain };
  bytes = bytes_by_test (byte ∷ later) small;
}

property_name : (byte : ℕ) (later : List ℕ) → HasNoZero (byte ∷ later) → list_all (λ byte. ltb byte 256) (byte ∷ later) ≡ true →
    IsPropertyNameOfBytes (byte ∷ later)
property_name byte later nonzero small = record {
  is_name = record { some = λ e. absurd cc; no_zero = nonzero };
  bytes = bytes_by_test (byte ∷ later) small;
}

-- ---- no names

-- The words of a path and a name.
no_such_path : (text : List ℕ) → IsNoPath (47 ∷ text) → AreNoWords ((47 ∷ text) ∷ codes "x" ∷ [])
no_such_path text none =
    no_words ((47 ∷ text) ∷ codes "x" ∷ []) ((47 ∷ text) ∷ codes "x" ∷ []) [] tt refl (λ e. absurd cc)
    (no_property_words (47 ∷ text) (codes "x") [] text refl (inl none))

-- No child has an empty name, or one with a zero, or one that is printed with a blank.
no_child_without_name : IsNoChildName (codes "-")
no_child_without_name name is same = is.is_name.some (same_shown name [] same)

no_child_with_zero : IsNoChildName (codes "a%00")
no_child_with_zero name is same =
    let has = subst HasNoZero (same_shown name (97 ∷ 0 ∷ []) same) is.is_name.no_zero in has.1.0 refl

no_child_with_blank : IsNoChildName (codes "a b")
no_child_with_blank name is same =
    let has = subst (HasNoEnd is_blank) same (shown_no_blank name) in true≢false has.1.0

no_empty_child : IsNoChildName []
no_empty_child name is same = some_shown name same

-- A step that is not a name, alone after the first slash.
no_first_step : (step : List ℕ) → AllByRecursion (λ byte. byte ≢ 47) step → IsNoChildName step → AreNoSteps (47 ∷ (step ++ []))
no_first_step step plain none =
    no_path_steps (47 ∷ (step ++ [])) [] (47 ∷ (step ++ [])) step [] tt refl (record { is = refl; no_slash = plain; ends = tt }) none

-- ---- the facts

pub name_words_are_known : NameWordsAreKnown
name_words_are_known = record {
  two = value_words_are _ _ (
    (record { are_names = (images, (kernel, tt)); few = lit≤ tt }, property_name 108 (codes "oad") (no_zero (codes "load") refl) refl),
    (
      (
        record { are_names = (configurations, tt); few = lit≤ tt },
        property_name 100 (codes "efault") (no_zero (codes "default") refl) refl,
      ),
      tt,
    ),
  ) refl;
  root = value_words_are _ _
      ((record { are_names = tt; few = lit≤ tt }, property_name 109 (codes "odel") (no_zero (codes "model") refl) refl), tt) refl;
  shown = value_words_are _ _ (
    (
      record { are_names = (child_name 97 (codes " b") refl refl, (child_name 45 [] refl refl, tt)); few = lit≤ tt },
      property_name 112 (codes "/%") (λ e. absurd cc, (λ e. absurd cc, (λ e. absurd cc, tt))) refl,
    ),
    tt,
  ) refl;
  fields = value_words_are _ _ (tt, (tt, tt)) refl;
  image_type = refl;
  no_name = no_words (codes "/" ∷ []) (codes "/" ∷ []) [] tt refl (λ e. absurd cc) (no_name_word (codes "/") [] refl);
  two_slashes = no_such_path (codes "/") (no_path (codes "//") (λ e. absurd cc)
      (no_path_steps (codes "//") [] (codes "//") [] (codes "/") tt refl (record { is = refl; no_slash = tt; ends = refl })
      no_empty_child));
  last_slash = no_such_path (codes "a/") (no_path (codes "/a/") (λ e. absurd cc)
      (no_path_steps (codes "/a/") (codes "a" ∷ []) (codes "/") [] [] (child_name 97 [] refl refl, tt) refl
      (record { is = refl; no_slash = tt; ends = tt }) no_empty_child));
  no_child = no_such_path (codes "-") (no_path (codes "/-") (λ e. absurd cc)
      (no_first_step (codes "-") (no_slash_in (codes "-") refl) no_child_without_name));
  zero = no_such_path (codes "a%00") (no_path (codes "/a%00") (λ e. absurd cc)
      (no_first_step (codes "a%00") (no_slash_in (codes "a%00") refl) no_child_with_zero));
  blank = no_such_path (codes "a b") (no_path (codes "/a b") (λ e. absurd cc)
      (no_first_step (codes "a b") (no_slash_in (codes "a b") refl) no_child_with_blank));
  no_property = no_words (codes "/" ∷ codes "-" ∷ []) (codes "/" ∷ codes "-" ∷ []) [] tt refl (λ e. absurd cc)
      (no_property_words (codes "/") (codes "-") [] [] refl (inr (λ name is same. is.is_name.some (same_shown name [] same))));
  other_field = no_words (codes "size" ∷ []) (codes "size" ∷ []) [] tt refl (λ e. absurd cc)
      (no_field_word (codes "size") [] (λ rest e. begin_apart 115 47 (codes "ize") rest refl e) (no_field_found (codes "size") refl));
}
  where
    images : IsChildNameOfBytes images_name
    images = child_name 105 (codes "mages") refl refl

    kernel : IsChildNameOfBytes (codes "kernel-1")
    kernel = child_name 107 (codes "ernel-1") refl refl

    configurations : IsChildNameOfBytes configurations_name
    configurations = child_name 99 (codes "onfigurations") refl refl
