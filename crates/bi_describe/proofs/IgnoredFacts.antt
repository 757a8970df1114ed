use Rattle.std.proofs.Common.{◌≡◌, ◌≢◌, ℕ, Bool, true, false, List, [], ◌∷◌, ◌++◌, Contains, Option, None, Some, codes, inl, inr, lit≤}
use Rattle.std.proofs.Common.{lit<, map, refl, sym, ap, subst, ◌∙◌, true≢false}
use Rattle.std.specs.Fmt.{digits}
use Rattle.std.specs.List.{AllByRecursion, AllZip, slice_split}
use Rattle.std.specs.Prelude.{◌==◌}
use Rattle.bi_base.specs.Cells.{cell, cell8}
use Rattle.bi_base.proofs.ByteLists.{bytes_by_test}
use Rattle.bi_base.proofs.ListMembers.{Contains-first, Contains-others}
use Rattle.bi_blob.specs.Tree.{Nodes, none, node, Property, Root}
use Rattle.bi_fit.specs.Names.{images_name}
use Rattle.bi_fit.proofs.FileFacts.{no_entries}
use Rattle.bi_values.specs.ValueNames.{IsChildNameOfBytes}
use Rattle.bi_values.proofs.Steps.{path_begins}
use Rattle.bi_common.proofs.ReadableWords.Cuts.{begin_apart, later_same}
use Rattle.bi_describe.specs.ComparedNodes.{ComparedNode, ComparedPayload, ImageWith, NoImage}
use Rattle.bi_describe.specs.IgnoredWords.{AreNoPlainWords, IsBadIgnoredValue, IsNoPlainWord, IsNoWordWithPath, IsPlain, IsPlainWord}
use Rattle.bi_describe.specs.IgnoredWords.{ignored_text, payload_path}
use Rattle.bi_describe.specs.IgnoredWords.{path_in, place_path}
use Rattle.bi_describe.specs.Ignoring.{Ignored, IgnoredTime, IgnoredSignatures, IgnoredNode, IgnoredProperty, IgnoredPart, Inside, Itself}
use Rattle.bi_describe.specs.Ignoring.{OfImageNamed, OfPart, NodePlace, PayloadPlace, TreePlace}
use Rattle.bi_describe.specs.KnownIgnored.{IgnoredWordsAreKnown, LegacyThatStaysIsKnown, SameWithoutIsKnown, TreesThatStayAreKnown}
use Rattle.bi_describe.specs.KnownIgnored.{only_load, timestamp_alone}
use Rattle.bi_describe.specs.ReducedMeanings.{OfReducedLegacy, OfReducedTree, ReducedMeaning}
use Rattle.bi_describe.specs.WordParts.{IsNoPayload, IsNoPlace}
use Rattle.bi_describe.proofs.DescriptionFacts.{sorted_entries}
use Rattle.bi_describe.proofs.KeptProperties.{entries_kept}
use Rattle.bi_describe.proofs.ValueWords.{bad_ignored_value, no_plain_among}
use Rattle.bi_describe.proofs.WordTexts.{no_inner_payload, no_node_word}

-- What stays of small images is known, and so are the words for what is left out.

pub trees_that_stay_are_known : TreesThatStayAreKnown
unfolding digits cell cell8
trees_that_stay_are_known = record {
  all = rw (entries_kept, entries_kept, entries_kept, sorted_entries timestamp_alone tt, sorted_entries only_load tt, no_entries) refl;
  no_image = rw (entries_kept, entries_kept, sorted_entries timestamp_alone tt, no_entries) refl;
  no_images = rw (entries_kept, entries_kept, sorted_entries timestamp_alone tt, no_entries) refl;
  no_root = refl;
  no_property = rw (
    entries_kept,
    entries_kept,
    entries_kept,
    sorted_entries timestamp_alone tt,
    sorted_entries only_load tt,
    no_entries,
  ) refl;
  no_time = rw (entries_kept, entries_kept, entries_kept, sorted_entries timestamp_alone tt, sorted_entries only_load tt, no_entries) refl;
  no_signatures = rw (
    entries_kept,
    entries_kept,
    entries_kept,
    sorted_entries timestamp_alone tt,
    sorted_entries only_load tt,
    no_entries,
  ) refl;
  nothing = rw (entries_kept, entries_kept, entries_kept, sorted_entries timestamp_alone tt, sorted_entries only_load tt, no_entries) refl;
}

pub legacy_that_stays_is_known : LegacyThatStaysIsKnown
unfolding digits cell cell8
legacy_that_stays_is_known = record { all = refl; no_time = refl; no_part = refl }

-- ---- the same without something

-- The bytes of the first part.
abbrev first_of : List (ℕ × List ℕ) → List ℕ
first_of [] = []
first_of (part ∷ later) = part.1

abbrev first_part : ReducedMeaning → List ℕ
first_part (OfReducedLegacy image) = first_of image.parts
first_part (OfReducedTree tree) = []

-- The payload of the first image, if the tree begins with images.
abbrev pub payload_of_node : Nodes ComparedNode → ComparedPayload
payload_of_node none = NoImage
payload_of_node (node name own children later) = own.payload

abbrev pub children_of_first : Nodes ComparedNode → Nodes ComparedNode
children_of_first none = none
children_of_first (node name own children later) = children

abbrev pub payload_of_root : Option (Root ComparedNode) → ComparedPayload
payload_of_root None = NoImage
payload_of_root (Some root) = payload_of_node (children_of_first root.children)

abbrev pub first_payload : ReducedMeaning → ComparedPayload
first_payload (OfReducedLegacy image) = NoImage
first_payload (OfReducedTree tree) = payload_of_root tree.root

pub same_image_bytes : (one other : List ℕ) → ImageWith (Some one) ≡ ImageWith (Some other) → one ≡ other
same_image_bytes one other same = cc

-- The kind.
abbrev is_of_legacy : ReducedMeaning → Bool
is_of_legacy (OfReducedLegacy image) = true
is_of_legacy (OfReducedTree tree) = false

pub same_without_is_known : SameWithoutIsKnown
same_without_is_known = record {
  no_time = refl;
  no_part = refl;
  other_part = λ same. begin_apart 97 99 [] [] refl (ap first_part same);
  no_image = refl;
  payload = λ same. begin_apart 99 100 [] [] refl
      (later_same (later_same (same_image_bytes (codes "abc") (codes "abd") (ap first_payload same))));
  kinds = λ same. true≢false (ap is_of_legacy same);
}

-- ---- words

no_plain_word : (text : List ℕ) → codes "time" ≢ text → codes "signatures" ≢ text → IsNoPlainWord text
no_plain_word text no_time no_signatures word is = by word is.is_plain is.is
  where
    by : (word : Ignored) → IsPlain word → ignored_text word ≡ text → ⊥
    by IgnoredTime plain same = no_time same
    by IgnoredSignatures plain same = no_signatures same
    by (IgnoredNode place) plain same = plain
    by (IgnoredProperty place name) plain same = plain
    by (IgnoredPart index) plain same = plain

-- A word with a path begins with a slash or with `part-`.
module _ (text : List ℕ) (no_slash : (later : List ℕ) → text ≢ 47 ∷ later)
    (no_part : (later : List ℕ) → text ≢ codes "part-" ++ later) where
  no_place : IsNoPlace text
  no_place place is same = by place.tree place.names same
    where
      by : (tree : TreePlace) (names : List (List ℕ)) → path_in tree names ≡ text → ⊥
      by Itself names same = let begins = path_begins names in no_slash begins.0 (sym same ∙ begins.1)
      by (Inside (OfImageNamed name)) names same = no_slash _ (sym same)
      by (Inside (OfPart index)) names same = no_part _ (sym same)

  no_word : AllByRecursion (λ byte. byte ≢ 32) text → IsNoWordWithPath text
  no_word plain = no_node_word text plain (λ index small same. no_part _ (sym same)) no_place

-- A value is bad if one of its texts is not a word without a path.
bad_by : (value text : List ℕ) → Contains (slice_split (λ byte. byte == 44) value) text → IsNoPlainWord text → IsNoWordWithPath value →
    IsBadIgnoredValue value
bad_by value text has no_plain no_path =
    bad_ignored_value value (no_plain_among (slice_split (λ byte. byte == 44) value) text has no_plain) no_path

no_empty_word : IsNoPlainWord []
no_empty_word = no_plain_word [] (λ e. absurd cc) (λ e. absurd cc)

a_comma_b : IsChildNameOfBytes (codes "a,b")
a_comma_b = record {
  is_name = record {
    some = λ e. absurd cc;
    no_zero = (λ e. absurd cc, (λ e. absurd cc, (λ e. absurd cc, tt)));
    no_slash = (λ e. absurd cc, (λ e. absurd cc, (λ e. absurd cc, tt)));
  };
  bytes = bytes_by_test (codes "a,b") refl;
}

no_empty_payload : IsNoPayload []
no_empty_payload (OfImageNamed name) is same = absurd cc
no_empty_payload (OfPart index) small same = absurd cc

time_and_comma : (later : List ℕ) → AllByRecursion (λ byte. byte ≢ 32) later → AllByRecursion (λ byte. byte ≢ 32) (codes "time," ++ later)
time_and_comma later plain = (λ e. absurd cc, (λ e. absurd cc, (λ e. absurd cc, (λ e. absurd cc, (λ e. absurd cc, plain)))))

pub ignored_words_are_known : IgnoredWordsAreKnown
unfolding digits
ignored_words_are_known = record {
  property = refl;
  inside = refl;
  inside_root = refl;
  inside_part = refl;
  part = inr (record { word = IgnoredPart 0; is_word = record { has_path = lit< tt; is = refl }; are = refl });
  both = inl (record { is_plain = tt; is = refl }, (record { is_plain = tt; is = refl }, tt));
  root = inr (record {
    word = IgnoredNode (record { tree = Itself; names = [] });
    is_word = record { has_path = record { is_tree = tt; is_path = record { are_names = tt; few = lit≤ tt } }; is = refl };
    are = refl;
  });
  comma = inr (record {
    word = IgnoredNode (record { tree = Itself; names = codes "a,b" ∷ [] });
    is_word = record { has_path = record { is_tree = tt; is_path = record { are_names = (a_comma_b, tt); few = lit≤ tt } }; is = refl };
    are = refl;
  });
  empty_value = bad_by [] [] (Contains-first [] []) no_empty_word (no_word [] (λ later e. absurd cc) (λ later e. absurd cc) tt);
  other_word = bad_by (codes "nothing") (codes "nothing") (Contains-first (codes "nothing") [])
      (no_plain_word (codes "nothing") (λ e. begin_apart 116 110 _ _ refl e) (λ e. begin_apart 115 110 _ _ refl e))
      (no_word (codes "nothing") (λ later e. begin_apart 110 47 _ _ refl e) (λ later e. begin_apart 110 112 _ _ refl e)
      (λ e. absurd cc, (λ e. absurd cc, (λ e. absurd cc, (λ e. absurd cc, (λ e. absurd cc, (λ e. absurd cc, (λ e. absurd cc, tt))))))));
  no_last = bad_by (codes "time,") [] (Contains-others (codes "time") ([] ∷ []) [] (Contains-first [] [])) no_empty_word
      (no_word (codes "time,") (λ later e. begin_apart 116 47 _ _ refl e) (λ later e. begin_apart 116 112 _ _ refl e)
      (time_and_comma [] tt));
  path_after = bad_by (codes "time,/") (codes "/")
      (Contains-others (codes "time") (codes "/" ∷ []) (codes "/") (Contains-first (codes "/") []))
      (no_plain_word (codes "/") (λ e. begin_apart 116 47 _ _ refl e) (λ e. begin_apart 115 47 _ _ refl e))
      (no_word (codes "time,/") (λ later e. begin_apart 116 47 _ _ refl e) (λ later e. begin_apart 116 112 _ _ refl e)
      (time_and_comma (codes "/") (λ e. absurd cc, tt)));
  two_slashes = bad_by (codes "//") (codes "//") (Contains-first (codes "//") [])
      (no_plain_word (codes "//") (λ e. begin_apart 116 47 _ _ refl e) (λ e. begin_apart 115 47 _ _ refl e))
      (no_node_word (codes "//") (λ e. absurd cc, (λ e. absurd cc, tt)) (λ index small e. begin_apart 112 47 _ _ refl e)
      (no_inner_payload [] (codes "/") (record { rest = []; begins = refl; is = refl; first = refl }) no_empty_payload));
}
