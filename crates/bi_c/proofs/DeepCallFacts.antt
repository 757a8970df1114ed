use Rattle.std.proofs.Common.{◌≡◌, ◌++◌, ◌∙◌, ◌≤◌, ◌<◌, ◌+◌, ◌*◌, ◌⊎◌, ℕ, Bool}
use Rattle.std.proofs.Common.{true, false, List, [], ◌∷◌, Contains, Option, None, Some, codes}
use Rattle.std.proofs.Common.{arith, ap, inl, inr, length, length-append, lit≤, map, refl, rules, subst, sym}
use Rattle.std.specs.Cmp.Lexicographic.{slice_cmp}
use Rattle.std.specs.Fmt.{digits}
use Rattle.std.specs.FinMap.{entries, from_entries, retain_keys, same_entries_map}
use Rattle.bi_base.specs.Cells.{cell, cell8, u32_at}
use Rattle.bi_base.specs.Limits.{widest}
use Rattle.bi_base.proofs.ListMembers.{Contains-cases, Contains-none, Contains-first}
use Rattle.bi_blob.specs.Layout.{text_of_blocks, text_of_events, tree_with_places}
use Rattle.bi_blob.specs.Tree.{Property, PropertyMap, none, node, tree_without_order}
use Rattle.bi_common.specs.KnownWords.{lines}
use Rattle.bi_common.specs.declared.format.Format.{Format}
use Rattle.bi_common.specs.declared.format.Format.TheVariants.{Lines, Json}
use Rattle.bi_common.specs.ValueTexts.{hexadecimal_digits}
use Rattle.bi_describe.specs.Comparing.{comparison_text}
use Rattle.bi_describe.specs.DeepComparing.{AreComparedDeepWithout, IsDescribedDeep}
use Rattle.bi_describe.specs.DeepDescribing.{CanBeDescribedDeep}
use Rattle.bi_describe.specs.DeepDescriptions.{deep_description, deep_lines}
use Rattle.bi_describe.specs.Devicetrees.{AreInside, DeepMeaning, Devicetree, HasInside, IsDevicetree}
use Rattle.bi_describe.specs.Differences.{line_bytes}
use Rattle.bi_describe.specs.Ignoring.{Ignored, OfImageNamed, PayloadPlace}
use Rattle.bi_describe.specs.KnownDeep.{inner_model, inside_one, only_model}
use Rattle.bi_describe.specs.KnownDescriptions.{sha256_digits}
use Rattle.bi_describe.specs.OpenedPayloads.{AreSameDeep, is_same_payload, tree_at_without, tree_without}
use Rattle.bi_describe.proofs.DifferenceFacts.{lines_of_texts}
use Rattle.bi_describe.proofs.KeptProperties.{entries_kept}
use Rattle.bi_describe.proofs.OneInside.{same_place}
use Rattle.bi_fit.specs.File.{FitMeans}
use Rattle.bi_fit.specs.ImageTree.{ImageTree}
use Rattle.bi_fit.specs.KnownFiles.{plain_tree, tree_with_images}
use Rattle.bi_fit.specs.Names.{data_name}
use Rattle.bi_fit.proofs.BuildFacts.{entries_in_order}
use Rattle.bi_fit.proofs.FileFacts.{blob_by_test, no_entries, one_plain}
use Rattle.bi_legacy.specs.Laws.{OneLegacyMeaning}
use Rattle.bi_norm.specs.Comparing.{MeansOnly}
use Rattle.bi_norm.specs.Meaning.{OfFit}
use Rattle.bi_norm.proofs.KindLaws.{one_file_meaning}
use Rattle.bi_c.specs.IgnoringCalls.{HasIgnoredWords}
use Rattle.bi_c.specs.KnownDeepCalls.{DeepCallsAreKnown, model_blob, model_file, model_root}
use Rattle.bi_c.specs.KnownElements.{region_at_offset}
use Rattle.bi_c.proofs.AnswerFacts.{widest_is_in_range}
use Rattle.std.proofs.Common.{nat_cmp}
use Rattle.bi_base.proofs.ByteLists.{bytes_by_test}
use Rattle.bi_describe.specs.ComparedNodes.{NoImage}
use Rattle.bi_describe.specs.ReducedMeanings.{ReducedTree}
use Rattle.bi_hash.specs.Digests.{digest_of}
use Rattle.bi_hash.specs.declared.algo.Algo.TheVariants.{Sha256}
use Rattle.bi_hash.proofs.DigestBytes.{length-digest_of}

-- What the deep calls return for small files with a devicetree inside is known.

-- The devicetree, and what the file means.
abbrev inner_tree : (value : List ℕ) → Devicetree
inner_tree value = record { cpu = 0; reservations = []; root = tree_without_order (model_root value) }

abbrev image_tree : (value : List ℕ) → ImageTree
image_tree value = plain_tree (codes "a" ∷ []) (Some (model_blob value) ∷ [])

abbrev at_a : PayloadPlace
at_a = OfImageNamed (codes "a")

abbrev deep_of_file : (value : List ℕ) → DeepMeaning
deep_of_file value = record { meaning = OfFit (image_tree value); insides = inside_one at_a (inner_tree value) }

-- Two letters are the models.
m_means : FitMeans widest (model_file (codes "m")) (image_tree (codes "m"))
unfolding text_of_events text_of_blocks cell cell8 u32_at
m_means = record {
  is_file = record {
    root = tree_with_places [] (tree_with_images (node (codes "a") ((data_name, model_blob (codes "m")) ∷ []) none none));
    blob = blob_by_test (tree_with_images (node (codes "a") ((data_name, model_blob (codes "m")) ∷ []) none none)) [] refl refl
        (lit≤ tt);
    images = _;
    has_images = refl;
    payloads = (refl, tt);
    is_root = one_plain (codes "a") ((data_name, model_blob (codes "m")) ∷ []) (refl, tt);
  };
  within = record { short = lit≤ tt; shallow = lit≤ tt };
}

n_means : FitMeans widest (model_file (codes "n")) (image_tree (codes "n"))
unfolding text_of_events text_of_blocks cell cell8 u32_at
n_means = record {
  is_file = record {
    root = tree_with_places [] (tree_with_images (node (codes "a") ((data_name, model_blob (codes "n")) ∷ []) none none));
    blob = blob_by_test (tree_with_images (node (codes "a") ((data_name, model_blob (codes "n")) ∷ []) none none)) [] refl refl
        (lit≤ tt);
    images = _;
    has_images = refl;
    payloads = (refl, tt);
    is_root = one_plain (codes "a") ((data_name, model_blob (codes "n")) ∷ []) (refl, tt);
  };
  within = record { short = lit≤ tt; shallow = lit≤ tt };
}

m_is_inside : IsDevicetree widest (model_blob (codes "m")) (inner_tree (codes "m"))
unfolding text_of_events text_of_blocks cell cell8 u32_at
m_is_inside = record {
  root = tree_with_places [] (model_root (codes "m"));
  blob = blob_by_test (model_root (codes "m")) [] refl refl (lit≤ tt);
  within = record { short = lit≤ tt; shallow = lit≤ tt };
  no_images = refl;
  is_root = refl;
}

n_is_inside : IsDevicetree widest (model_blob (codes "n")) (inner_tree (codes "n"))
unfolding text_of_events text_of_blocks cell cell8 u32_at
n_is_inside = record {
  root = tree_with_places [] (model_root (codes "n"));
  blob = blob_by_test (model_root (codes "n")) [] refl refl (lit≤ tt);
  within = record { short = lit≤ tt; shallow = lit≤ tt };
  no_images = refl;
  is_root = refl;
}

-- Nothing else is inside.
abbrev IsAsInside : (value : List ℕ) → PayloadPlace × List ℕ → Type 0
IsAsInside value pair = HasInside widest pair.1 (inside_one at_a (inner_tree value) pair.0)

abbrev payload_of : (value : List ℕ) → PayloadPlace × List ℕ
payload_of value = (at_a, model_blob value)

abbrev HasAt : (value : List ℕ) → PayloadPlace → List ℕ → Type 0
HasAt value place payload = Contains {X = PayloadPlace × List ℕ} (payload_of value ∷ []) (place, payload)

only_a : (value : List ℕ) → IsDevicetree widest (model_blob value) (inner_tree value) →
    AreInside widest (OfFit (image_tree value)) (inside_one at_a (inner_tree value))
only_a value is = record {
  each = λ place payload has. found place payload (Contains-cases (payload_of value) [] (place, payload) has);
  other = λ place nothing. by place (is_same_payload at_a place) refl nothing;
}
  where
    found : (place : PayloadPlace) (payload : List ℕ) →
        ((payload_of value ≡ (place, payload)) ⊎ Contains {X = PayloadPlace × List ℕ} [] (place, payload)) →
        IsAsInside value (place, payload)
    found place payload (inl same) = subst (IsAsInside value) same is
    found place payload (inr has) = absurd (Contains-none (place, payload) has)

    by : (place : PayloadPlace) (b : Bool) → is_same_payload at_a place ≡ b → ((payload : List ℕ) → ¬ (HasAt value place payload)) →
        inside_one at_a (inner_tree value) place ≡ None
    by place true same nothing =
        let has : HasAt value at_a (model_blob value) = Contains-first (payload_of value) [] in
        absurd (nothing (model_blob value) (subst (λ there. HasAt value there (model_blob value)) (same_place at_a place same) has))
    by place false other nothing = rw other refl

-- ---- the deep description

-- Each byte has two digits.
length-digits : (bytes : List ℕ) → length (hexadecimal_digits bytes) ≡ 2 * length bytes
length-digits [] = refl
length-digits (byte ∷ later) = omega (arith, length-digits later)

-- Each line has a newline.
abbrev length_with_newlines : List (List ℕ) → ℕ
length_with_newlines [] = 0
length_with_newlines (text ∷ later) = length text + 1 + length_with_newlines later

length-lines : (texts : List (List ℕ)) → length (lines texts) ≡ length_with_newlines texts
length-lines [] = refl
length-lines (text ∷ later) = length-append text (10 ∷ lines later) ∙ omega (arith, length-lines later)

-- The only property.
entries_of_model : (value : List ℕ) → entries (from_entries {R = slice_cmp nat_cmp} (only_model value)) ≡ only_model value
entries_of_model value = entries_in_order (only_model value)

abbrev payload_line : (value : List ℕ) → List ℕ
payload_line value = codes "payload /images/a size 96 sha256 " ++ sha256_digits (model_blob value)

abbrev texts_of_file : (value : List ℕ) → List (List ℕ)
texts_of_file value =
    codes "kind fit"
    ∷ codes "boot-cpu 0"
    ∷ codes "node /"
    ∷ codes "node /images"
    ∷ codes "node /images/a"
    ∷ payload_line value
    ∷ codes "inside /images/a boot-cpu 0"
    ∷ codes "node /images/a//"
    ∷ (codes "property /images/a// model \"" ++ (value ++ codes "\""))
    ∷ []

m_texts : map line_bytes (deep_lines (deep_of_file (codes "m"))) ≡ texts_of_file (codes "m")
unfolding digits text_of_events text_of_blocks cell cell8 u32_at
m_texts = simp (no_entries, entries_of_model (codes "m")) refl

n_texts : map line_bytes (deep_lines (deep_of_file (codes "n"))) ≡ texts_of_file (codes "n")
unfolding digits text_of_events text_of_blocks cell cell8 u32_at
n_texts = simp (no_entries, entries_of_model (codes "n")) refl

text_of_m : deep_description (deep_of_file (codes "m")) ≡ lines (texts_of_file (codes "m"))
text_of_m = lines_of_texts (deep_lines (deep_of_file (codes "m"))) ∙ ap lines m_texts

text_of_n : deep_description (deep_of_file (codes "n")) ≡ lines (texts_of_file (codes "n"))
text_of_n = lines_of_texts (deep_lines (deep_of_file (codes "n"))) ∙ ap lines n_texts

short_lines : (value : List ℕ) → length value ≤ 1000 → length (lines (texts_of_file value)) ≤ 0x7fffffff
short_lines value small =
    omega (
      arith,
      small,
      length-lines (texts_of_file value),
      length-append (codes "payload /images/a size 96 sha256 ") (sha256_digits (model_blob value)),
      length-digits (digest_of Sha256 (model_blob value)),
      length-digest_of Sha256 (model_blob value),
      length-append (codes "property /images/a// model \"") (value ++ codes "\""),
      length-append value (codes "\""),
    )

-- They can be described.
m_within : CanBeDescribedDeep Lines widest (deep_of_file (codes "m"))
unfolding text_of_events text_of_blocks cell cell8 u32_at
m_within = record {
  payloads = λ over. omega (arith, over);
  short = subst (λ text. length text ≤ 0x7fffffff) (sym text_of_m) (short_lines (codes "m") (lit≤ tt));
}

abbrev m_described : IsDescribedDeep widest (OfFit (image_tree (codes "m")))
m_described = record {
  insides = inside_one at_a (inner_tree (codes "m"));
  are_inside = only_a (codes "m") m_is_inside;
  within = m_within;
}

n_within : CanBeDescribedDeep Lines widest (deep_of_file (codes "n"))
unfolding text_of_events text_of_blocks cell cell8 u32_at
n_within = record {
  payloads = λ over. omega (arith, over);
  short = subst (λ text. length text ≤ 0x7fffffff) (sym text_of_n) (short_lines (codes "n") (lit≤ tt));
}

abbrev n_described : IsDescribedDeep widest (OfFit (image_tree (codes "n")))
n_described = record {
  insides = inside_one at_a (inner_tree (codes "n"));
  are_inside = only_a (codes "n") n_is_inside;
  within = n_within;
}

-- ---- the word

-- Without the property no model is left.
abbrev properties_of : (value : List ℕ) → PropertyMap
properties_of value = from_entries (only_model value)

no_model : (p : List ℕ → Bool) → p (codes "model") ≡ false →
    retain_keys (properties_of (codes "m")) p ≡ retain_keys (properties_of (codes "n")) p
no_model p out = same_entries_map _ _ (left (codes "m") ∙ sym (left (codes "n")))
  where
    left : (value : List ℕ) → entries (retain_keys (properties_of value) p) ≡ []
    left value = rw (entries_kept, entries_of_model value, out) refl

abbrev with_properties : PropertyMap → ReducedTree
with_properties properties = record {
  cpu = 0;
  reservations = [];
  root = Some (record { own = record { properties = properties; payload = NoImage }; children = none });
}

without_model : tree_without (inner_model ∷ []) at_a (inner_tree (codes "m"))
    ≡ tree_without (inner_model ∷ []) at_a (inner_tree (codes "n"))
without_model = ap with_properties (no_model _ refl)

same_trees : (payload : PayloadPlace) →
    tree_at_without (inner_model ∷ []) (inside_one at_a (inner_tree (codes "m"))) payload
    ≡ tree_at_without (inner_model ∷ []) (inside_one at_a (inner_tree (codes "n"))) payload
same_trees payload = by (is_same_payload at_a payload) refl
  where
    by : (b : Bool) → is_same_payload at_a payload ≡ b →
        tree_at_without (inner_model ∷ []) (inside_one at_a (inner_tree (codes "m"))) payload
        ≡ tree_at_without (inner_model ∷ []) (inside_one at_a (inner_tree (codes "n"))) payload
    by true is =
        rw is (ap Some
        (subst (λ payload. tree_without (inner_model ∷ []) payload (inner_tree (codes "m"))
        ≡ tree_without (inner_model ∷ []) payload (inner_tree (codes "n"))) (same_place at_a payload is) without_model))
    by false is = rw is refl

models_are_same : AreSameDeep (inner_model ∷ []) (deep_of_file (codes "m")) (deep_of_file (codes "n"))
models_are_same = record { rest = refl; trees = λ payload is. same_trees payload }

-- The word is in a region of an input.
inner_words : HasIgnoredWords 0x7fffffff 64 (codes "/images/a// model") (region_at_offset 0 17 ∷ []) (inner_model ∷ [])
inner_words = record {
  arguments = record { limits = widest_is_in_range; inside = (lit≤ tt, tt) };
  are_words = record {
    first = inner_model ∷ [];
    others = [];
    is_first = inr (record {
      word = inner_model;
      is_word = record {
        has_path = (
          record {
            is_tree = record {
              is_name = record { some = λ e. absurd cc; no_zero = (λ e. absurd cc, tt); no_slash = (λ e. absurd cc, tt) };
              bytes = bytes_by_test (codes "a") refl;
            };
            is_path = record { are_names = tt; few = lit≤ tt };
          },
          record {
            is_name = record {
              some = λ e. absurd cc;
              no_zero = (λ e. absurd cc, (λ e. absurd cc, (λ e. absurd cc, (λ e. absurd cc, (λ e. absurd cc, tt)))));
            };
            bytes = bytes_by_test (codes "model") refl;
          },
        );
        is = refl;
      };
      are = refl;
    });
    is_other = refl;
    are = refl;
  };
}

module _ (one_legacy : OneLegacyMeaning) where
  only_m : MeansOnly widest (model_file (codes "m")) (OfFit (image_tree (codes "m")))
  only_m = search (rules, m_means, one_file_meaning)

  only_n : MeansOnly widest (model_file (codes "n")) (OfFit (image_tree (codes "n")))
  only_n = search (rules, n_means, one_file_meaning)

  without : (format : Format) →
      AreComparedDeepWithout (record { words = inner_model ∷ []; quiet = false; format = format }) widest (model_file (codes "m"))
      (model_file (codes "n")) true (comparison_text format true [])
  without format = record {
    are = record {
      meaning = OfFit (image_tree (codes "m"));
      other_meaning = OfFit (image_tree (codes "n"));
      means = only_m;
      other_means = only_n;
    };
    differs = record {
      are = record { first = m_described; second = n_described };
      differs = record {
        is_same = (λ _. models_are_same, λ _. refl);
        lines = [];
        are_lines = refl;
        empty = (λ _. refl, λ _. refl);
        is_text = refl;
      };
    };
  }

  pub deep_calls_are_known : DeepCallsAreKnown
  deep_calls_are_known = record {
    described = record {
      limits = widest_is_in_range;
      is = record {
        deep = deep_of_file (codes "m");
        means = record { means = only_m; are_inside = only_a (codes "m") m_is_inside };
        within = m_within;
        is_text = sym text_of_m;
      };
      no_value = refl;
    };
    same = record { words = inner_model ∷ []; arguments = inner_words; same = true; number = refl; is = without Lines };
    same_json = record { words = inner_model ∷ []; arguments = inner_words; same = true; number = refl; is = without Json };
  }
