use Rattle.std.proofs.Common.{◌≡◌, ◌≤◌, ◌++◌, ◌∷◌, ℕ, [], List, Bool, true, false, IsTrue, Option, None, Some, codes, refl, sym, ap, ap₂}
use Rattle.std.proofs.Common.{append_assoc, lit≤, subst, ◌∙◌, arith, rules, true≢false}
use Rattle.std.specs.Fmt.{digits}
use Rattle.std.specs.FinMap.{entries, from_sorted, retain_keys, same_entries_map}
use Rattle.std.specs.Option.{option_map}
use Rattle.std.specs.Prelude.{if◌then◌else◌}
use Rattle.bi_base.specs.Cells.{cell, cell8, u32_at}
use Rattle.bi_base.specs.Limits.{widest}
use Rattle.bi_blob.specs.Blob.{lacks_structure_size}
use Rattle.bi_blob.specs.KnownTexts.{smallest_text}
use Rattle.bi_blob.specs.Layout.{text_of_blocks, text_of_events, tree_with_places}
use Rattle.bi_blob.specs.Tree.{Property, PropertyMap, Root, with_each}
use Rattle.bi_blob.proofs.Blobs.OneBlob.{one_blob}
use Rattle.bi_fit.specs.ImageTree.{children_of}
use Rattle.bi_fit.specs.Names.{images_name}
use Rattle.bi_fit.proofs.FileFacts.{blob_by_test, no_entries, smallest_means}
use Rattle.bi_common.proofs.ReadableWords.Cuts.{begin_apart}
use Rattle.bi_describe.specs.ComparedNodes.{ComparedNode, NoImage, plain_compared}
use Rattle.bi_common.specs.Lines.{Line}
use Rattle.bi_describe.specs.Comparing.{differences_or_reason}
use Rattle.bi_describe.specs.DeepDescriptions.{inside_cpu_line, inside_reservation_line, line_inside}
use Rattle.bi_describe.specs.Descriptions.{head_lines, node_line, property_line}
use Rattle.bi_describe.specs.Devicetrees.{Devicetree, IsDevicetree}
use Rattle.bi_describe.specs.Differences.{text_of_differences}
use Rattle.bi_describe.specs.IgnoredWords.{payload_path}
use Rattle.bi_describe.specs.Ignoring.{Ignored, IgnoredNode, IgnoredTime, OfImageNamed, PayloadPlace}
use Rattle.bi_describe.specs.KnownDeep.{DeepComparisonsAreKnown, DeepDescriptionsAreKnown, DevicetreesAreKnown, InsideKeysAreKnown}
use Rattle.bi_describe.specs.KnownDeep.{SameModels, deep_tree, inner_model, inner_node, inside_one, model_tree, only_load_address}
use Rattle.bi_describe.specs.KnownDeep.{only_model}
use Rattle.bi_describe.specs.KnownDeep.{small_tree}
use Rattle.bi_describe.specs.KnownIgnored.{image_a, inside_a}
use Rattle.bi_describe.specs.OpenedPayloads.{deep_lines_without, is_opened, is_same_payload, tree_at_without, tree_without, words_inside}
use Rattle.bi_describe.specs.ReducedMeanings.{ReducedTree, kept_nodes}
use Rattle.bi_describe.proofs.DescriptionFacts.{sorted_entries}
use Rattle.bi_describe.proofs.IgnoredFacts.{first_payload, same_image_bytes}
use Rattle.bi_describe.proofs.KeptProperties.{entries_kept}
use Rattle.bi_describe.proofs.OneInside.{same_place}
use Rattle.bi_describe.proofs.PlainDigits.{digest_written}

-- Small boot images with devicetrees inside are described and compared as is known.

pub deep_descriptions_are_known : DeepDescriptionsAreKnown
unfolding digits cell cell8
deep_descriptions_are_known = record {
  image = simp (no_entries, sorted_entries only_load_address tt, sorted_entries (only_model (codes "m")) tt) refl;
  part = rw (sorted_entries (only_model (codes "m")) tt, no_entries) refl;
  json = simp (
    no_entries,
    sorted_entries only_load_address tt,
    sorted_entries (only_model (codes "m")) tt,
    digest_written (codes "m"),
    append_assoc,
  ) refl;
}

pub inside_keys_are_known : InsideKeysAreKnown
inside_keys_are_known = search rules

-- ---- comparisons

abbrev at_a : PayloadPlace
at_a = OfImageNamed (codes "a")

-- The only devicetrees are compared.
at_one : (words : List Ignored) (one other : Devicetree) → tree_without words at_a one ≡ tree_without words at_a other →
    (payload : PayloadPlace) →
    tree_at_without words (inside_one at_a one) payload ≡ tree_at_without words (inside_one at_a other) payload
at_one words one other same payload = by (is_same_payload at_a payload) refl
  where
    by : (b : Bool) → is_same_payload at_a payload ≡ b →
        tree_at_without words (inside_one at_a one) payload ≡ tree_at_without words (inside_one at_a other) payload
    by true is =
        rw is (ap Some
        (subst (λ payload. tree_without words payload one ≡ tree_without words payload other) (same_place at_a payload is) same))
    by false is = rw is refl

-- Without the property they are the same.
abbrev properties_of_model : (value : List ℕ) → PropertyMap
properties_of_model value = from_sorted (only_model value)

no_model : (p : List ℕ → Bool) → p (codes "model") ≡ false →
    retain_keys (properties_of_model (codes "m")) p ≡ retain_keys (properties_of_model (codes "n")) p
no_model p out = same_entries_map _ _ (left (codes "m") ∙ sym (left (codes "n")))
  where
    left : (value : List ℕ) → entries (retain_keys (properties_of_model value) p) ≡ []
    left value = rw (entries_kept, sorted_entries (only_model value) tt, out) refl

abbrev with_properties : List Ignored → PropertyMap → ReducedTree
with_properties words properties = record {
  cpu = 3;
  reservations = record { address = 0x1000; size = 0x20 } ∷ [];
  root = Some (record {
    own = record { properties = properties; payload = NoImage };
    children = kept_nodes words [] (with_each plain_compared (model_tree []).root.children);
  });
}

without_model : tree_without (inner_model ∷ []) at_a (model_tree (codes "m"))
    ≡ tree_without (inner_model ∷ []) at_a (model_tree (codes "n"))
without_model = ap (with_properties (words_inside at_a (inner_model ∷ []))) (no_model _ refl)

-- The value of the first property of what stays of a tree.
abbrev first_of : List Property → List ℕ
first_of [] = []
first_of (property ∷ later) = property.1

abbrev value_of_root : Option (Root ComparedNode) → List ℕ
value_of_root None = []
value_of_root (Some root) = first_of (entries root.own.properties)

abbrev first_value : Option ReducedTree → List ℕ
first_value None = []
first_value (Some tree) = value_of_root tree.root

model_of : (value : List ℕ) →
    first_value (tree_at_without (inner_node ∷ []) (inside_one at_a (model_tree value)) at_a) ≡ value ++ 0 ∷ []
model_of value = rw (entries_kept, sorted_entries (only_model value) tt) refl

-- The lines that stay, if the payload is opened.
abbrev path_a : List ℕ
path_a = payload_path at_a

abbrev opened_lines : (value : List ℕ) → List Line
opened_lines value =
    head_lines 0
    ++ (node_line []
    ∷ node_line (images_name ∷ [])
    ∷ node_line (images_name ∷ codes "a" ∷ [])
    ∷ inside_cpu_line path_a 3
    ∷ inside_reservation_line path_a (record { address = 0x1000; size = 0x20 })
    ∷ line_inside path_a (node_line [])
    ∷ line_inside path_a (property_line [] (codes "model", value ++ 0 ∷ []))
    ∷ line_inside path_a (node_line (codes "chosen" ∷ []))
    ∷ line_inside path_a (node_line (codes "chosen" ∷ codes "-" ∷ []))
    ∷ property_line (images_name ∷ codes "a" ∷ []) (codes "load", 0 ∷ 0 ∷ 0 ∷ 2 ∷ [])
    ∷ [])

lines_opened : (value : List ℕ) →
    deep_lines_without (inner_node ∷ [])
    (is_opened (inner_node ∷ []) (deep_tree (codes "m")).insides (deep_tree (codes "n")).insides) (deep_tree value)
    ≡ opened_lines value
lines_opened value =
    simp (entries_kept, sorted_entries only_load_address tt, sorted_entries (only_model value) tt, no_entries) refl

pub deep_comparisons_are_known : DeepComparisonsAreKnown
unfolding digits cell cell8
deep_comparisons_are_known = record {
  model = record {
    rest = refl;
    trees = λ payload is. at_one (inner_model ∷ []) (model_tree (codes "m")) (model_tree (codes "n")) without_model payload;
  };
  root = record {
    rest = refl;
    trees = λ payload is. at_one (IgnoredNode (inside_a []) ∷ []) (model_tree (codes "m")) (model_tree (codes "n")) refl payload;
  };
  image = record { rest = refl; trees = λ payload is. absurd (true≢false (sym is)) };
  nothing = λ same. begin_apart 109 110 [] [] refl (same_image_bytes (codes "m") (codes "n") (ap first_payload same.rest));
  time = λ same. begin_apart 109 110 [] [] refl (same_image_bytes (codes "m") (codes "n") (ap first_payload same.rest));
  other_node = λ same.
      begin_apart 109 110 (0 ∷ []) (0 ∷ []) refl
      (sym (model_of (codes "m")) ∙ ap first_value (same.trees at_a refl) ∙ model_of (codes "n"));
  opened = ap₂ (λ (one other : List Line). text_of_differences (differences_or_reason one other)) (lines_opened (codes "m"))
      (lines_opened (codes "n")) ∙ refl;
}

-- ---- payloads that are no devicetrees

no_header : (b : Bool) → (if b then 36 else 40) ≤ 3 → ⊥
no_header true short = omega (arith, short)
no_header false short = omega (arith, short)

has_images : (tree : Devicetree) → IsDevicetree widest smallest_text tree → ⊥
has_images tree is =
    let file = smallest_means.is_file in
    let same = one_blob smallest_text tree.cpu _ tree.reservations _ is.root file.root is.blob file.blob in
    let none_there : children_of images_name is.root.children ≡ None = ap (option_map (λ found. found.children)) is.no_images in
    let gone : None ≡ Some file.images =
    sym none_there ∙ ap (λ root. children_of images_name root.children) same.same_root ∙ file.has_images in
    absurd cc

pub devicetrees_are_known : DevicetreesAreKnown
unfolding text_of_events text_of_blocks cell cell8 u32_at
devicetrees_are_known = record {
  tree = record {
    root = tree_with_places [] small_tree;
    blob = blob_by_test small_tree (codes "more") refl refl (lit≤ tt);
    within = record { short = lit≤ tt; shallow = lit≤ tt };
    no_images = refl;
    is_root = refl;
  };
  no_blob = λ tree is. no_header (lacks_structure_size (codes "abc")) is.blob.header.whole;
  image_tree = has_images;
}
