use Rattle.std.proofs.Common.{◌≡◌, ℕ, ◌≤◌, true, false, not, List, [], ◌∷◌, ◌++◌, length, codes, Option, Some, None, refl, sym, ap, ap₂}
use Rattle.std.proofs.Common.{◌∙◌, nat_cmp, lit≤, arith, rules}
use Rattle.std.specs.Prelude.{ltb}
use Rattle.std.specs.List.{AllByRecursion, list_all}
use Rattle.std.specs.Cmp.Lexicographic.{slice_cmp}
use Rattle.std.specs.FinMap.{insert, empty, entries, from_entries, put, len-empty, len-entries, entries-insert, get-empty, get-from_entries}
use Rattle.std.proofs.lemmas.Cmp.{nat_list_cmp_total}
use Rattle.bi_base.specs.declared.align.Align.{Align}
use Rattle.bi_base.specs.Aligns.{align_bytes}
use Rattle.bi_base.specs.Cells.{cell, cell8, u32_at, up_to}
use Rattle.bi_base.proofs.AlignmentLaws.{IsAlignment-four}
use Rattle.bi_blob.specs.Tree.{Nodes, none, node, Root, Property, PropertyMap, with_each}
use Rattle.bi_blob.specs.Blob.{IsBlob}
use Rattle.bi_blob.specs.Layout.{text_of_tree, text_of_events, text_of_blocks, tree_with_places, tokens_of, structure_block, longest_text}
use Rattle.bi_blob.specs.Events.{events_of}
use Rattle.bi_base.specs.Limits.{widest}
use Rattle.bi_blob.specs.KnownTexts.{smallest_text, smallest_tree}
use Rattle.bi_blob.proofs.HeaderDecisions.{test, fine_by_test}
use Rattle.bi_blob.proofs.Blobs.Headers.{HasNoHeaderFault-Header}
use Rattle.bi_blob.proofs.Texts.Structure.{says_tree}
use Rattle.bi_blob.proofs.Texts.TextBlob.{text_blob}
use Rattle.bi_fit.specs.declared.form.Form.{Form}
use Rattle.bi_fit.specs.declared.form.Form.TheVariants.{Embedded, External, Aligned}
use Rattle.bi_fit.specs.File.{FitMeans}
use Rattle.bi_fit.specs.KnownFiles.{bare_file}
use Rattle.bi_fit.specs.Names.{is_payload_name, images_name, data_name, data_offset_name, data_position_name, data_size_name}
use Rattle.bi_fit.specs.ImageTree.{without_payload, without_payloads}
use Rattle.bi_fit.specs.Text.{alignment_of, blob_alignment, with_payload, with_payloads, end_after, normal_tree, blob_of, after_blob}
use Rattle.bi_fit.specs.Text.{payloads_after, fit_text}
use Rattle.bi_fit.specs.KnownFiles.{tree_with_images, plain_images, plain_tree, SmallestIsFit, NoneIsNotEmpty, only_data}
use Rattle.bi_fit.specs.KnownFiles.{nested_tree, nested_image_tree, OnlyImagesHavePayloads, UnusedHaveNoMeaning, region_of, shared_region}
use Rattle.bi_fit.specs.KnownFiles.{three_tree, ThreeImagesAreAligned, SharedRegionIsRepeated, ThreeImagesHaveTexts, ChildrenKeepOrder}
use Rattle.bi_fit.specs.KnownFiles.{PositionIsBeforeData}
use Rattle.bi_fit.specs.KnownFiles.{OffsetIsBeforeData, PositionIsBeforeOffset, PayloadsAreAligned, offset_file, OffsetIsFromAlignedEnd}
use Rattle.bi_fit.proofs.PayloadProperties.{taken_out}
use Rattle.bi_fit.proofs.BuiltTrees.{none_found}
use Rattle.bi_fit.proofs.TestedTrees.{is_tree, content_by_test}
use Rattle.bi_base.proofs.ByteLists.{bytes_by_test}

-- Small image trees have known texts and payloads: `data-position` comes before `data-offset` and both before `data`, and properties that
-- give no payload have no meaning.

-- Without bytes there are no entries.
pub no_entries : entries (empty {X = List ℕ} {R = slice_cmp nat_cmp}) ≡ []
no_entries = by_length (entries empty) (sym (len-entries empty) ∙ len-empty (slice_cmp nat_cmp) (List ℕ))
  where
    by_length : (properties : List Property) → length properties ≡ 0 → properties ≡ []
    by_length [] e = refl
    by_length (property ∷ later) e = absurd (omega arith)

-- The text of a tested tree, with bytes after it, is a blob of it.
pub blob_by_test : (root : Root (List Property)) (rest : List ℕ) → is_tree root ≡ true → list_all (λ byte. ltb byte 256) rest ≡ true →
    length (text_of_tree 4 0 [] root) ≤ longest_text → IsBlob (text_of_tree 4 0 [] root ++ rest) 0 [] (tree_with_places [] root)
blob_by_test root rest tree bytes short = text_blob 4 0 [] root rest IsAlignment-four (content_by_test root tree) short
    (bytes_by_test rest bytes)

-- Only properties of payloads leave none.
all_taken_out : (properties : List Property) → AllByRecursion (λ property. not (is_payload_name property.0) ≡ false) properties →
    without_payload (from_entries properties) ≡ empty
all_taken_out properties are =
    taken_out by_name empty (λ name is. get-empty (slice_cmp nat_cmp) name)
    (λ name is.
    get-from_entries nat_list_cmp_total properties name
    ∙ none_found (λ name. not (is_payload_name name)) name properties (ap not is) are
    ∙ sym (get-empty (slice_cmp nat_cmp) name))
  where
    by_name : PropertyMap
    by_name = from_entries properties

-- The properties that give a payload, in byte order.
abbrev listed_properties : (alignment : Option ℕ) → ℕ → Option (List ℕ) → List Property
listed_properties alignment begin None = []
listed_properties None begin (Some payload) = (data_name, payload) ∷ []
listed_properties (Some align) begin (Some payload) = (data_offset_name, cell begin) ∷ (data_size_name, cell (length payload)) ∷ []

entries_listed : (alignment : Option ℕ) (begin : ℕ) (payload : Option (List ℕ)) →
    entries (with_payload alignment begin payload empty) ≡ listed_properties alignment begin payload
entries_listed alignment begin None = no_entries
entries_listed None begin (Some payload) =
    entries-insert nat_list_cmp_total empty data_name payload ∙ ap (put (slice_cmp nat_cmp) data_name payload) no_entries
entries_listed (Some align) begin (Some payload) =
    entries-insert nat_list_cmp_total (insert empty data_offset_name (cell begin)) data_size_name (cell (length payload))
    ∙ ap (put (slice_cmp nat_cmp) data_size_name (cell (length payload)))
    (entries-insert nat_list_cmp_total empty data_offset_name (cell begin)
    ∙ ap (put (slice_cmp nat_cmp) data_offset_name (cell begin)) no_entries)

-- Image nodes that have no other properties, as lists.
abbrev listed_images : (alignment : Option ℕ) → ℕ → List (Option (List ℕ)) → List (List ℕ) → Nodes (List Property)
listed_images alignment end [] [] = none
listed_images alignment end [] (name ∷ names) = node name [] none (listed_images alignment end [] names)
listed_images alignment end (payload ∷ payloads) [] = none
listed_images alignment end (payload ∷ payloads) (name ∷ names) =
    node name (listed_properties alignment (up_to (blob_alignment alignment) end) payload) none
    (listed_images alignment (end_after (blob_alignment alignment) end payload) payloads names)

images_listed : (alignment : Option ℕ) (end : ℕ) (payloads : List (Option (List ℕ))) (names : List (List ℕ)) →
    with_each entries (with_payloads alignment end payloads (plain_images names)) ≡ listed_images alignment end payloads names
images_listed alignment end [] [] = refl
images_listed alignment end [] (name ∷ names) =
    ap₂ (λ own later. node name own none later) no_entries (images_listed alignment end [] names)
images_listed alignment end (payload ∷ payloads) [] = refl
images_listed alignment end (payload ∷ payloads) (name ∷ names) =
    ap₂ (λ own later. node name own none later) (entries_listed alignment (up_to (blob_alignment alignment) end) payload)
    (images_listed alignment (end_after (blob_alignment alignment) end payload) payloads names)

-- The blob of image nodes that have no other properties.
pub plain_blob : (form : Form) (names : List (List ℕ)) (payloads : List (Option (List ℕ))) →
    blob_of form (plain_tree names payloads)
    ≡ text_of_tree (blob_alignment (alignment_of form)) 0 [] (tree_with_images (listed_images (alignment_of form) 0 payloads names))
plain_blob form names payloads = search (rules, no_entries, images_listed)

-- The text of image nodes that have no other properties.
plain_text : (form : Form) (names : List (List ℕ)) (payloads : List (Option (List ℕ))) →
    fit_text form (plain_tree names payloads)
    ≡ text_of_tree (blob_alignment (alignment_of form)) 0 [] (tree_with_images (listed_images (alignment_of form) 0 payloads names))
    ++ after_blob form (plain_tree names payloads)
plain_text form names payloads = ap (λ blob. blob ++ after_blob form (plain_tree names payloads)) (plain_blob form names payloads)

pub smallest_is_fit : SmallestIsFit
unfolding text_of_events text_of_blocks cell cell8 u32_at
smallest_is_fit = record {
  means = record {
    root = tree_with_places [] smallest_tree;
    blob = blob_by_test smallest_tree [] refl refl (lit≤ tt);
    images = _;
    has_images = refl;
    payloads = tt;
    is_root = refl;
  };
  embedded = plain_text Embedded [] [];
  external = plain_text External [] [];
}

pub none_is_not_empty : NoneIsNotEmpty
unfolding text_of_events text_of_blocks cell cell8 u32_at
none_is_not_empty = record {
  bare_means = record {
    root = tree_with_places [] (tree_with_images (node (codes "a") [] none none));
    blob = blob_by_test (tree_with_images (node (codes "a") [] none none)) [] refl refl (lit≤ tt);
    images = _;
    has_images = refl;
    payloads = (refl, tt);
    is_root = ap one_image (sym (all_taken_out [] tt));
  };
  empty_means = record {
    root = tree_with_places [] (tree_with_images (node (codes "a") ((data_name, []) ∷ []) none none));
    blob = blob_by_test (tree_with_images (node (codes "a") ((data_name, []) ∷ []) none none)) [] refl refl (lit≤ tt);
    images = _;
    has_images = refl;
    payloads = (refl, tt);
    is_root = ap one_image (sym (all_taken_out ((data_name, []) ∷ []) (refl, tt)));
  };
  bare_embedded = plain_text Embedded (codes "a" ∷ []) (None ∷ []);
  bare_external = plain_text External (codes "a" ∷ []) (None ∷ []);
  empty_embedded = plain_text Embedded (codes "a" ∷ []) (Some [] ∷ []);
  bare_length = refl;
  empty_length = refl;
}
  where
    one_image : PropertyMap → Root PropertyMap
    one_image own = record { own = empty; children = node images_name empty (node (codes "a") own none none) none }

-- A root with these image nodes.
abbrev root_of_images : Nodes PropertyMap → Root PropertyMap
root_of_images images = record { own = empty; children = node images_name empty images none }

-- The image nodes of a file with three images.
abbrev three_nodes : (List Property) → (List Property) → (List Property) → Nodes (List Property)
three_nodes a b c = node (codes "a") a none (node (codes "b") b none (node (codes "c") c none none))

-- Three image nodes without the properties that give their payloads are plain ones.
pub three_plain : (a b c : List Property) → AllByRecursion (λ property. not (is_payload_name property.0) ≡ false) a →
    AllByRecursion (λ property. not (is_payload_name property.0) ≡ false) b →
    AllByRecursion (λ property. not (is_payload_name property.0) ≡ false) c →
    root_of_images (plain_images (codes "a" ∷ codes "b" ∷ codes "c" ∷ []))
    ≡ root_of_images (without_payloads (with_each from_entries (three_nodes a b c)))
three_plain a b c are_a are_b are_c = search (rules, all_taken_out)

pub three_images_have_texts : ThreeImagesHaveTexts
unfolding text_of_events text_of_blocks cell cell8 u32_at
three_images_have_texts = record {
  embedded_means = record {
    root = tree_with_places [] (tree_with_images
        (three_nodes ((data_name, codes "hello") ∷ []) ((data_name, []) ∷ []) ((data_name, codes "x") ∷ [])));
    blob = blob_by_test (tree_with_images
        (three_nodes ((data_name, codes "hello") ∷ []) ((data_name, []) ∷ []) ((data_name, codes "x") ∷ []))) [] refl refl (lit≤ tt);
    images = _;
    has_images = refl;
    payloads = (refl, (refl, (refl, tt)));
    is_root = three_plain ((data_name, codes "hello") ∷ []) ((data_name, []) ∷ []) ((data_name, codes "x") ∷ [])
        (refl, tt) (refl, tt) (refl, tt);
  };
  external_means = record {
    root = tree_with_places [] (tree_with_images (three_nodes (region_of 0 5) (region_of 8 0) (region_of 8 1)));
    blob = blob_by_test (tree_with_images (three_nodes (region_of 0 5) (region_of 8 0) (region_of 8 1)))
        (codes "hello" ++ 0 ∷ 0 ∷ 0 ∷ codes "x") refl refl (lit≤ tt);
    images = _;
    has_images = refl;
    payloads = (
      record { begin_cell = refl; size_cell = refl; in_file = lit≤ tt; is_slice = refl },
      (
        record { begin_cell = refl; size_cell = refl; in_file = lit≤ tt; is_slice = refl },
        (record { begin_cell = refl; size_cell = refl; in_file = lit≤ tt; is_slice = refl }, tt),
      ),
    );
    is_root = three_plain (region_of 0 5) (region_of 8 0) (region_of 8 1) (refl, (refl, tt)) (refl, (refl, tt)) (refl, (refl, tt));
  };
  embedded = plain_text Embedded (codes "a" ∷ codes "b" ∷ codes "c" ∷ []) (Some (codes "hello") ∷ Some [] ∷ Some (codes "x") ∷ []);
  external = plain_text External (codes "a" ∷ codes "b" ∷ codes "c" ∷ []) (Some (codes "hello") ∷ Some [] ∷ Some (codes "x") ∷ []);
  embedded_length = refl;
  external_blob = ap length (plain_blob External (codes "a" ∷ codes "b" ∷ codes "c" ∷ [])
      (Some (codes "hello") ∷ Some [] ∷ Some (codes "x") ∷ []));
  external_length = refl;
  places = refl;
}

-- A text of the three images with an alignment.
aligned_text : (form : Align) (align : ℕ) → align_bytes form ≡ align →
    fit_text (Aligned form) three_tree
    ≡ text_of_tree align 0 [] (tree_with_images (listed_images (Some align) 0 three_tree.payloads (codes "a" ∷ codes "b" ∷ codes "c" ∷ [])))
    ++ payloads_after (Some align) three_tree.payloads
aligned_text form align is =
    plain_text (Aligned form) (codes "a" ∷ codes "b" ∷ codes "c" ∷ []) three_tree.payloads
    ∙ ap (λ n. text_of_tree n 0 []
    (tree_with_images (listed_images (Some n) 0 three_tree.payloads (codes "a" ∷ codes "b" ∷ codes "c" ∷ [])))
    ++ payloads_after (Some n) three_tree.payloads) is

pub three_images_are_aligned : ThreeImagesAreAligned
unfolding text_of_events text_of_blocks cell cell8 u32_at
three_images_are_aligned = record {
  by_4 = record { is_text = λ form is. aligned_text form 4 is; is_total = refl; is_length = refl; places = refl };
  by_8 = record { is_text = λ form is. aligned_text form 8 is; is_total = refl; is_length = refl; places = refl };
  by_16 = record { is_text = λ form is. aligned_text form 16 is; is_total = refl; is_length = refl; places = refl };
  by_4096 = record { is_text = λ form is. aligned_text form 4096 is; is_total = refl; is_length = refl; places = refl };
  same = refl;
}

pub payloads_are_aligned : PayloadsAreAligned
unfolding text_of_events text_of_blocks cell cell8 u32_at
payloads_are_aligned = record {
  means = record {
    root = tree_with_places [] (tree_with_images (three_nodes (region_of 0 1) (region_of 4 0) (region_of 4 1)));
    blob = blob_by_test (tree_with_images (three_nodes (region_of 0 1) (region_of 4 0) (region_of 4 1)))
        (codes "x" ++ 0 ∷ 0 ∷ 0 ∷ codes "y") refl refl (lit≤ tt);
    images = _;
    has_images = refl;
    payloads = (
      record { begin_cell = refl; size_cell = refl; in_file = lit≤ tt; is_slice = refl },
      (
        record { begin_cell = refl; size_cell = refl; in_file = lit≤ tt; is_slice = refl },
        (record { begin_cell = refl; size_cell = refl; in_file = lit≤ tt; is_slice = refl }, tt),
      ),
    );
    is_root = three_plain (region_of 0 1) (region_of 4 0) (region_of 4 1) (refl, (refl, tt)) (refl, (refl, tt)) (refl, (refl, tt));
  };
  external = plain_text External (codes "a" ∷ codes "b" ∷ codes "c" ∷ []) (Some (codes "x") ∷ Some [] ∷ Some (codes "y") ∷ []);
  external_length = refl;
  places = refl;
  areas = refl;
}

-- Two image nodes without the properties that give their payloads are plain ones.
two_plain : (first second : List ℕ) (a b : List Property) → AllByRecursion (λ property. not (is_payload_name property.0) ≡ false) a →
    AllByRecursion (λ property. not (is_payload_name property.0) ≡ false) b →
    root_of_images (plain_images (first ∷ second ∷ []))
    ≡ root_of_images (without_payloads (with_each from_entries (node first a none (node second b none none))))
two_plain first second a b are_a are_b = search (rules, all_taken_out)

-- One image node without the properties that give its payload is a plain one.
pub one_plain : (name : List ℕ) (a : List Property) → AllByRecursion (λ property. not (is_payload_name property.0) ≡ false) a →
    root_of_images (plain_images (name ∷ [])) ≡ root_of_images (without_payloads (with_each from_entries (node name a none none)))
one_plain name a are = λ i. root_of_images (node name (sym (all_taken_out a are) i) none none)

-- The smallest file, and the one with an image without a payload, are within the widest limits.
pub smallest_means : FitMeans widest smallest_text (plain_tree [] [])
unfolding text_of_events text_of_blocks cell cell8 u32_at
smallest_means = record {
  is_file = record {
    root = tree_with_places [] smallest_tree;
    blob = blob_by_test smallest_tree [] refl refl (lit≤ tt);
    images = _;
    has_images = refl;
    payloads = tt;
    is_root = refl;
  };
  within = record { short = lit≤ tt; shallow = lit≤ tt };
}

pub bare_means : FitMeans widest bare_file (plain_tree (codes "a" ∷ []) (None ∷ []))
unfolding text_of_events text_of_blocks cell cell8 u32_at
bare_means = record {
  is_file = record {
    root = tree_with_places [] (tree_with_images (node (codes "a") [] none none));
    blob = blob_by_test (tree_with_images (node (codes "a") [] none none)) [] refl refl (lit≤ tt);
    images = _;
    has_images = refl;
    payloads = (refl, tt);
    is_root = one_plain (codes "a") [] tt;
  };
  within = record { short = lit≤ tt; shallow = lit≤ tt };
}

pub children_keep_order : ChildrenKeepOrder
unfolding text_of_events text_of_blocks cell cell8 u32_at
children_keep_order = record {
  means = record {
    root = tree_with_places [] (tree_with_images
        (node (codes "b") ((data_name, codes "x") ∷ []) none (node (codes "a") ((data_name, codes "y") ∷ []) none none)));
    blob = blob_by_test (tree_with_images
        (node (codes "b") ((data_name, codes "x") ∷ []) none
        (node (codes "a") ((data_name, codes "y") ∷ []) none none))) [] refl refl (lit≤ tt);
    images = _;
    has_images = refl;
    payloads = (refl, (refl, tt));
    is_root = two_plain (codes "b") (codes "a") ((data_name, codes "x") ∷ []) ((data_name, codes "y") ∷ []) (refl, tt) (refl, tt);
  };
  embedded = plain_text Embedded (codes "b" ∷ codes "a" ∷ []) (Some (codes "x") ∷ Some (codes "y") ∷ []);
}

-- The properties of the image of the file with `data-position`.
abbrev position_properties : List Property
position_properties = (data_name, codes "old") ∷ (data_position_name, cell 180) ∷ (data_size_name, cell 3) ∷ []

pub position_is_before_data : PositionIsBeforeData
unfolding text_of_events text_of_blocks cell cell8 u32_at
position_is_before_data = record {
  means = record {
    root = tree_with_places [] (tree_with_images (node (codes "a") position_properties none none));
    blob = blob_by_test (tree_with_images (node (codes "a") position_properties none none)) (codes "new") refl refl (lit≤ tt);
    images = _;
    has_images = refl;
    payloads = (record { begin_cell = refl; size_cell = refl; in_file = lit≤ tt; is_slice = refl }, tt);
    is_root = one_plain (codes "a") position_properties (refl, (refl, (refl, tt)));
  };
  embedded = plain_text Embedded (codes "a" ∷ []) (Some (codes "new") ∷ []);
  embedded_length = ap length (plain_text Embedded (codes "a" ∷ []) (Some (codes "new") ∷ []));
}

-- Those of an image with `data` and `data-offset`.
abbrev offset_properties : List Property
offset_properties = (data_name, codes "old") ∷ (data_offset_name, cell 0) ∷ (data_size_name, cell 3) ∷ []

pub offset_is_before_data : OffsetIsBeforeData
unfolding text_of_events text_of_blocks cell cell8 u32_at
offset_is_before_data = record {
  means = record {
    root = tree_with_places [] (tree_with_images (node (codes "a") offset_properties none none));
    blob = blob_by_test (tree_with_images (node (codes "a") offset_properties none none)) (codes "new") refl refl (lit≤ tt);
    images = _;
    has_images = refl;
    payloads = (record { begin_cell = refl; size_cell = refl; in_file = lit≤ tt; is_slice = refl }, tt);
    is_root = one_plain (codes "a") offset_properties (refl, (refl, (refl, tt)));
  };
}

-- Those of an image with all four.
abbrev all_properties : List Property
all_properties = (data_name, codes "old") ∷ (data_offset_name, cell 0) ∷ (data_position_name, cell 0) ∷ (data_size_name, cell 4) ∷ []

pub position_is_before_offset : PositionIsBeforeOffset
unfolding text_of_events text_of_blocks cell cell8 u32_at
position_is_before_offset = record {
  means = record {
    root = tree_with_places [] (tree_with_images (node (codes "a") all_properties none none));
    blob = blob_by_test (tree_with_images (node (codes "a") all_properties none none)) (codes "last") refl refl (lit≤ tt);
    images = _;
    has_images = refl;
    payloads = (record { begin_cell = refl; size_cell = refl; in_file = lit≤ tt; is_slice = refl }, tt);
    is_root = one_plain (codes "a") all_properties (refl, (refl, (refl, (refl, tt))));
  };
}

-- The tree of the file whose blob does not end at a multiple of four.
abbrev offset_root : Root (List Property)
offset_root = tree_with_images (node (codes "a") (region_of 0 3) none none)

-- This file is a blob of it.
offset_blob : IsBlob offset_file 0 [] (tree_with_places [] offset_root)
unfolding text_of_events text_of_blocks cell cell8 u32_at test
offset_blob = record {
  bytes = bytes_by_test offset_file refl;
  header = HasNoHeaderFault-Header widest offset_file (fine_by_test widest offset_file refl);
  is_cpu = refl;
  reserved = record { are_reservations = tt; trailing = _; is_at = refl };
  holds = record {
    tokens = tokens_of (events_of offset_root);
    structure = structure_block (events_of offset_root);
    trailing = [];
    is_at = refl;
    is_encoded = (says_tree 4 0 [] offset_root IsAlignment-four (content_by_test offset_root refl) (lit≤ tt)).is_encoded;
    encodes = (says_tree 4 0 [] offset_root IsAlignment-four (content_by_test offset_root refl) (lit≤ tt)).encodes;
    is_tree = (content_by_test offset_root refl).is_tree;
  };
}

pub offset_is_from_aligned_end : OffsetIsFromAlignedEnd
unfolding text_of_events text_of_blocks cell cell8 u32_at
offset_is_from_aligned_end = record {
  means = record {
    root = tree_with_places [] offset_root;
    blob = offset_blob;
    images = _;
    has_images = refl;
    payloads = (record { begin_cell = refl; size_cell = refl; in_file = lit≤ tt; is_slice = refl }, tt);
    is_root = one_plain (codes "a") (region_of 0 3) (refl, (refl, tt));
  };
  is_length = refl;
  embedded_length = ap length (plain_text Embedded (codes "a" ∷ []) (Some (codes "abc") ∷ []));
  external_blob = ap length (plain_blob External (codes "a" ∷ []) (Some (codes "abc") ∷ []));
  external_length = ap length (plain_text External (codes "a" ∷ []) (Some (codes "abc") ∷ []));
}

-- The tree of a file whose images share a region, where the first has its own.
abbrev shared_root : (offset size : ℕ) → Root (List Property)
shared_root offset size = tree_with_images (three_nodes (region_of offset size) (region_of 0 1000) (region_of 0 1000))

pub shared_region_is_repeated : SharedRegionIsRepeated
unfolding text_of_events text_of_blocks cell cell8 u32_at
shared_region_is_repeated = record {
  means = record {
    root = tree_with_places [] (shared_root 0 1000);
    blob = blob_by_test (shared_root 0 1000) shared_region refl refl (lit≤ tt);
    images = _;
    has_images = refl;
    payloads = (
      record { begin_cell = refl; size_cell = refl; in_file = lit≤ tt; is_slice = refl },
      (
        record { begin_cell = refl; size_cell = refl; in_file = lit≤ tt; is_slice = refl },
        (record { begin_cell = refl; size_cell = refl; in_file = lit≤ tt; is_slice = refl }, tt),
      ),
    );
    is_root = three_plain (region_of 0 1000) (region_of 0 1000) (region_of 0 1000) (refl, (refl, tt)) (refl, (refl, tt)) (refl, (refl, tt));
  };
  is_length = refl;
  embedded_length = ap length (plain_text Embedded (codes "a" ∷ codes "b" ∷ codes "c" ∷ [])
      (Some shared_region ∷ Some shared_region ∷ Some shared_region ∷ []));
  external_length = ap length (plain_text External (codes "a" ∷ codes "b" ∷ codes "c" ∷ [])
      (Some shared_region ∷ Some shared_region ∷ Some shared_region ∷ []));
  empty_at_end = record {
    root = tree_with_places [] (shared_root 1000 0);
    blob = blob_by_test (shared_root 1000 0) shared_region refl refl (lit≤ tt);
    images = _;
    has_images = refl;
    payloads = (
      record { begin_cell = refl; size_cell = refl; in_file = lit≤ tt; is_slice = refl },
      (
        record { begin_cell = refl; size_cell = refl; in_file = lit≤ tt; is_slice = refl },
        (record { begin_cell = refl; size_cell = refl; in_file = lit≤ tt; is_slice = refl }, tt),
      ),
    );
    is_root = three_plain (region_of 1000 0) (region_of 0 1000) (region_of 0 1000) (refl, (refl, tt)) (refl, (refl, tt)) (refl, (refl, tt));
  };
}

-- The nodes below the root in the meaning of the file with a deeper `images`, where its image node has these properties.
abbrev nested_nodes : PropertyMap → Nodes PropertyMap
nested_nodes own =
    node (codes "other") empty (node images_name empty (node (codes "n") (only_data (codes "o")) none none) none)
    (node images_name (only_data (codes "p"))
    (node (codes "a") own (node (codes "hash-1") (only_data (codes "s")) none none) none)
    none)

-- One property in byte order.
entries_data : (value : List ℕ) → entries (only_data value) ≡ (data_name, value) ∷ []
entries_data value = entries_listed None 0 (Some value)

-- The tree of the text is that of the file.
nested_normal : normal_tree Embedded nested_image_tree ≡ nested_tree
nested_normal = search (rules, entries_data, no_entries)

pub only_images_have_payloads : OnlyImagesHavePayloads
unfolding text_of_events text_of_blocks cell cell8 u32_at
only_images_have_payloads = record {
  means = record {
    root = tree_with_places [] nested_tree;
    blob = blob_by_test nested_tree [] refl refl (lit≤ tt);
    images = _;
    has_images = refl;
    payloads = (refl, tt);
    is_root = ap (λ own. record { own = only_data (codes "r"); children = nested_nodes own })
        (sym (all_taken_out ((data_name, codes "q") ∷ []) (refl, tt)));
  };
  embedded = ap (λ root. text_of_tree 4 0 [] root ++ []) nested_normal;
}

pub unused_have_no_meaning : UnusedHaveNoMeaning
unfolding text_of_events text_of_blocks cell cell8 u32_at
unused_have_no_meaning = record {
  size = record {
    root = tree_with_places [] (tree_with_images
        (node (codes "a") ((data_name, codes "abc") ∷ (data_size_name, codes "s") ∷ []) none none));
    blob = blob_by_test (tree_with_images
        (node (codes "a") ((data_name, codes "abc") ∷ (data_size_name, codes "s") ∷ []) none none)) [] refl refl (lit≤ tt);
    images = _;
    has_images = refl;
    payloads = (refl, tt);
    is_root = one_plain (codes "a") ((data_name, codes "abc") ∷ (data_size_name, codes "s") ∷ []) (refl, (refl, tt));
  };
  offset = record {
    root = tree_with_places [] (tree_with_images
        (node (codes "a") ((data_offset_name, codes "o") ∷ (data_position_name, cell 0) ∷ (data_size_name, cell 4) ∷ []) none none));
    blob = blob_by_test (tree_with_images
        (node (codes "a") ((data_offset_name, codes "o") ∷ (data_position_name, cell 0) ∷ (data_size_name, cell 4) ∷ []) none
        none)) [] refl refl (lit≤ tt);
    images = _;
    has_images = refl;
    payloads = (record { begin_cell = refl; size_cell = refl; in_file = lit≤ tt; is_slice = refl }, tt);
    is_root = one_plain (codes "a")
        ((data_offset_name, codes "o") ∷ (data_position_name, cell 0) ∷ (data_size_name, cell 4) ∷ []) (refl, (refl, (refl, tt)));
  };
}
