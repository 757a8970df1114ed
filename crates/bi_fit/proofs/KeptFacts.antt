use Rattle.std.proofs.Common.{◌≡◌, ◌≢◌, ◌↔◌, ℕ, ◌/◌, ◌%◌, ◌≤◌, true, false, List, [], ◌∷◌, ◌++◌, codes, Option, Some, None, rules}
use Rattle.std.proofs.Common.{replicate, length, refl, sym, ap, subst, ◌∙◌, lit≤, true≢false, arith}
use Rattle.std.specs.List.{AllZip}
use Rattle.std.proofs.lemmas.Bool.{cases_lt}
use Rattle.bi_base.specs.Cells.{cell, cell8, u32_at}
use Rattle.bi_base.specs.Alignments.{IsAlignment}
use Rattle.bi_base.proofs.ByteLists.{bytes_by_test}
use Rattle.bi_blob.specs.Blob.{IsBlob}
use Rattle.bi_blob.specs.Layout.{text_of_events, text_of_blocks, tree_with_places}
use Rattle.bi_blob.specs.Tree.{Nodes, none, node, Root, Property, FileNode, tree_without_order, tree_without_places}
use Rattle.bi_blob.proofs.Texts.TextBlob.{text_blob}
use Rattle.bi_fit.specs.declared.form.Form.TheVariants.{External}
use Rattle.bi_fit.specs.declared.kept.Kept.{Kept}
use Rattle.bi_fit.specs.ImageTree.{ImageTree, image_nodes, nodes_or_none, each_own, tree_without_payloads}
use Rattle.bi_fit.specs.Names.{data_name, data_position_name, data_size_name}
use Rattle.bi_fit.specs.Payloads.{HasPayload}
use Rattle.bi_fit.specs.Kept.{PlacedPayload, IsPower, LosesAlignment, IsKeptOf, IsKeptOfFile, placed_payloads, places_of_nodes}
use Rattle.bi_fit.specs.KnownFiles.{plain_tree, position_file, tree_with_images, three_aligned, three_external, three_external_nodes}
use Rattle.bi_fit.specs.KnownFiles.{region_of, three_tree}
use Rattle.bi_fit.specs.KnownKept.{kept, moved_payload, KeptOfFilesIsKnown, KeptOfPayloadsIsKnown}
use Rattle.bi_fit.specs.Text.{blob_of, payload_places}
use Rattle.bi_fit.proofs.FileFacts.{blob_by_test, one_plain, plain_blob, three_images_have_texts, three_plain}
use Rattle.bi_fit.proofs.KeptPayloads.{alignment_lost}
use Rattle.bi_fit.proofs.PowersOfTwo.{le-half, power-small, smaller_divides}
use Rattle.bi_fit.proofs.TestedTrees.{content_by_test}

-- What texts keep of where the payloads of small files are.

-- ---- payloads by their offsets

-- A power that divides a number is at most the half of one that does not.
at_most_half : (twice other n : ℕ) → IsPower twice → n % twice ≢ 0 → IsPower other → n % other ≡ 0 → other ≤ twice / 2
at_most_half twice other n is_twice odd power whole = search (rules, cases_lt, smaller_divides, le-half)

-- What is said of payloads that lose an alignment, or that lose none.
abbrev lost : {placed : List PlacedPayload} {bytes : ℕ} → LosesAlignment placed bytes →
    (other : ℕ) → (Some bytes ≡ Some other) ↔ LosesAlignment placed other
lost {placed} {bytes} loses = alignment_lost placed (Some bytes) loses (λ none. absurd (true≢false none))

abbrev not_lost : {placed : List PlacedPayload} → ((bytes : ℕ) → ¬ (LosesAlignment placed bytes)) →
    (other : ℕ) → (None ≡ Some other) ↔ LosesAlignment placed other
not_lost {placed} without = alignment_lost placed None tt (λ none. without)

-- The same is said of the same.
same_lost : (one other : Option ℕ) (Loses : ℕ → Type 0) → ((n : ℕ) → (one ≡ Some n) ↔ Loses n) →
    ((n : ℕ) → (other ≡ Some n) ↔ Loses n) → one ≡ other
same_lost None None Loses by_one by_other = refl
same_lost (Some n) None Loses by_one by_other = sym ((by_other n).1 ((by_one n).0 refl))
same_lost one (Some n) Loses by_one by_other = (by_one n).1 ((by_other n).0 refl)

same_kept : (placed : List PlacedPayload) (one other : Kept) → IsKeptOf placed one → IsKeptOf placed other →
    (one.lost_alignment ≡ other.lost_alignment) × (one.lost_positions ≡ other.lost_positions)
same_kept placed one other by_one by_other = (
  same_lost one.lost_alignment other.lost_alignment (LosesAlignment placed) by_one.alignment by_other.alignment,
  by_one.positions ∙ sym by_other.positions,
)

pub kept_of_payloads_is_known : KeptOfPayloadsIsKnown
kept_of_payloads_is_known = record {
  eight = record {
    alignment = lost (record {
      is_alignment = record {
        is_power = record { exponent = 3; most = lit≤ tt; is_power = refl };
        divides = (refl, tt);
        greatest = λ other power all.
            at_most_half 16 other 8 (record { exponent = 4; most = lit≤ tt; is_power = refl }) (λ e. omega (arith, e)) power all.0;
      };
      is_lost = λ all. omega (arith, all.0);
    });
    positions = refl;
  };
  greatest = record {
    alignment = lost (record {
      is_alignment = record {
        is_power = record { exponent = 20; most = lit≤ tt; is_power = refl };
        divides = (refl, tt);
        greatest = λ other power all. power-small other power;
      };
      is_lost = λ all. omega (arith, all.0);
    });
    positions = refl;
  };
  no_greater = record {
    alignment = lost (record {
      is_alignment = record {
        is_power = record { exponent = 20; most = lit≤ tt; is_power = refl };
        divides = (refl, tt);
        greatest = λ other power all. power-small other power;
      };
      is_lost = λ all. omega (arith, all.0);
    });
    positions = refl;
  };
  least_of_two = record {
    alignment = lost (record {
      is_alignment = record {
        is_power = record { exponent = 12; most = lit≤ tt; is_power = refl };
        divides = (refl, (refl, tt));
        greatest = λ other power all.
            at_most_half 0x2000 other 0x3000 (record { exponent = 13; most = lit≤ tt; is_power = refl }) (λ e. omega (arith, e)) power
            all.1.0;
      };
      is_lost = λ all. omega (arith, all.1.0);
    });
    positions = refl;
  };
  kept_in_text = record {
    alignment = not_lost (λ bytes loses.
        let is = loses.is_alignment in
        let small : bytes ≤ 0x1000 =
        at_most_half 0x2000 bytes 0x3000 (record { exponent = 13; most = lit≤ tt; is_power = refl }) (λ e. omega (arith, e)) is.is_power
        is.divides.1.0 in
        let divides : (n : ℕ) → n % 0x1000 ≡ 0 → n % bytes ≡ 0 =
        λ n whole. smaller_divides bytes 0x1000 n is.is_power (record { exponent = 12; most = lit≤ tt; is_power = refl }) small whole in
        loses.is_lost (divides 0x4000 refl, (divides 0x1000 refl, tt)));
    positions = refl;
  };
  no_payload = record { alignment = not_lost (λ bytes loses. loses.is_lost tt); positions = refl };
  only = same_kept;
}

-- ---- files

IsAlignment-4096 : IsAlignment 4096
IsAlignment-4096 = record { exponent = 12; least = lit≤ tt; most = lit≤ tt; is_power = refl }

-- The image nodes of a tree.
abbrev nodes_in : Root (List Property) → Nodes FileNode
nodes_in root = nodes_or_none (image_nodes (tree_with_places [] root))

-- What is kept of the payloads that are placed is kept of the file, if the blob of the text has this length.
abbrev placed_in : (file : List ℕ) → Root (List Property) → ImageTree → (base : ℕ) → List PlacedPayload
placed_in file root tree base =
    placed_payloads (places_of_nodes file (nodes_in root)) tree.payloads (payload_places 4 base 0 tree.payloads)

kept_of : (file : List ℕ) (root : Root (List Property)) (tree : ImageTree) (base : ℕ) (said : Kept) →
    IsBlob file tree.cpu tree.reservations (tree_with_places [] root) → image_nodes (tree_with_places [] root) ≡ Some (nodes_in root) →
    AllZip (HasPayload file) (each_own (nodes_in root)) tree.payloads →
    tree.root ≡ tree_without_payloads (tree_without_order (tree_without_places (tree_with_places [] root))) →
    length (blob_of External tree) ≡ base → IsKeptOf (placed_in file root tree base) said → IsKeptOfFile file tree tree said
kept_of file root tree base said blob has payloads is_root long is = record {
  is_file = record {
    root = tree_with_places [] root;
    blob = blob;
    images = nodes_in root;
    has_images = has;
    payloads = payloads;
    is_root = is_root;
  };
  is_kept = subst (λ n. IsKeptOf (placed_in file root tree n) said) (sym long) is;
}

-- The trees of the files, and what the second means.
abbrev three_at : (offset : ℕ) → Root (List Property)
three_at offset = tree_with_images (three_external_nodes offset)

abbrev at_position : List Property
at_position = (data_name, codes "old") ∷ (data_position_name, cell 180) ∷ (data_size_name, cell 3) ∷ []

abbrev one_at : Root (List Property)
one_at = tree_with_images (node (codes "a") at_position none none)

abbrev one_new : ImageTree
one_new = plain_tree (codes "a" ∷ []) (Some (codes "new") ∷ [])

aligned_kept : IsKeptOf (moved_payload 4096 244 false ∷ moved_payload 8192 252 false ∷ []) (kept (Some 4096) 0)
aligned_kept = record {
  alignment = lost (record {
    is_alignment = record {
      is_power = record { exponent = 12; most = lit≤ tt; is_power = refl };
      divides = (refl, (refl, tt));
      greatest = λ other power all.
          at_most_half 8192 other 4096 (record { exponent = 13; most = lit≤ tt; is_power = refl }) (λ e. omega (arith, e)) power all.0;
    };
    is_lost = λ all. omega (arith, all.0);
  });
  positions = refl;
}

position_kept : IsKeptOf (moved_payload 180 156 true ∷ []) (kept None 1)
position_kept = record {
  alignment = not_lost (λ bytes loses.
      let is = loses.is_alignment in
      let small : bytes ≤ 4 =
      at_most_half 8 bytes 180 (record { exponent = 3; most = lit≤ tt; is_power = refl }) (λ e. omega (arith, e)) is.is_power
      is.divides.0 in
      loses.is_lost
      (smaller_divides bytes 4 156 is.is_power (record { exponent = 2; most = lit≤ tt; is_power = refl }) small refl, tt));
  positions = refl;
}

external_kept : IsKeptOf (moved_payload 244 244 false ∷ moved_payload 252 252 false ∷ []) (kept None 0)
external_kept = search rules

pub kept_of_files_is_known : KeptOfFilesIsKnown
unfolding text_of_events text_of_blocks cell cell8 u32_at
kept_of_files_is_known = record {
  aligned = kept_of (three_aligned 4096 4096) (three_at 4096) three_tree 244 (kept (Some 4096) 0)
      (text_blob 4096 0 [] (three_at 4096) (codes "hello" ++ (replicate 4091 0 ++ codes "x")) IsAlignment-4096
      (content_by_test (three_at 4096) refl) (lit≤ tt) (bytes_by_test (codes "hello" ++ (replicate 4091 0 ++ codes "x")) refl))
      refl (
        record { begin_cell = refl; size_cell = refl; in_file = lit≤ tt; is_slice = refl },
        (
          record { begin_cell = refl; size_cell = refl; in_file = lit≤ tt; is_slice = refl },
          (record { begin_cell = refl; size_cell = refl; in_file = lit≤ tt; is_slice = refl }, tt),
        ),
      )
      (three_plain (region_of 0 5) (region_of 4096 0) (region_of 4096 1) (refl, (refl, tt)) (refl, (refl, tt)) (refl, (refl, tt)))
      three_images_have_texts.external_blob aligned_kept;
  embedded = record { alignment = refl; positions = refl };
  still_aligned = λ align. record { alignment = refl; positions = refl };
  position = kept_of position_file one_at one_new 156 (kept None 1) (blob_by_test one_at (codes "new") refl refl (lit≤ tt)) refl
      (record { begin_cell = refl; size_cell = refl; in_file = lit≤ tt; is_slice = refl }, tt)
      (one_plain (codes "a") at_position (refl, (refl, (refl, tt))))
      (ap length (plain_blob External (codes "a" ∷ []) (Some (codes "new") ∷ []))) position_kept;
  nothing = kept_of three_external (three_at 8) three_tree 244 (kept None 0)
      (blob_by_test (three_at 8) (codes "hello" ++ 0 ∷ 0 ∷ 0 ∷ codes "x") refl refl (lit≤ tt)) refl (
        record { begin_cell = refl; size_cell = refl; in_file = lit≤ tt; is_slice = refl },
        (
          record { begin_cell = refl; size_cell = refl; in_file = lit≤ tt; is_slice = refl },
          (record { begin_cell = refl; size_cell = refl; in_file = lit≤ tt; is_slice = refl }, tt),
        ),
      )
      (three_plain (region_of 0 5) (region_of 8 0) (region_of 8 1) (refl, (refl, tt)) (refl, (refl, tt)) (refl, (refl, tt)))
      three_images_have_texts.external_blob external_kept;
}
