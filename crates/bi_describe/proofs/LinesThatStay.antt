use Rattle.std.proofs.Common.{◌≡◌, ℕ, ◌+◌, Bool, true, false, not, List, [], ◌∷◌, ◌++◌, filter, flat_map, map, refl, sym, ap, subst}
use Rattle.std.specs.Cmp.Lexicographic.{slice_cmp}
use Rattle.std.proofs.Common.{nat_cmp}
use Rattle.std.specs.FinMap.{entries}
use Rattle.std.specs.FinMap.Entries.{where_key}
use Rattle.std.specs.List.{AllByRecursion}
use Rattle.bi_base.proofs.ListMembers.{each-append, each-back, each-front}
use Rattle.bi_blob.specs.Tree.{Nodes, none, node, Property, Root}
use Rattle.bi_fit.specs.ImageTree.{ImageTree}
use Rattle.bi_legacy.specs.Meaning.{LegacyImage}
use Rattle.bi_norm.specs.Meaning.{Meaning, OfLegacy, OfFit}
use Rattle.bi_common.specs.CommonLines.{header_lines, reservation_line}
use Rattle.bi_common.specs.Lines.{Line}
use Rattle.bi_describe.specs.ComparedNodes.{ComparedNode, described_node, described_payload}
use Rattle.bi_describe.specs.Descriptions.{description_lines, digest_of_payload, fit_lines, head_lines, legacy_lines, node_lines, own_lines}
use Rattle.bi_describe.specs.Descriptions.{part_lines, payload_lines, plain_node, property_line, tree_lines}
use Rattle.bi_describe.specs.Ignoring.{Ignored, is_node_ignored, is_part_ignored, is_property_ignored, is_time_ignored}
use Rattle.bi_describe.specs.ReducedMeanings.{compared_root, fields_alone, kept_nodes, kept_own, kept_part, kept_root, kept_time}
use Rattle.bi_describe.specs.ReducedMeanings.{numbered_parts, meaning_without, reduced_header_lines, reduced_legacy, reduced_legacy_lines}
use Rattle.bi_describe.specs.ReducedMeanings.{reduced_lines, reduced_part_lines, reduced_root_lines, reduced_tree, reduced_tree_lines}
use Rattle.bi_describe.proofs.ComparedTrees.{as_described, nodes_described}
use Rattle.bi_describe.proofs.KeptProperties.{entries_kept}

-- What holds of each line of a description holds of each line that stays.

module _ (P : Line → Type 0) (words : List Ignored) where
  abbrev Each : List Line → Type 0
  Each lines = AllByRecursion P lines

  -- ---- trees

  properties_stay : (names : List (List ℕ)) (p : List ℕ → Bool) (properties : List Property) →
      Each (map (property_line names) properties) → Each (map (property_line names) (where_key (slice_cmp nat_cmp) p properties))
  properties_stay names p [] each = tt
  properties_stay names p (property ∷ later) each = by (p property.0) refl (properties_stay names p later each.1)
    where
      by : (b : Bool) → p property.0 ≡ b → Each (map (property_line names) (where_key (slice_cmp nat_cmp) p later)) →
          Each (map (property_line names) (where_key (slice_cmp nat_cmp) p (property ∷ later)))
      by true is after = rw is (each.0, after)
      by false is after = rw is after

  own_stays : (names : List (List ℕ)) (own : ComparedNode) → Each (own_lines names (described_node own)) →
      Each (own_lines names (described_node (kept_own words names own)))
  own_stays names own each =
      let payload : List Line = payload_lines names (described_payload own.payload) in
      let properties : List Line = map (property_line names) (entries own.properties) in
      let p : List ℕ → Bool = λ name. not (is_property_ignored words names name) in (
        each.0,
        each-append P payload _ (each-front P payload properties each.1)
            (subst (λ (kept : List Property). Each (map (property_line names) kept)) (sym (entries_kept own.properties p))
            (properties_stay names p (entries own.properties) (each-back P payload properties each.1))),
      )

  nodes_stay : (above : List (List ℕ)) (nodes : Nodes ComparedNode) → Each (node_lines above (as_described nodes)) →
      Each (node_lines above (as_described (kept_nodes words above nodes)))
  nodes_stay above none each = tt
  nodes_stay above (node name own children later) each =
      by (is_node_ignored words inner) refl (nodes_stay inner children (each-front P below after rest))
      (nodes_stay above later (each-back P below after rest))
    where
      inner : List (List ℕ)
      inner = above ++ name ∷ []

      own_ones : List Line
      own_ones = own_lines inner (described_node own)

      below : List Line
      below = node_lines inner (as_described children)

      after : List Line
      after = node_lines above (as_described later)

      rest : Each (below ++ after)
      rest = each-back P own_ones (below ++ after) each

      by : (b : Bool) → is_node_ignored words inner ≡ b → Each (node_lines inner (as_described (kept_nodes words inner children))) →
          Each (node_lines above (as_described (kept_nodes words above later))) →
          Each (node_lines above (as_described (kept_nodes words above (node name own children later))))
      by true is in_children in_later = rw is in_later
      by false is in_children in_later = rw is (each-append P (own_lines inner (described_node (kept_own words inner own))) _
          (own_stays inner own (each-front P own_ones (below ++ after) each))
          (each-append P (node_lines inner (as_described (kept_nodes words inner children))) _ in_children in_later))

  pub stays_of_root : (root : Root ComparedNode) →
      Each (own_lines [] (described_node root.own) ++ node_lines [] (as_described root.children)) →
      Each (reduced_root_lines (kept_root words root))
  stays_of_root root each = by (is_node_ignored words []) refl
    where
      own_ones : List Line
      own_ones = own_lines [] (described_node root.own)

      below : List Line
      below = node_lines [] (as_described root.children)

      by : (b : Bool) → is_node_ignored words [] ≡ b → Each (reduced_root_lines (kept_root words root))
      by true is = rw is tt
      by false is = rw is (each-append P (own_lines [] (described_node (kept_own words [] root.own))) _
          (own_stays [] root.own (each-front P own_ones below each)) (nodes_stay [] root.children (each-back P own_ones below each)))

  root_stays : (tree : ImageTree) → Each (tree_lines tree) →
      Each (reduced_root_lines (kept_root words (compared_root tree.root tree.payloads)))
  root_stays tree each =
      stays_of_root (compared_root tree.root tree.payloads)
      (subst (λ nodes. Each (own_lines [] (plain_node tree.root.own) ++ node_lines [] nodes))
      (sym (nodes_described tree.root.children tree.payloads)) each)

  tree_stays : (tree : ImageTree) → Each (fit_lines tree) → Each (reduced_tree_lines (reduced_tree words tree))
  tree_stays tree each =
      let reservations : List Line = map reservation_line tree.reservations in (
        each.0,
        (
          each.1.0,
          each-append P reservations _ (each-front P reservations (tree_lines tree) each.1.1)
              (root_stays tree (each-back P reservations (tree_lines tree) each.1.1)),
        ),
      )

  -- ---- legacy images

  parts_stay : (index : ℕ) (parts : List (List ℕ)) → Each (part_lines index (map digest_of_payload parts)) →
      Each (reduced_part_lines (flat_map (kept_part words) (numbered_parts index parts)))
  parts_stay index [] each = tt
  parts_stay index (part ∷ later) each = by (is_part_ignored words index) refl (parts_stay (index + 1) later each.1)
    where
      by : (b : Bool) → is_part_ignored words index ≡ b →
          Each (reduced_part_lines (flat_map (kept_part words) (numbered_parts (index + 1) later))) →
          Each (reduced_part_lines (flat_map (kept_part words) (numbered_parts index (part ∷ later))))
      by true is after = rw is after
      by false is after = rw is (each.0, after)

  header_stays : (image : LegacyImage) → Each (header_lines image) →
      Each (reduced_header_lines (fields_alone image) (kept_time words image.time))
  header_stays image each = by (is_time_ignored words) refl
    where
      by : (b : Bool) → is_time_ignored words ≡ b → Each (reduced_header_lines (fields_alone image) (kept_time words image.time))
      by true is = rw is (each.0, (each.1.0, each.1.1.1))
      by false is = rw is each

  legacy_stays : (image : LegacyImage) → Each (legacy_lines image) → Each (reduced_legacy_lines (reduced_legacy words image))
  legacy_stays image each =
      let header : List Line = header_lines image in
      let parts : List Line = part_lines 0 (map digest_of_payload image.parts) in
      each-append P (reduced_header_lines (fields_alone image) (kept_time words image.time)) _
      (header_stays image (each-front P header parts each)) (parts_stay 0 image.parts (each-back P header parts each))

  pub lines_stay : (meaning : Meaning) → Each (description_lines meaning) → Each (reduced_lines (meaning_without words meaning))
  lines_stay (OfLegacy image) each = legacy_stays image each
  lines_stay (OfFit tree) each = tree_stays tree each
