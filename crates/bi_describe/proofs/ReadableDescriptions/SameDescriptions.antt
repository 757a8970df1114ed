use Rattle.std.proofs.Common.{◌≡◌, ℕ, List, [], ◌∷◌, codes, flat_map, map, refl, sym, ap, subst, ◌∙◌}
use Rattle.std.specs.List.{AllByRecursion}
use Rattle.bi_base.specs.Limits.{Limits}
use Rattle.bi_base.proofs.EqualBytes.{other_bytes}
use Rattle.bi_fit.specs.ImageTree.{ImageTree}
use Rattle.bi_fit.proofs.TextLaws.{file_means_image_tree}
use Rattle.bi_legacy.proofs.ImageOfFile.{image_of_file}
use Rattle.bi_norm.specs.Meaning.{Meaning, OfLegacy, OfFit, Means}
use Rattle.bi_common.specs.declared.format.Format.TheVariants.{Lines, Json}
use Rattle.bi_common.specs.Lines.{field_texts}
use Rattle.bi_common.proofs.ReadableWords.Cuts.{first_same, later_same}
use Rattle.bi_common.proofs.ReadableWords.Lines.{CanReadLine, same_words}
use Rattle.bi_describe.specs.DescriptionJson.{meaning_object}
use Rattle.bi_describe.specs.DescriptionLaws.{AreSimilar, SameDescriptionIsSimilar}
use Rattle.bi_describe.specs.Descriptions.{description_lines, fit_lines}
use Rattle.bi_describe.proofs.JsonDescriptions.{can_read}
use Rattle.bi_describe.proofs.JsonReading.{same_json}
use Rattle.bi_describe.proofs.ReadableDescriptions.Items.{Item, item_can, item_line, same_items}
use Rattle.bi_describe.proofs.ReadableDescriptions.ItemTrees.{items_of_nodes, same_parts, tree_lined, tree_readable}
use Rattle.bi_describe.proofs.ReadableDescriptions.SameImages as lines
use Rattle.bi_describe.proofs.ReadableDescriptions.SameJson as json
use Rattle.bi_describe.proofs.ReadableDescriptions.SameTrees.{similar_parts}

-- Files with one description, in one form, have similar meanings.

items_can : (items : List Item) → AllByRecursion CanReadLine (map item_line items)
items_can [] = tt
items_can (item ∷ later) = (item_can item, items_can later)

tree_can : (tree : ImageTree) → AllByRecursion CanReadLine (fit_lines tree)
tree_can tree = subst (AllByRecursion CanReadLine) (tree_lined tree) (items_can (items_of_nodes tree))

each_can : (meaning : Meaning) → AllByRecursion CanReadLine (description_lines meaning)
each_can (OfLegacy image) = lines.legacy_lines_can image
each_can (OfFit tree) = tree_can tree

-- Meanings whose lines have the same words are similar.
similar : (limits other_limits : Limits) (file other_file : List ℕ) (one other : Meaning) → Means limits file one →
    Means other_limits other_file other → map (flat_map field_texts) (description_lines one)
    ≡ map (flat_map field_texts) (description_lines other) → AreSimilar one other
similar limits other_limits file other_file (OfLegacy one) (OfLegacy other) means also same =
    lines.similar_images one other (image_of_file file one means.is_file) (image_of_file other_file other also.is_file) same
similar limits other_limits file other_file (OfLegacy one) (OfFit other) means also same =
    other_bytes (codes "legacy") (codes "fit") refl (first_same (later_same (first_same same)))
similar limits other_limits file other_file (OfFit one) (OfLegacy other) means also same =
    other_bytes (codes "fit") (codes "legacy") refl (first_same (later_same (first_same same)))
similar limits other_limits file other_file (OfFit one) (OfFit other) means also same =
    similar_parts file other_file one other means.is_file also.is_file
    (same_parts one other (same_items (items_of_nodes one) (items_of_nodes other) (tree_readable file one means.is_file)
    (tree_readable other_file other also.is_file)
    (ap (map (flat_map field_texts)) (tree_lined one) ∙ same ∙ sym (ap (map (flat_map field_texts)) (tree_lined other)))))

-- So are those with one value of JSON.
similar_json : (limits other_limits : Limits) (file other_file : List ℕ) (one other : Meaning) → Means limits file one →
    Means other_limits other_file other → meaning_object one ≡ meaning_object other → AreSimilar one other
similar_json limits other_limits file other_file (OfLegacy one) (OfLegacy other) means also same =
    json.similar_objects one other (image_of_file file one means.is_file).ranges (image_of_file other_file other also.is_file).ranges same
similar_json limits other_limits file other_file (OfLegacy one) (OfFit other) means also same = json.kinds_apart one other same
similar_json limits other_limits file other_file (OfFit one) (OfLegacy other) means also same = json.kinds_apart other one (sym same)
similar_json limits other_limits file other_file (OfFit one) (OfFit other) means also same =
    similar_parts file other_file one other means.is_file also.is_file
    (json.same_tree_parts one other (file_means_image_tree file one means.is_file).are_reservations
    (file_means_image_tree other_file other also.is_file).are_reservations same)

pub same_description_is_similar : SameDescriptionIsSimilar
same_description_is_similar Lines limits other_limits file other_file one other means also same =
    similar limits other_limits file other_file one other means also
    (same_words (description_lines one) (description_lines other) (each_can one) (each_can other) same)
same_description_is_similar Json limits other_limits file other_file one other means also same =
    similar_json limits other_limits file other_file one other means also
    (same_json (meaning_object one) (meaning_object other) (can_read limits file one means)
    (can_read other_limits other_file other also) same)
