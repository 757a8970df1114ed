use Rattle.std.proofs.Common.{◌≡◌, ℕ, ◌+◌, IsAscii, List, [], ◌∷◌, ◌++◌, map, Option, None, Some, refl, subst, sym}
use Rattle.std.specs.Prelude.{IsUtf8}
use Rattle.std.specs.FinMap.{entries}
use Rattle.std.specs.List.{AllByRecursion}
use Rattle.std.proofs.lemmas.Str.{IsUtf8-from_ascii}
use Rattle.bi_base.specs.Cells.{AreBytes}
use Rattle.bi_base.specs.Limits.{Limits}
use Rattle.bi_base.specs.MemoryPens.{MemoryPuts}
use Rattle.bi_base.proofs.ListMembers.{each-append}
use Rattle.bi_blob.specs.Tree.{Nodes, none, node, Property}
use Rattle.bi_fit.specs.Content.{FitModel, IsHeld, tree_of}
use Rattle.bi_fit.specs.File.{IsFitFile}
use Rattle.bi_fit.specs.ImageTree.{ImageTree}
use Rattle.bi_fit.proofs.NormalTrees.{held_means}
use Rattle.bi_fit.proofs.TreeContents.{AreBlobProperties}
use Rattle.bi_hash.specs.declared.algo.Algo.TheVariants.{Sha256}
use Rattle.bi_hash.proofs.DigestBytes.{AreBytes-digest_of}
use Rattle.bi_legacy.specs.Meaning.{LegacyImage}
use Rattle.bi_legacy.proofs.ImageOfFile.{image_of_file}
use Rattle.bi_norm.specs.Meaning.{Meaning, OfLegacy, OfFit, Means}
use Rattle.bi_common.specs.declared.format.Format.{Format}
use Rattle.bi_common.specs.declared.format.Format.TheVariants.{Lines, Json}
use Rattle.bi_common.specs.Lines.{text_of_lines}
use Rattle.bi_common.proofs.PrintedTexts.{json_lines_are_ascii}
use Rattle.bi_common.proofs.PrintedWords.{CanPrintLine, CanPrintLines, header_can, line_texts_are_ascii}
use Rattle.bi_common.proofs.PrintedWords.{reservations_can}
use Rattle.bi_describe.specs.Describing.{description_text}
use Rattle.bi_describe.specs.DescriptionJson.{fit_object, legacy_object}
use Rattle.bi_describe.specs.Descriptions.{PayloadDigest, NodePayload, NotAnImage, OfImage, DescribedNode, description_lines}
use Rattle.bi_describe.specs.Descriptions.{described_nodes, digest_of_payload, digest_words, fit_lines, legacy_lines, node_lines, own_lines}
use Rattle.bi_describe.specs.Descriptions.{part_lines, payload_lines, plain_node, property_line}
use Rattle.bi_describe.specs.Ignoring.{Ignored}
use Rattle.bi_describe.specs.ReducedMeanings.{meaning_without, reduced_lines}
use Rattle.bi_describe.proofs.LinesThatStay.{lines_stay}
use Rattle.bi_describe.proofs.ShownNodes.{AreShown, IsShownPayload, all_shown, root_shown}

-- The lines of a description can be printed, so a description is ASCII.

digest_can : (digest : PayloadDigest) → AreBytes digest.sha256 → CanPrintLine (digest_words digest)
digest_can digest bytes = (refl, (tt, (refl, (bytes, tt))))

parts_can : (index : ℕ) (parts : List (List ℕ)) → CanPrintLines (part_lines index (map digest_of_payload parts))
parts_can index [] = tt
parts_can index (part ∷ later) =
    ((refl, (tt, digest_can (digest_of_payload part) (AreBytes-digest_of Sha256 part))), parts_can (index + 1) later)

pub legacy_can : (image : LegacyImage) → AreBytes image.name → CanPrintLines (legacy_lines image)
legacy_can image bytes = header_can image bytes _ (parts_can 0 image.parts)

payload_can : (names : List (List ℕ)) → AllByRecursion AreBytes names → (payload : NodePayload) → IsShownPayload payload →
    CanPrintLines (payload_lines names payload)
payload_can names are NotAnImage shown = tt
payload_can names are (OfImage None) shown = ((refl, (are, (refl, tt))), tt)
payload_can names are (OfImage (Some digest)) shown = ((refl, (are, digest_can digest shown.bytes)), tt)

properties_can : (names : List (List ℕ)) → AllByRecursion AreBytes names → (properties : List Property) → AreBlobProperties properties →
    CanPrintLines (map (property_line names) properties)
properties_can names are [] good = tt
properties_can names are (property ∷ later) good =
    ((refl, (are, (good.0.name_bytes, (good.0.value_bytes, tt)))), properties_can names are later good.1)

pub own_can : (names : List (List ℕ)) → AllByRecursion AreBytes names → (own : DescribedNode) → AreBlobProperties (entries own.properties) →
    IsShownPayload own.payload → CanPrintLines (own_lines names own)
own_can names are own properties payload = (
  (refl, (are, tt)),
  each-append CanPrintLine (payload_lines names own.payload) (map (property_line names) (entries own.properties))
      (payload_can names are own.payload payload) (properties_can names are (entries own.properties) properties),
)

pub nodes_can : (above : List (List ℕ)) → AllByRecursion AreBytes above → (nodes : Nodes DescribedNode) → AreShown nodes →
    CanPrintLines (node_lines above nodes)
nodes_can above are none shown = tt
nodes_can above are (node name own children later) shown =
    let inner : List (List ℕ) = above ++ name ∷ [] in
    let down : AllByRecursion AreBytes inner = each-append AreBytes above (name ∷ []) are (shown.0.name_bytes, tt) in
    each-append CanPrintLine (own_lines inner own) (node_lines inner children ++ node_lines above later)
    (own_can inner down own shown.0.properties shown.0.payload)
    (each-append CanPrintLine (node_lines inner children) (node_lines above later) (nodes_can inner down children shown.1)
    (nodes_can above are later shown.2))

pub fit_can : (file : List ℕ) (tree : ImageTree) → IsFitFile file tree → CanPrintLines (fit_lines tree)
fit_can file tree is =
    let nodes : Nodes DescribedNode = described_nodes tree.root.children tree.payloads in (
      (refl, (refl, tt)),
      (
        (refl, (tt, tt)),
        reservations_can tree.reservations _
            (each-append CanPrintLine (own_lines [] (plain_node tree.root.own)) (node_lines [] nodes)
            (own_can [] tt (plain_node tree.root.own) (root_shown file tree is) tt) (nodes_can [] tt nodes (all_shown file tree is))),
      ),
    )

-- The lines of the description of what a file means.
pub lines_can : (limits : Limits) (file : List ℕ) (meaning : Meaning) → Means limits file meaning →
    CanPrintLines (description_lines meaning)
lines_can limits file (OfLegacy image) means = legacy_can image (image_of_file file image means.is_file).name_bytes
lines_can limits file (OfFit tree) means = fit_can file tree means.is_file

-- The description of a legacy image whose name is bytes is ASCII, in any form.
pub legacy_is_ascii : (format : Format) (image : LegacyImage) → AreBytes image.name → IsAscii (description_text format (OfLegacy image))
legacy_is_ascii Lines image bytes = line_texts_are_ascii (legacy_lines image) (legacy_can image bytes)
legacy_is_ascii Json image bytes = json_lines_are_ascii (legacy_object image)

-- So is that of a flattened image tree that was read.
pub fit_is_ascii : (format : Format) (content : FitModel) → IsHeld content → IsAscii (description_text format (OfFit (tree_of content)))
fit_is_ascii Lines content held =
    line_texts_are_ascii (fit_lines (tree_of content)) (fit_can content.blob.file (tree_of content) (held_means content held))
fit_is_ascii Json content held = json_lines_are_ascii (fit_object (tree_of content))

-- What a pen in memory has of a text is the text.
pub written_text : (text : List ℕ) (begin end : Option (List ℕ)) (items : List ℕ) → begin ≡ Some [] → end ≡ Some items →
    MemoryPuts begin text end → items ≡ text
written_text text begin end items begins ends put = rw (begins, ends) at put

-- What a pen in memory has of a text that is ASCII is UTF-8.
pub written_utf8 : (text : List ℕ) (begin end : Option (List ℕ)) (items : List ℕ) → IsAscii text → begin ≡ Some [] → end ≡ Some items →
    MemoryPuts begin text end → IsUtf8 items
written_utf8 text begin end items ascii begins ends put =
    let same : items ≡ text = rw (begins, ends) at put in
    IsUtf8-from_ascii items (subst IsAscii (sym same) ascii)

-- So are the lines of what stays of either, whatever is left out.
pub legacy_stays_ascii : (words : List Ignored) (image : LegacyImage) → AreBytes image.name →
    IsAscii (text_of_lines (reduced_lines (meaning_without words (OfLegacy image))))
legacy_stays_ascii words image bytes =
    line_texts_are_ascii (reduced_lines (meaning_without words (OfLegacy image)))
    (lines_stay CanPrintLine words (OfLegacy image) (legacy_can image bytes))

pub fit_stays_ascii : (words : List Ignored) (content : FitModel) → IsHeld content →
    IsAscii (text_of_lines (reduced_lines (meaning_without words (OfFit (tree_of content)))))
fit_stays_ascii words content held =
    line_texts_are_ascii (reduced_lines (meaning_without words (OfFit (tree_of content))))
    (lines_stay CanPrintLine words (OfFit (tree_of content))
    (fit_can content.blob.file (tree_of content) (held_means content held)))
