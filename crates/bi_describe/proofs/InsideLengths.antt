use Rattle.std.proofs.Common.{◌≡◌, ℕ, suc, ◌+◌, ◌≤◌, ◌<◌, Bool, true, false, List, [], ◌∷◌, ◌++◌, Option, None, Some, bytes_eq, length, map}
use Rattle.std.proofs.Common.{arith, codes, inr, flat_map, length-append, option_map, refl, sym, ap, subst, ◌∙◌}
use Rattle.std.specs.Prelude.{⊤}
use Rattle.std.specs.FinMap.{entries}
use Rattle.std.specs.List.{AllZip}
use Rattle.std.proofs.lemmas.Grind.{flat_map-append}
use Rattle.std.proofs.lemmas.Slice.Eq.{bytes_eq-Decides}
use Rattle.bi_base.specs.declared.fault.Error.{Error}
use Rattle.bi_base.specs.declared.fault.Error.TheVariants as error
use Rattle.bi_base.specs.Errors.{IsFaultOrNoMemory}
use Rattle.bi_base.specs.Limits.{Limits}
use Rattle.bi_base.specs.Reading.{too_large}
use Rattle.bi_blob.specs.Tree.{AreDistinct, Nodes, none, node, Property, PropertyMap, names, with_each}
use Rattle.bi_fdt.specs.Content.{Blob, root_of}
use Rattle.bi_fit.specs.Content.{FitModel, ImageModel, IsHeld, index_from, index_of, tree_of}
use Rattle.bi_fit.specs.ImageTree.{ImageTree, IsApart, IsImageTree, children_of, each_own, image_nodes, nodes_or_none}
use Rattle.bi_fit.specs.LongNames.{HasLongerNames, name_if_long}
use Rattle.bi_fit.specs.Names.{images_name}
use Rattle.bi_fit.proofs.FileTrees.{is_image_tree}
use Rattle.bi_fit.proofs.LongNames.{length-name_if_long, long_names_of_tree, names_of_nodes}
use Rattle.bi_fit.proofs.Meanings.{same_in_some}
use Rattle.bi_fit.proofs.NormalTrees.{held_means}
use Rattle.bi_legacy.specs.Meaning.{LegacyImage}
use Rattle.bi_norm.specs.declared.image.BootImage.{BootImage}
use Rattle.bi_norm.specs.declared.image.BootImage.TheVariants as boot
use Rattle.bi_norm.specs.Meaning.{OfFit, OfLegacy}
use Rattle.bi_norm.specs.Reading.{meaning_of}
use Rattle.bi_common.specs.declared.format.Format.{Format}
use Rattle.bi_common.specs.declared.format.Format.TheVariants as forms
use Rattle.bi_common.specs.CommonLines.{header_lines, reservation_line}
use Rattle.bi_common.specs.HeldImages.{IsHeldImage}
use Rattle.bi_common.specs.Json.{Json, Member, json_members, json_text, json_values}
use Rattle.bi_common.specs.Lines.{Line, Path, Text, line_text, text_of_lines}
use Rattle.bi_common.specs.Shown.{shown_text}
use Rattle.bi_common.specs.ValueTexts.{value_words}
use Rattle.bi_describe.specs.declared.describe.insides.PayloadIndex.{PayloadIndex}
use Rattle.bi_describe.specs.declared.describe.insides.PayloadIndex.TheVariants as kind
use Rattle.bi_describe.specs.ComparedNodes.{described_node, plain_compared}
use Rattle.bi_describe.specs.DeepDescribing.{HasLongDeepText, IsDeepImageError, deep_text}
use Rattle.bi_describe.specs.DeepDescriptions.{inside_cpu_line, inside_lines, inside_reservation_line, insides_shown, line_at, line_inside}
use Rattle.bi_describe.specs.DeepDescriptions.{lines_at, lines_with_inside, name_of_last, place_of_line, whole_devicetree}
use Rattle.bi_describe.specs.DeepJson.{deep_part_objects, devicetree_object, inside_members, object_with_inside}
use Rattle.bi_describe.specs.DescriptionJson.{node_members_with, node_objects, node_objects_with}
use Rattle.bi_describe.specs.Descriptions.{DescribedNode, OfImage, described_images, described_nodes, digest_of_payload, fit_lines}
use Rattle.bi_describe.specs.Descriptions.{head_lines, node_line, node_lines, own_lines, part_line, part_lines, payload_words, plain_node}
use Rattle.bi_describe.specs.Descriptions.{property_line, tree_lines}
use Rattle.bi_describe.specs.Devicetrees.{AreInside, Devicetree, Insides}
use Rattle.bi_describe.specs.IgnoredWords.{inside_path, payload_path}
use Rattle.bi_describe.specs.Ignoring.{OfImageNamed, OfPart, PayloadPlace}
use Rattle.bi_describe.specs.InsideTrees.{IsNamesError, devicetree_of, long_names, long_names_below, long_names_own}
use Rattle.bi_describe.specs.MadeInsides.{AreBlobsInside, HasBlob, IsIndexOf, long_names_in, payload_index_in, payloads_in}
use Rattle.bi_describe.proofs.LongNames.{json_long_with, lines_long, long_bytes, long_bytes_of, members_length}
use Rattle.bi_describe.proofs.LongNames.{nodes_in_json, own_in_json, plain_properties}
use Rattle.bi_describe.proofs.LongNames.{properties_in_json, shown_as_long, strings_length, third_word, value_long, values_length}
use Rattle.bi_describe.proofs.InsideBlobs.{below_are}
use Rattle.bi_describe.proofs.ReadInsides.{blobs_are_inside, image_names_are, image_names_distinct, image_says_where, index_after}
use Rattle.bi_describe.proofs.ReadInsides.{inside_with, insides_of}

-- The deep description is at least as long as the long names of the properties in all devicetrees inside.

abbrev text_length : List Line → ℕ
text_length lines = length (text_of_lines lines)

text_length-append : (xs ys : List Line) → text_length (xs ++ ys) ≡ text_length xs + text_length ys
text_length-append xs ys = ap length (flat_map-append line_text xs ys) ∙ length-append (text_of_lines xs) (text_of_lines ys)

-- ---- lines of a tree inside a payload

abbrev length_inside : (payload : List ℕ) → List Line → ℕ
length_inside payload lines = text_length (map (line_inside payload) lines)

length_inside-append : (payload : List ℕ) (xs ys : List Line) →
    length_inside payload (xs ++ ys) ≡ length_inside payload xs + length_inside payload ys
length_inside-append payload [] ys = omega arith
length_inside-append payload (x ∷ xs) ys =
    let rest = length_inside-append payload xs ys in
    let one = length-append (line_text (line_inside payload x)) (text_of_lines (map (line_inside payload) (xs ++ ys))) in
    let other = length-append (line_text (line_inside payload x)) (text_of_lines (map (line_inside payload) xs)) in
    omega (arith, rest, one, other)

properties_inside : (payload : List ℕ) (names : List (List ℕ)) (properties : List Property) →
    long_bytes (map (λ property. property.0) properties) ≤ length_inside payload (map (property_line names) properties)
properties_inside payload names [] = omega arith
properties_inside payload names (property ∷ later) =
    let written = line_text (line_inside payload (property_line names property)) in
    let of_names = length-append (name_if_long property.0) (flat_map name_if_long (map (λ property. property.0) later)) in
    let lines = length-append written (text_of_lines (map (line_inside payload) (map (property_line names) later))) in
    let short = length-name_if_long property.0 in
    let shown = shown_as_long property.0 in
    let one =
    third_word (codes "property") (inside_path payload names) (shown_text property.0) (value_words property.1 ++ []) in
    let rest = properties_inside payload names later in
    omega (arith, of_names, lines, short, shown, one, rest)

own_inside : (payload : List ℕ) (names : List (List ℕ)) (own : PropertyMap) →
    long_names_own own ≤ length_inside payload (own_lines names (described_node (plain_compared own)))
own_inside payload names own =
    let rest = properties_inside payload names (entries own) in
    let first : Line = Text (codes "node") ∷ Path names ∷ [] in
    let line = length-append (line_text (line_inside payload first))
    (text_of_lines (map (line_inside payload) (map (property_line names) (entries own)))) in
    omega (arith, rest, line)

nodes_inside : (payload : List ℕ) (above : List (List ℕ)) (nodes : Nodes PropertyMap) →
    long_names_below nodes ≤ length_inside payload (node_lines above (with_each described_node (with_each plain_compared nodes)))
nodes_inside payload above none = omega arith
nodes_inside payload above (node name own children later) =
    let inner : List (List ℕ) = above ++ name ∷ [] in
    let own_ones : List Line = own_lines inner (described_node (plain_compared own)) in
    let below : List Line = node_lines inner (with_each described_node (with_each plain_compared children)) in
    let after : List Line = node_lines above (with_each described_node (with_each plain_compared later)) in
    let lines = length_inside-append payload own_ones (below ++ after) in
    let more = length_inside-append payload below after in
    let one = own_inside payload inner own in
    let two = nodes_inside payload inner children in
    let three = nodes_inside payload above later in
    omega (arith, lines, more, one, two, three)

tree_inside : (payload : List ℕ) (tree : Devicetree) →
    long_names (Some tree) ≤ text_length (inside_lines payload (whole_devicetree tree))
tree_inside payload tree =
    let own_ones : List Line = own_lines [] (described_node (plain_compared tree.root.own)) in
    let below : List Line = node_lines [] (with_each described_node (with_each plain_compared tree.root.children)) in
    let first : Line = inside_cpu_line payload tree.cpu in
    let reservations : List Line = map (inside_reservation_line payload) tree.reservations in
    let nodes : List Line = map (line_inside payload) (own_ones ++ below) in
    let head = length-append (line_text first) (text_of_lines (reservations ++ nodes)) in
    let middle = text_length-append reservations nodes in
    let lines = length_inside-append payload own_ones below in
    let one = own_inside payload [] tree.root.own in
    let two = nodes_inside payload [] tree.root.children in
    omega (arith, head, middle, lines, one, two)

-- ---- lines of a deep description

module _ (insides : Insides) where
  abbrev deep_length : List Line → ℕ
  deep_length lines = text_length (lines_with_inside (insides_shown insides) lines)

  deep_length-append : (xs ys : List Line) → deep_length (xs ++ ys) ≡ deep_length xs + deep_length ys
  deep_length-append xs ys =
      let shown = insides_shown insides in
      ap text_length (flat_map-append (λ line. line_at shown (place_of_line line) line) xs ys)
      ∙ text_length-append (lines_with_inside shown xs) (lines_with_inside shown ys)

  -- The line of a payload, and those of what is inside it.
  line_long : (place : PayloadPlace) (line : Line) →
      long_names (insides place) ≤ text_length (line_at (insides_shown insides) (Some place) line)
  line_long place line = by (insides place)
    where
      by : (found : Option Devicetree) →
          long_names found ≤ text_length ((line ∷ []) ++ lines_at place (option_map whole_devicetree found))
      by None = omega arith
      by (Some tree) =
          let both = length-append (line_text line) (text_of_lines (inside_lines (payload_path place) (whole_devicetree tree))) in
          omega (arith, both, tree_inside (payload_path place) tree)

  -- Parts,
  parts_long : (limits : Limits) (first : ℕ) (parts : List (List ℕ)) (blobs : List (Option Blob)) →
      AllZip (HasBlob limits) (map Some parts) blobs →
      ((number : ℕ) → insides (OfPart (first + number)) ≡ inside_with blobs (Some number)) →
      long_names_in blobs ≤ deep_length (part_lines first (map digest_of_payload parts))
  parts_long limits first [] [] zip at = omega arith
  parts_long limits first [] (blob ∷ blobs) zip at = absurd zip
  parts_long limits first (part ∷ parts) [] zip at = absurd zip
  parts_long limits first (part ∷ parts) (blob ∷ blobs) zip at =
      let line : Line = part_line first (digest_of_payload part) in
      let both = text_length-append (line_at (insides_shown insides) (Some (OfPart first)) line)
      (lines_with_inside (insides_shown insides) (part_lines (first + 1) (map digest_of_payload parts))) in
      let rest = parts_long limits (first + 1) parts blobs zip.1
      (λ number. ap (λ n. insides (OfPart n)) (omega arith) ∙ at (suc number)) in
      let own : long_names (insides (OfPart first)) ≡ long_names (option_map devicetree_of blob) =
      ap (λ n. long_names (insides (OfPart n))) (let e : first ≡ first + 0 = omega arith in e) ∙ ap long_names (at 0) in
      omega (arith, both, rest, own, line_long (OfPart first) line)

  -- and images.
  abbrev AreAtNames : List (List ℕ) → List (Option Blob) → Type 0
  AreAtNames (name ∷ names) (blob ∷ blobs) =
      (insides (OfImageNamed name) ≡ option_map devicetree_of blob) × AreAtNames names blobs
  AreAtNames names blobs = ⊤

  pub at_names : (first : ℕ) (images : List ImageModel) (blobs : List (Option Blob)) →
      AreDistinct (map (λ (image : ImageModel). image.name) images) →
      ((name : List ℕ) (number : ℕ) → index_from first name images ≡ Some (first + number) →
      insides (OfImageNamed name) ≡ inside_with blobs (Some number)) →
      AreAtNames (map (λ (image : ImageModel). image.name) images) blobs
  at_names first [] blobs distinct at = tt
  at_names first (image ∷ later) [] distinct at = tt
  at_names first (image ∷ later) (blob ∷ blobs) distinct at = (
    at image.name 0 (rw ((bytes_eq-Decides image.name image.name).1 refl) (ap Some (omega arith))),
    at_names (first + 1) later blobs distinct.1
        (λ name number is. at name (suc number)
        (index_after first (first + suc number) image later name distinct.0 (is ∙ ap Some (omega arith)))),
  )

  last_name : (above : List (List ℕ)) (name : List ℕ) → name_of_last (above ++ name ∷ []) ≡ name
  last_name [] name = refl
  last_name (first ∷ []) name = refl
  last_name (first ∷ next ∷ above) name = last_name (next ∷ above) name

  image_own_long : (above : List (List ℕ)) (name : List ℕ) (own : PropertyMap) (payload : Option (List ℕ)) →
      long_names (insides (OfImageNamed name)) ≤ deep_length (own_lines (above ++ name ∷ [])
      (record { properties = own; payload = OfImage (option_map digest_of_payload payload) }))
  image_own_long above name own payload =
      let inner : List (List ℕ) = above ++ name ∷ [] in
      let first : Line = node_line inner in
      let line : Line = Text (codes "payload") ∷ Path inner ∷ payload_words (option_map digest_of_payload payload) in
      let properties : List Line = map (property_line inner) (entries own) in
      let shown = insides_shown insides in
      let same = ap (λ name. long_names (insides (OfImageNamed name))) (last_name above name) in
      let head = length-append (line_text first)
      (text_of_lines (line_at shown (Some (OfImageNamed (name_of_last inner))) line ++ lines_with_inside shown properties)) in
      let both = text_length-append (line_at shown (Some (OfImageNamed (name_of_last inner))) line) (lines_with_inside shown properties) in
      omega (arith, same, head, both, line_long (OfImageNamed (name_of_last inner)) line)

  images_long : (limits : Limits) (above : List (List ℕ)) (nodes : Nodes PropertyMap) (payloads : List (Option (List ℕ)))
      (blobs : List (Option Blob)) → AllZip IsApart (each_own nodes) payloads → AllZip (HasBlob limits) payloads blobs →
      AreAtNames (names nodes) blobs → long_names_in blobs ≤ deep_length (node_lines above (described_images nodes payloads))
  images_long limits above none [] [] apart zip at = omega arith
  images_long limits above none [] (blob ∷ blobs) apart zip at = absurd zip
  images_long limits above none (payload ∷ payloads) blobs apart zip at = absurd apart
  images_long limits above (node name own children later) [] blobs apart zip at = absurd apart
  images_long limits above (node name own children later) (payload ∷ payloads) [] apart zip at = absurd zip
  images_long limits above (node name own children later) (payload ∷ payloads) (blob ∷ blobs) apart zip at =
      let inner : List (List ℕ) = above ++ name ∷ [] in
      let own_ones : List Line = own_lines inner
      (record { properties = own; payload = OfImage (option_map digest_of_payload payload) }) in
      let below : List Line = node_lines inner (with_each plain_node children) in
      let after : List Line = node_lines above (described_images later payloads) in
      let lines = deep_length-append own_ones (below ++ after) in
      let more = deep_length-append below after in
      let one = image_own_long above name own payload in
      let same = ap long_names at.0 in
      let rest = images_long limits above later payloads blobs apart.1 zip.1 at.1 in
      omega (arith, lines, more, one, same, rest)

  -- The children of the root.
  children_long : (limits : Limits) (nodes images : Nodes PropertyMap) (payloads : List (Option (List ℕ))) (blobs : List (Option Blob)) →
      children_of images_name nodes ≡ Some images → AllZip IsApart (each_own images) payloads → AllZip (HasBlob limits) payloads blobs →
      AreAtNames (names images) blobs → long_names_in blobs ≤ deep_length (node_lines [] (described_nodes nodes payloads))
  children_long limits none images payloads blobs has apart zip at = absurd cc
  children_long limits (node name own children later) images payloads blobs has apart zip at =
      by (bytes_eq name images_name) refl has (λ has. children_long limits later images payloads blobs has apart zip at)
    where
      parts : (kids : Nodes DescribedNode) →
          deep_length (node_lines (name ∷ []) kids) + deep_length (node_lines [] (described_nodes later payloads))
          ≤ deep_length (node_lines [] (node name (plain_node own) kids (described_nodes later payloads)))
      parts kids =
          let own_ones : List Line = own_lines (name ∷ []) (plain_node own) in
          let below : List Line = node_lines (name ∷ []) kids in
          let after : List Line = node_lines [] (described_nodes later payloads) in
          let lines = deep_length-append own_ones (below ++ after) in
          let more = deep_length-append below after in
          omega (arith, lines, more)

      by : (b : Bool) → bytes_eq name images_name ≡ b → children_of images_name (node name own children later) ≡ Some images →
          (children_of images_name later ≡ Some images →
          long_names_in blobs ≤ deep_length (node_lines [] (described_nodes later payloads))) →
          long_names_in blobs ≤ deep_length (node_lines [] (described_nodes (node name own children later) payloads))
      by true is has rest =
          let found : children ≡ images = same_in_some children images (rw is at has) in
          let all = images_long limits (name ∷ []) children payloads blobs
          (subst (λ nodes. AllZip IsApart (each_own nodes) payloads) (sym found) apart) zip
          (subst (λ nodes. AreAtNames (names nodes) blobs) (sym found) at) in
          rw is (omega (arith, parts (described_images children payloads), all))
      by false is has rest = rw is (omega (arith, parts (with_each plain_node children), rest (rw is at has)))

  fit_long : (limits : Limits) (tree : ImageTree) (blobs : List (Option Blob)) → IsImageTree tree →
      AllZip (HasBlob limits) tree.payloads blobs → AreAtNames (names (nodes_or_none (image_nodes tree.root))) blobs →
      long_names_in blobs ≤ deep_length (fit_lines tree)
  fit_long limits tree blobs is zip at =
      let head = deep_length-append (head_lines tree.cpu) (map reservation_line tree.reservations ++ tree_lines tree) in
      let middle = deep_length-append (map reservation_line tree.reservations) (tree_lines tree) in
      let own : List Line = own_lines [] (plain_node tree.root.own) in
      let lines = deep_length-append own (node_lines [] (described_nodes tree.root.children tree.payloads)) in
      let all = children_long limits tree.root.children is.images tree.payloads blobs is.has_images is.apart zip
      (subst (λ found. AreAtNames (names (nodes_or_none found)) blobs) is.has_images at) in
      omega (arith, head, middle, lines, all)

-- ---- JSON

tree_in_json : (tree : Devicetree) → long_names (Some tree) ≤ strings_length (devicetree_object tree)
tree_in_json tree =
    let nodes : Nodes DescribedNode = with_each plain_node tree.root.children in
    let own = own_in_json (plain_node tree.root.own) (node_objects nodes) in
    let one = properties_in_json (entries tree.root.own) in
    let two = nodes_in_json nodes in
    let same = ap (λ nodes. long_bytes (names_of_nodes nodes)) (plain_properties tree.root.children) in
    let are = below_are tree.root.children in
    omega (arith, own, one, two, same, are)

inside_in_json : (found : Option Devicetree) → long_names found ≤ members_length (json_members (inside_members found))
inside_in_json None = omega arith
inside_in_json (Some tree) = omega (arith, tree_in_json tree)

module _ (insides : Insides) where
  parts_in_json : (limits : Limits) (first : ℕ) (parts : List (List ℕ)) (blobs : List (Option Blob)) →
      AllZip (HasBlob limits) (map Some parts) blobs →
      ((number : ℕ) → insides (OfPart (first + number)) ≡ inside_with blobs (Some number)) →
      long_names_in blobs ≤ values_length (json_values (deep_part_objects insides first parts))
  parts_in_json limits first [] [] zip at = omega arith
  parts_in_json limits first [] (blob ∷ blobs) zip at = absurd zip
  parts_in_json limits first (part ∷ parts) [] zip at = absurd zip
  parts_in_json limits first (part ∷ parts) (blob ∷ blobs) zip at =
      let rest = parts_in_json limits (first + 1) parts blobs zip.1
      (λ number. ap (λ n. insides (OfPart n)) (omega arith) ∙ at (suc number)) in
      let own : long_names (insides (OfPart first)) ≡ long_names (option_map devicetree_of blob) =
      ap (λ n. long_names (insides (OfPart n))) (let e : first ≡ first + 0 = omega arith in e) ∙ ap long_names (at 0) in
      omega (arith, rest, own, inside_in_json (insides (OfPart first)))

  abbrev members_at : List ℕ → List Member
  members_at name = inside_members (insides (OfImageNamed name))

  image_in_json : (limits : Limits) (name : List ℕ) (own : PropertyMap) (children : List Json) (payload : Option (List ℕ))
      (blob : Option Blob) → HasBlob limits payload blob → insides (OfImageNamed name) ≡ option_map devicetree_of blob →
      long_names (option_map devicetree_of blob) ≤ members_length (json_members (node_members_with (members_at name)
      (record { properties = own; payload = OfImage (option_map digest_of_payload payload) }) children))
  image_in_json limits name own children None None has at = omega arith
  image_in_json limits name own children None (Some blob) has at = absurd has
  image_in_json limits name own children (Some payload) blob has at =
      omega (arith, ap long_names at, inside_in_json (insides (OfImageNamed name)))

  images_in_json : (limits : Limits) (nodes : Nodes PropertyMap) (payloads : List (Option (List ℕ))) (blobs : List (Option Blob)) →
      AllZip IsApart (each_own nodes) payloads → AllZip (HasBlob limits) payloads blobs → AreAtNames insides (names nodes) blobs →
      long_names_in blobs ≤ values_length (json_values (node_objects_with members_at (described_images nodes payloads)))
  images_in_json limits none [] [] apart zip at = omega arith
  images_in_json limits none [] (blob ∷ blobs) apart zip at = absurd zip
  images_in_json limits none (payload ∷ payloads) blobs apart zip at = absurd apart
  images_in_json limits (node name own children later) [] blobs apart zip at = absurd apart
  images_in_json limits (node name own children later) (payload ∷ payloads) [] apart zip at = absurd zip
  images_in_json limits (node name own children later) (payload ∷ payloads) (blob ∷ blobs) apart zip at =
      let one = image_in_json limits name own (node_objects_with members_at (with_each plain_node children)) payload blob zip.0 at.0 in
      let rest = images_in_json limits later payloads blobs apart.1 zip.1 at.1 in
      omega (arith, one, rest)

  children_in_json : (limits : Limits) (nodes images : Nodes PropertyMap) (payloads : List (Option (List ℕ)))
      (blobs : List (Option Blob)) → children_of images_name nodes ≡ Some images → AllZip IsApart (each_own images) payloads →
      AllZip (HasBlob limits) payloads blobs → AreAtNames insides (names images) blobs →
      long_names_in blobs ≤ values_length (json_values (node_objects_with members_at (described_nodes nodes payloads)))
  children_in_json limits none images payloads blobs has apart zip at = absurd cc
  children_in_json limits (node name own children later) images payloads blobs has apart zip at =
      by (bytes_eq name images_name) refl has (λ has. children_in_json limits later images payloads blobs has apart zip at)
    where
      parts : (kids : Nodes DescribedNode) →
          values_length (json_values (node_objects_with members_at kids))
          + values_length (json_values (node_objects_with members_at (described_nodes later payloads)))
          ≤ values_length (json_values (node_objects_with members_at
          (node name (plain_node own) kids (described_nodes later payloads))))
      parts kids = omega arith

      by : (b : Bool) → bytes_eq name images_name ≡ b → children_of images_name (node name own children later) ≡ Some images →
          (children_of images_name later ≡ Some images →
          long_names_in blobs ≤ values_length (json_values (node_objects_with members_at (described_nodes later payloads)))) →
          long_names_in blobs
          ≤ values_length (json_values (node_objects_with members_at (described_nodes (node name own children later) payloads)))
      by true is has rest =
          let found : children ≡ images = same_in_some children images (rw is at has) in
          let all = images_in_json limits children payloads blobs
          (subst (λ nodes. AllZip IsApart (each_own nodes) payloads) (sym found) apart) zip
          (subst (λ nodes. AreAtNames insides (names nodes) blobs) (sym found) at) in
          rw is (omega (arith, parts (described_images children payloads), all))
      by false is has rest = rw is (omega (arith, parts (with_each plain_node children), rest (rw is at has)))

  -- ---- all forms

  pub legacy_deep_long : (format : Format) (limits : Limits) (image : LegacyImage) (blobs : List (Option Blob)) →
      AllZip (HasBlob limits) (map Some image.parts) blobs →
      ((number : ℕ) → insides (OfPart (0 + number)) ≡ inside_with blobs (Some number)) →
      long_names_in blobs ≤ length (deep_text format (record { meaning = OfLegacy image; insides = insides }))
  legacy_deep_long forms.Lines limits image blobs zip at =
      let head = deep_length-append insides (header_lines image) (part_lines 0 (map digest_of_payload image.parts)) in
      omega (arith, head, parts_long insides limits 0 image.parts blobs zip at)
  legacy_deep_long forms.Json limits image blobs zip at =
      let object = object_with_inside insides (OfLegacy image) in
      let text = value_long object in
      let line = length-append (json_text object) (10 ∷ []) in
      omega (arith, text, line, parts_in_json limits 0 image.parts blobs zip at)

  pub fit_deep_long : (format : Format) (limits : Limits) (tree : ImageTree) (blobs : List (Option Blob)) → IsImageTree tree →
      AllZip (HasBlob limits) tree.payloads blobs → AreAtNames insides (names (nodes_or_none (image_nodes tree.root))) blobs →
      long_names_in blobs ≤ length (deep_text format (record { meaning = OfFit tree; insides = insides }))
  fit_deep_long forms.Lines limits tree blobs is zip at = fit_long insides limits tree blobs is zip at
  fit_deep_long forms.Json limits tree blobs is zip at =
      let object = object_with_inside insides (OfFit tree) in
      let text = value_long object in
      let line = length-append (json_text object) (10 ∷ []) in
      let nodes = children_in_json limits tree.root.children is.images tree.payloads blobs is.has_images is.apart zip
      (subst (λ found. AreAtNames insides (names (nodes_or_none found)) blobs) is.has_images at) in
      omega (arith, text, line, nodes)

image_deep_long : (format : Format) (limits : Limits) (image : BootImage) (index : PayloadIndex) (blobs : List (Option Blob)) →
    IsHeldImage image → IsIndexOf image index → AreBlobsInside limits (payloads_in (meaning_of image)) blobs →
    long_names_in blobs ≤ length (deep_text format (record { meaning = meaning_of image; insides = insides_of index blobs }))
image_deep_long format limits (boot.Legacy legacy) kind.Parts blobs held is are =
    legacy_deep_long (insides_of kind.Parts blobs) format limits legacy.image blobs are
    (λ number. ap (λ n. inside_with blobs (payload_index_in kind.Parts (OfPart n))) (omega arith))
image_deep_long format limits (boot.Legacy legacy) (kind.Images fit) blobs held is are = absurd is
image_deep_long format limits (boot.Fit content) kind.Parts blobs held is are = absurd is
image_deep_long format limits (boot.Fit content) (kind.Images fit) blobs held is are =
    fit_deep_long (insides_of (kind.Images fit) blobs) format limits (tree_of content) blobs
    (is_image_tree content.blob.file (tree_of content) (held_means content held)) are
    (subst (λ names. AreAtNames (insides_of (kind.Images fit) blobs) names blobs) (sym (image_names_are content held))
    (at_names (insides_of (kind.Images fit) blobs) 0 content.images blobs (image_names_distinct content held)
    (λ name number there. ap (λ (content : FitModel). inside_with blobs (index_of name content.images)) is
    ∙ ap (inside_with blobs) (there ∙ ap Some (omega arith)))))

-- If the long names are longer than the limit, so is the deep description.
pub names_too_long : (format : Format) (limits : Limits) (image : BootImage) (index : PayloadIndex) (blobs : List (Option Blob)) →
    IsHeldImage image → IsIndexOf image index → AreBlobsInside limits (payloads_in (meaning_of image)) blobs →
    limits.file < long_names_in blobs → HasLongDeepText format limits (meaning_of image)
names_too_long format limits image index blobs held is are longer = record {
  insides = insides_of index blobs;
  are_inside = blobs_are_inside limits index (meaning_of image) blobs (image_says_where image index held is) are;
  is_long = omega (arith, longer, image_deep_long format limits image index blobs held is are);
}

-- ---- names of the image itself

line_stays : (insides : Insides) (place : Option PayloadPlace) (line : Line) →
    text_length (line ∷ []) ≤ text_length (line_at (insides_shown insides) place line)
line_stays insides None line = omega arith
line_stays insides (Some place) line =
    omega (arith, text_length-append (line ∷ []) (lines_at place ((insides_shown insides).tree_at place)))

lines_stay : (insides : Insides) (lines : List Line) → text_length lines ≤ deep_length insides lines
lines_stay insides [] = omega arith
lines_stay insides (line ∷ later) =
    let shown = insides_shown insides in
    let alone = text_length-append (line ∷ []) later in
    let both = text_length-append (line_at shown (place_of_line line) line) (lines_with_inside shown later) in
    omega (arith, alone, both, line_stays insides (place_of_line line) line, lines_stay insides later)

-- An image with different long names that are together longer than the limit is too long to describe with what is inside.
pub deep_refused_names : (format : Format) (limits : Limits) (content : FitModel) (limit : ℕ) (e : Error) → IsHeld content →
    limit ≡ limits.file → IsFaultOrNoMemory (λ fault. (fault ≡ too_large limit) × HasLongerNames limit (root_of content.blob)) e →
    (insides : Insides) → AreInside limits (OfFit (tree_of content)) insides → IsDeepImageError format limits (OfFit (tree_of content)) e
deep_refused_names format limits content limit (error.Refused fault) held is (is_fault, (names, distinct, are, longer)) insides inside =
    let of_file = long_names_of_tree content names distinct are in
    let good = is_image_tree content.blob.file (tree_of content) (held_means content held) in
    let described = by format good in (
      inr (record { insides = insides; are_inside = inside; is_long = omega (arith, is, longer, of_file, described) }),
      is_fault ∙ ap too_large is,
    )
  where
    by : (form : Format) → IsImageTree (tree_of content) →
        long_bytes_of (tree_of content) ≤ length (deep_text form (record { meaning = OfFit (tree_of content); insides = insides }))
    by forms.Lines good =
        omega (arith, lines_long (tree_of content) good, lines_stay insides (fit_lines (tree_of content)))
    by forms.Json good = json_long_with (λ name. inside_members (insides (OfImageNamed name))) (tree_of content) good
deep_refused_names format limits content limit error.OutOfMemory held is failed insides inside = tt
deep_refused_names format limits content limit error.ReadFailed held is failed insides inside = absurd failed
deep_refused_names format limits content limit error.WriteFailed held is failed insides inside = absurd failed

-- The error that counting long names has is one of the deep description.
pub names_error : (format : Format) (limits : Limits) (image : BootImage) (index : PayloadIndex) (blobs : List (Option Blob)) (e : Error) →
    IsHeldImage image → IsIndexOf image index → AreBlobsInside limits (payloads_in (meaning_of image)) blobs →
    IsNamesError limits.file limits.file (long_names_in blobs) e → IsDeepImageError format limits (meaning_of image) e
names_error format limits image index blobs (error.Refused fault) held is are failed =
    (inr (names_too_long format limits image index blobs held is are failed.1), failed.0)
names_error format limits image index blobs error.OutOfMemory held is are failed = tt
names_error format limits image index blobs error.ReadFailed held is are failed = absurd failed
names_error format limits image index blobs error.WriteFailed held is are failed = absurd failed
