use Rattle.std.proofs.Common.{◌≡◌, ◌∙◌, ℕ, Bool, true, false, List, [], ◌∷◌, ◌++◌, Option, Some, None, map, nat_cmp, ◌⊎◌}
use Rattle.std.proofs.Common.{bytes_eq, append_assoc, ap, inl, inr, refl, sym, subst, arith}
use Rattle.std.specs.Cmp.Lexicographic.{slice_cmp}
use Rattle.std.specs.FinMap.{entries, find, get, get-entries}
use Rattle.std.specs.List.{AllZip, Contains}
use Rattle.std.specs.Option.{option_and_then, option_map}
use Rattle.std.proofs.lemmas.Cmp.{nat_list_eq_equiv}
use Rattle.std.proofs.lemmas.List.Elements.{Contains-append_left, Contains-append_right}
use Rattle.std.proofs.lemmas.Map.Text.{is_eq-slice_cmp}
use Rattle.std.proofs.lemmas.Slice.Eq.{bytes_eq-Decides}
use Rattle.bi_base.proofs.ListMembers.{Contains-cases, Contains-first, Contains-none, Contains-others}
use Rattle.bi_blob.specs.Lookups.{Sibling, node_named}
use Rattle.bi_blob.specs.Tree.{Nodes, none, node, Property, PropertyMap, with_each}
use Rattle.bi_fit.specs.ImageTree.{ImageTree, IsApart, IsImageTree, each_own}
use Rattle.bi_fit.specs.Names.{images_name}
use Rattle.bi_fit.proofs.FileTrees.{is_image_tree}
use Rattle.bi_legacy.specs.Meaning.{LegacyImage}
use Rattle.bi_norm.specs.Meaning.{OfFit, OfLegacy}
use Rattle.bi_common.specs.CommonLines.{header_lines, reservation_line}
use Rattle.bi_common.specs.Lines.{Line, Value}
use Rattle.bi_describe.specs.Descriptions.{DescribedNode, OfImage, described_children, described_images, described_nodes}
use Rattle.bi_describe.specs.Descriptions.{digest_of_payload, head_lines, node_line, node_lines, own_lines, part_lines}
use Rattle.bi_describe.specs.Descriptions.{payload_lines, plain_node, property_line, tree_lines}
use Rattle.bi_values.specs.FoundValues.{node_by_names, value_at}
use Rattle.bi_values.specs.ValueNames.{FieldAt, PropertyAt}
use Rattle.bi_values.specs.ValueResults.{ValueBytes, result_of_property, shown_field, word_line}
use Rattle.bi_values.specs.declared.value_form.ValueForm.TheVariants.{Shown}
use Rattle.bi_values.specs.declared.value_name.HeaderField.{HeaderField}
use Rattle.bi_values.specs.declared.value_name.HeaderField.TheVariants as field
use Rattle.bi_commands.specs.DescribedValues.{ShownValuesAreDescribed, line_of_value}

-- The value of each property has its line in a description, and so has each field.

-- ---- lists

mapped : {X Y : Type 0} (change : X → Y) (xs : List X) (x : X) → Contains xs x → Contains (map change xs) (change x)
mapped change [] x is = absurd (Contains-none x is)
mapped change (first ∷ others) x is = by (Contains-cases first others x is) (λ has. mapped change others x has)
  where
    by : (first ≡ x) ⊎ Contains others x → (Contains others x → Contains (map change others) (change x)) →
        Contains (map change (first ∷ others)) (change x)
    by (inl same) later =
        subst (λ y. Contains (change y ∷ map change others) (change x)) (sym same) (Contains-first (change x) (map change others))
    by (inr has) later = Contains-others (change first) (map change others) (change x) (later has)

-- ---- properties

-- A property that is got is one of the entries.
found_entry : (all : List Property) (name value : List ℕ) → find (slice_cmp nat_cmp) name all ≡ Some value → Contains all (name, value)
found_entry [] name value is = absurd cc
found_entry (first ∷ later) name value is = by (bytes_eq first.0 name) refl is (found_entry later name value)
  where
    by : (b : Bool) → bytes_eq first.0 name ≡ b → find (slice_cmp nat_cmp) name (first ∷ later) ≡ Some value →
        (find (slice_cmp nat_cmp) name later ≡ Some value → Contains later (name, value)) → Contains (first ∷ later) (name, value)
    by true same found rest =
        let here : Some first.1 ≡ Some value =
        sym (rw (is_eq-slice_cmp name first.0, nat_list_eq_equiv.symm name first.0, same) refl) ∙ found in
        let value_is : first.1 ≡ value = cc in
        let name_is : first.0 ≡ name = (bytes_eq-Decides first.0 name).0 same in
        subst (λ (property : Property). Contains (first ∷ later) property) (λ i. (name_is i, value_is i)) (Contains-first first later)
    by false same found rest =
        let there : find (slice_cmp nat_cmp) name later ≡ Some value =
        sym (rw (is_eq-slice_cmp name first.0, nat_list_eq_equiv.symm name first.0, same) refl) ∙ found in
        Contains-others first later (name, value) (rest there)

-- The line of a property among those of its node.
own_line : (names : List (List ℕ)) (own : DescribedNode) (name value : List ℕ) → get own.properties name ≡ Some value →
    Contains (own_lines names own) (property_line names (name, value))
own_line names own name value is =
    let entry = found_entry (entries own.properties) name value (sym (get-entries own.properties name) ∙ is) in
    Contains-others (node_line names) _ _
    (Contains-append_right (payload_lines names own.payload) _ _
    (mapped (property_line names) (entries own.properties) (name, value) entry))

-- ---- nodes that are no image nodes

-- The value of a property of the node that names lead to from these nodes.
abbrev value_below : Nodes PropertyMap → (first : List ℕ) → (later : List (List ℕ)) → (name : List ℕ) → Option (List ℕ)
value_below nodes first later name =
    option_and_then (λ (found : Sibling PropertyMap). get found.own name)
    (option_and_then (λ child. node_by_names child later) (node_named nodes first))

-- The same from one node.
abbrev value_from : (own : PropertyMap) (children : Nodes PropertyMap) → (later : List (List ℕ)) → (name : List ℕ) → Option (List ℕ)
value_from own children [] name = get own name
value_from own children (next ∷ later) name = value_below children next later name

from_node : (title : List ℕ) (own : PropertyMap) (children after : Nodes PropertyMap) (later : List (List ℕ)) (name : List ℕ) →
    option_and_then (λ (found : Sibling PropertyMap). get found.own name)
    (node_by_names (record { name = title; own = own; children = children; later = after }) later)
    ≡ value_from own children later name
from_node title own children after [] name = refl
from_node title own children after (next ∷ later) name = refl

-- The value below a first node of that name, and of another one.
below_named : (title : List ℕ) (own : PropertyMap) (children after : Nodes PropertyMap) (first : List ℕ) (later : List (List ℕ))
    (name : List ℕ) → bytes_eq title first ≡ true →
    value_below (node title own children after) first later name ≡ value_from own children later name
below_named title own children after first later name same = rw same (from_node title own children after later name)

below_other : (title : List ℕ) (own : PropertyMap) (children after : Nodes PropertyMap) (first : List ℕ) (later : List (List ℕ))
    (name : List ℕ) → bytes_eq title first ≡ false →
    value_below (node title own children after) first later name ≡ value_below after first later name
below_other title own children after first later name other = rw other refl

-- The line of a property of the node that names lead to.
abbrev HasLine : (lines : List Line) (above : List (List ℕ)) (first : List ℕ) (later : List (List ℕ)) (name value : List ℕ) → Type 0
HasLine lines above first later name value = Contains lines (property_line (above ++ first ∷ later) (name, value))

-- The lines of a node and of those below it.
node_has_line : (above : List (List ℕ)) (title : List ℕ) (described : DescribedNode) (children : Nodes PropertyMap)
    (rest : List Line) (later : List (List ℕ)) (name value : List ℕ) →
    value_from described.properties children later name ≡ Some value →
    ((next : List ℕ) (more : List (List ℕ)) → value_below children next more name ≡ Some value →
    HasLine (node_lines (above ++ title ∷ []) (with_each plain_node children)) (above ++ title ∷ []) next more name value) →
    HasLine (own_lines (above ++ title ∷ []) described ++ (node_lines (above ++ title ∷ []) (with_each plain_node children) ++ rest))
    above title later name value
node_has_line above title described children rest [] name value is below =
    Contains-append_left (own_lines (above ++ title ∷ []) described) _ _ (own_line (above ++ title ∷ []) described name value is)
node_has_line above title described children rest (next ∷ more) name value is below =
    let inside = node_lines (above ++ title ∷ []) (with_each plain_node children) in
    Contains-append_right (own_lines (above ++ title ∷ []) described) _ _
    (Contains-append_left inside rest _
    (subst (λ names. Contains inside (property_line names (name, value))) (append_assoc above (title ∷ []) (next ∷ more))
    (below next more is)))

plain_has_line : (nodes : Nodes PropertyMap) (above : List (List ℕ)) (first : List ℕ) (later : List (List ℕ)) (name value : List ℕ) →
    value_below nodes first later name ≡ Some value → HasLine (node_lines above (with_each plain_node nodes)) above first later name value
plain_has_line none above first later name value is = absurd cc
plain_has_line (node title own children after) above first later name value is =
    by (bytes_eq title first) refl (plain_has_line children (above ++ title ∷ [])) (plain_has_line after above)
  where
    by : (b : Bool) → bytes_eq title first ≡ b →
        ((next : List ℕ) (more : List (List ℕ)) (name value : List ℕ) → value_below children next more name ≡ Some value →
        HasLine (node_lines (above ++ title ∷ []) (with_each plain_node children)) (above ++ title ∷ []) next more name value) →
        ((first : List ℕ) (later : List (List ℕ)) (name value : List ℕ) → value_below after first later name ≡ Some value →
        HasLine (node_lines above (with_each plain_node after)) above first later name value) →
        HasLine (node_lines above (with_each plain_node (node title own children after))) above first later name value
    by true same below rest =
        subst (λ one. HasLine (node_lines above (with_each plain_node (node title own children after))) above one later name value)
        ((bytes_eq-Decides title first).0 same)
        (node_has_line above title (plain_node own) children (node_lines above (with_each plain_node after)) later name value
        (sym (below_named title own children after first later name same) ∙ is) (λ next more. below next more name value))
    by false other below rest =
        Contains-append_right (own_lines (above ++ title ∷ []) (plain_node own)) _ _
        (Contains-append_right (node_lines (above ++ title ∷ []) (with_each plain_node children)) _ _
        (rest first later name value (sym (below_other title own children after first later name other) ∙ is)))

-- ---- image nodes

images_have_line : (nodes : Nodes PropertyMap) (payloads : List (Option (List ℕ))) (above : List (List ℕ)) (first : List ℕ)
    (later : List (List ℕ)) (name value : List ℕ) → AllZip IsApart (each_own nodes) payloads →
    value_below nodes first later name ≡ Some value →
    HasLine (node_lines above (described_images nodes payloads)) above first later name value
images_have_line none payloads above first later name value apart is = absurd cc
images_have_line (node title own children after) [] above first later name value apart is = absurd apart
images_have_line (node title own children after) (payload ∷ payloads) above first later name value apart is =
    by (bytes_eq title first) refl (λ next more. plain_has_line children (above ++ title ∷ []) next more name value)
    (images_have_line after payloads above first later name value apart.1)
  where
    described : DescribedNode
    described = record { properties = own; payload = OfImage (option_map digest_of_payload payload) }

    by : (b : Bool) → bytes_eq title first ≡ b →
        ((next : List ℕ) (more : List (List ℕ)) → value_below children next more name ≡ Some value →
        HasLine (node_lines (above ++ title ∷ []) (with_each plain_node children)) (above ++ title ∷ []) next more name value) →
        (value_below after first later name ≡ Some value →
        HasLine (node_lines above (described_images after payloads)) above first later name value) →
        HasLine (node_lines above (described_images (node title own children after) (payload ∷ payloads))) above first later name value
    by true same below rest =
        subst (λ one. HasLine (node_lines above (described_images (node title own children after) (payload ∷ payloads))) above one later
        name value)
        ((bytes_eq-Decides title first).0 same)
        (node_has_line above title described children (node_lines above (described_images after payloads)) later name value
        (sym (below_named title own children after first later name same) ∙ is) below)
    by false other below rest =
        Contains-append_right (own_lines (above ++ title ∷ []) described) _ _
        (Contains-append_right (node_lines (above ++ title ∷ []) (with_each plain_node children)) _ _
        (rest (sym (below_other title own children after first later name other) ∙ is)))

-- ---- children of the root

-- The image nodes, if the name is theirs, have these payloads.
abbrev HavePayloads : Nodes PropertyMap → (first : List ℕ) → List (Option (List ℕ)) → Type 0
HavePayloads nodes first payloads =
    (found : Sibling PropertyMap) → node_named nodes first ≡ Some found → bytes_eq first images_name ≡ true →
    AllZip IsApart (each_own found.children) payloads

-- The lines of a child of the root and of those below it.
child_has_line : (title : List ℕ) (own : PropertyMap) (children : Nodes PropertyMap) (payloads : List (Option (List ℕ)))
    (rest : List Line) (later : List (List ℕ)) (name value : List ℕ) → value_from own children later name ≡ Some value →
    (bytes_eq title images_name ≡ true → AllZip IsApart (each_own children) payloads) →
    HasLine (own_lines (title ∷ []) (plain_node own) ++ (node_lines (title ∷ []) (described_children title children payloads) ++ rest))
    [] title later name value
child_has_line title own children payloads rest [] name value is apart =
    Contains-append_left (own_lines (title ∷ []) (plain_node own)) _ _ (own_line (title ∷ []) (plain_node own) name value is)
child_has_line title own children payloads rest (next ∷ more) name value is apart =
    Contains-append_right (own_lines (title ∷ []) (plain_node own)) _ _
    (Contains-append_left (node_lines (title ∷ []) (described_children title children payloads)) rest _
    (by (bytes_eq title images_name) refl))
  where
    by : (b : Bool) → bytes_eq title images_name ≡ b →
        HasLine (node_lines (title ∷ []) (described_children title children payloads)) (title ∷ []) next more name value
    by true same = rw same (images_have_line children payloads (title ∷ []) next more name value (apart same) is)
    by false other = rw other (plain_has_line children (title ∷ []) next more name value is)

tree_has_line : (nodes : Nodes PropertyMap) (payloads : List (Option (List ℕ))) (first : List ℕ) (later : List (List ℕ))
    (name value : List ℕ) → HavePayloads nodes first payloads → value_below nodes first later name ≡ Some value →
    HasLine (node_lines [] (described_nodes nodes payloads)) [] first later name value
tree_has_line none payloads first later name value have is = absurd cc
tree_has_line (node title own children after) payloads first later name value have is =
    by (bytes_eq title first) refl (tree_has_line after payloads first later name value)
  where
    sibling : Sibling PropertyMap
    sibling = record { name = title; own = own; children = children; later = after }

    by : (b : Bool) → bytes_eq title first ≡ b →
        (HavePayloads after first payloads → value_below after first later name ≡ Some value →
        HasLine (node_lines [] (described_nodes after payloads)) [] first later name value) →
        HasLine (node_lines [] (described_nodes (node title own children after) payloads)) [] first later name value
    by true same rest =
        let named = (bytes_eq-Decides title first).0 same in
        subst (λ one. HasLine (node_lines [] (described_nodes (node title own children after) payloads)) [] one later name value) named
        (child_has_line title own children payloads (node_lines [] (described_nodes after payloads)) later name value
        (sym (below_named title own children after first later name same) ∙ is)
        (λ images. have sibling (rw same refl) (subst (λ one. bytes_eq one images_name ≡ true) named images)))
    by false other rest =
        Contains-append_right (own_lines (title ∷ []) (plain_node own)) _ _
        (Contains-append_right (node_lines (title ∷ []) (described_children title children payloads)) _ _
        (rest (λ found is_found images. have found (rw other is_found) images)
        (sym (below_other title own children after first later name other) ∙ is)))

-- The line of a property of a tree.
line_of_tree : (tree : ImageTree) → IsImageTree tree → (names : List (List ℕ)) (name value : List ℕ) →
    value_at tree names name ≡ Some value → Contains (tree_lines tree) (property_line names (name, value))
line_of_tree tree good [] name value is =
    Contains-append_left (own_lines [] (plain_node tree.root.own)) _ _ (own_line [] (plain_node tree.root.own) name value is)
line_of_tree tree good (first ∷ later) name value is =
    Contains-append_right (own_lines [] (plain_node tree.root.own)) _ _
    (tree_has_line tree.root.children tree.payloads first later name value have is)
  where
    have : HavePayloads tree.root.children first tree.payloads
    have found is_found images =
        let named : first ≡ images_name = (bytes_eq-Decides first images_name).0 images in
        let there : Some found.children ≡ Some good.images =
        sym (ap (option_map (λ (one : Sibling PropertyMap). one.children))
        (subst (λ one. node_named tree.root.children one ≡ Some found) named is_found))
        ∙ good.has_images in
        let same : found.children ≡ good.images = cc in
        subst (λ (nodes : Nodes PropertyMap). AllZip IsApart (each_own nodes) tree.payloads) (sym same) good.apart

-- The line of a field of a legacy image.
line_of_header : (image : LegacyImage) (one : HeaderField) →
    Contains (header_lines image) (line_of_value (FieldAt one) (shown_field one image))
line_of_header image field.Name = (1, omega arith, refl)
line_of_header image field.Time = (2, omega arith, refl)
line_of_header image field.Load = (3, omega arith, refl)
line_of_header image field.Entry = (4, omega arith, refl)
line_of_header image field.Os = (5, omega arith, refl)
line_of_header image field.Arch = (6, omega arith, refl)
line_of_header image field.ImageType = (7, omega arith, refl)
line_of_header image field.Compression = (8, omega arith, refl)

-- ---- the law

-- The value of a property that is got.
value_of_result : (found : Option (List ℕ)) (bytes : List ℕ) → result_of_property Shown found ≡ ValueBytes bytes →
    (value : List ℕ) × (found ≡ Some value) × (bytes ≡ word_line (Value value))
value_of_result None bytes is = absurd cc
value_of_result (Some value) bytes is = let same : word_line (Value value) ≡ bytes = cc in (value, refl, sym same)

pub shown_values_are_described : ShownValuesAreDescribed
shown_values_are_described limits file (OfFit tree) (PropertyAt names name) bytes means is =
    let found = value_of_result (value_at tree names name) bytes is in
    let line = line_of_tree tree (is_image_tree file tree means.is_file) names name found.0 found.1 in
    record {
      word = Value found.0;
      bytes_are = found.2;
      is_described = Contains-append_right (head_lines tree.cpu) _ _
          (Contains-append_right (map reservation_line tree.reservations) _ _ line);
    }
shown_values_are_described limits file (OfLegacy image) (FieldAt one) bytes means is =
    let same : word_line (shown_field one image) ≡ bytes = cc in
    record {
      word = shown_field one image;
      bytes_are = sym same;
      is_described = Contains-append_left (header_lines image) (part_lines 0 (map digest_of_payload image.parts)) _
          (line_of_header image one);
    }
shown_values_are_described limits file (OfFit tree) (FieldAt one) bytes means is = absurd cc
shown_values_are_described limits file (OfLegacy image) (PropertyAt names name) bytes means is = absurd cc
