use Rattle.std.proofs.Common.{◌≡◌, ◌∙◌, ◌⊎◌, ℕ, zero, suc, List, [], ◌∷◌, codes, slice_get, Option, None, Some, option_and_then}
use Rattle.std.proofs.Common.{inl, inr, ap, refl, sym, subst, lit<, lit≤, arith}
use Rattle.std.specs.List.{AllZip}
use Rattle.bi_base.specs.Cells.{cell, cell8, u32_at}
use Rattle.bi_base.specs.declared.fault.Cause.TheVariants.{BadField}
use Rattle.bi_base.specs.declared.fault.Fault.{Fault}
use Rattle.bi_base.specs.Limits.{widest}
use Rattle.bi_base.specs.Strings.{text_before_nul}
use Rattle.bi_blob.specs.Layout.{text_of_events, text_of_blocks}
use Rattle.bi_blob.specs.Lookups.{Sibling, property_named, root_node, siblings}
use Rattle.bi_blob.specs.Tree.{FileNode, FileProperty, HasNoZero, Root}
use Rattle.bi_blob.proofs.Blobs.OneBlob.{one_blob}
use Rattle.bi_commands.specs.declared.extract.Select.TheVariants.{Default}
use Rattle.bi_commands.specs.Extracting.{Chosen, NoSuchEntry, NoSuchImage}
use Rattle.bi_commands.specs.KnownChoices.{entry_selection, image_selection}
use Rattle.bi_fdt.specs.Content.{root_of}
use Rattle.bi_fit.specs.declared.building.Head.{Head}
use Rattle.bi_fit.specs.declared.form.Form.{Form}
use Rattle.bi_fit.specs.declared.form.Form.TheVariants.{Embedded}
use Rattle.bi_fit.specs.declared.key.Key.TheVariants.{Kernel, Fdt, Script}
use Rattle.bi_fit.specs.Building.{built_tree, plan_by_types}
use Rattle.bi_fit.specs.Content.{FitModel, ImageModel, IsReadImage, offset_of_place, place_or_absent}
use Rattle.bi_fit.specs.File.{FitMeans}
use Rattle.bi_fit.specs.ImageTree.{ImageTree, image_nodes, nodes_or_none}
use Rattle.bi_fit.specs.Judgement.{ListResult, ListedImages, ListedImage, NoConfig, NoKey, listed_of}
use Rattle.bi_fit.specs.KnownBuilds.{known_head, known_images, known_kernel, known_ramdisk, known_text}
use Rattle.bi_fit.specs.NamedImages.{head_model}
use Rattle.bi_fit.specs.Names.{default_name, key_name}
use Rattle.bi_fit.specs.Reading.{IsReadFit}
use Rattle.bi_fit.specs.Text.{fit_text}
use Rattle.bi_fit.proofs.JudgementFacts.{find-properties}
use Rattle.bi_fit.proofs.Meanings.{one_fit_meaning}
use Rattle.bi_hash.specs.declared.algo.Algo.TheVariants.{Sha256}
use Rattle.bi_legacy.specs.Codes.{arch_names, compression_names, os_names, type_names}
use Rattle.bi_legacy.specs.Laws.{OneLegacyMeaning}
use Rattle.bi_norm.specs.declared.fit_building.ImageSpec.{ImageSpec}
use Rattle.bi_norm.specs.Converting.{code_name}
use Rattle.bi_norm.specs.FitBuilding.{IsBuildFault, plain_plan, spec_model, spec_models, tree_of_images}
use Rattle.bi_norm.specs.KnownBuildFaults.{description_with_zero}
use Rattle.bi_norm.specs.Meaning.{OfFit}
use Rattle.bi_show.specs.KnownTrees.{shown_configuration, shown_default, shown_file}
use Rattle.bi_show.proofs.ShownTrees.{file_root, shown_meaning, shown_means}
use Rattle.bi_c.specs.Answers.{answer_of_failure}
use Rattle.bi_c.specs.Arguments.{HasKey, key_of}
use Rattle.bi_c.specs.Calls.{IsTreeFailure}
use Rattle.bi_c.specs.Extracting.{IsNamedOffset}
use Rattle.bi_c.specs.FitElements.{AreImageIndices, IsListFailure, IsListReason}
use Rattle.bi_c.specs.KnownCalls.{AlwaysFills, empty_answer}
use Rattle.bi_c.specs.KnownElements.{region_at_offset}
use Rattle.bi_c.specs.KnownTreeCalls.{TreeBuildingIsKnown, TreeReasonsAreKnown, TreeSelectionsAreKnown}
use Rattle.bi_c.specs.KnownTreeCalls.{kernel_element, pieces_of_tree, ramdisk_element}
use Rattle.bi_c.specs.NodeElements.{AreChildRegions, HasNodeAtPath, IsNodeFailure, IsNodeReason, IsPropertyFailure, IsPropertyReason}
use Rattle.bi_c.specs.NodeElements.{IsValueAt, node_at_path}
use Rattle.bi_c.specs.TreeBuilding.{IsSpecInside, IsSpecOf, IsTreeBuildFailure, IsTreeOfPieces}
use Rattle.bi_c.specs.declared.failure.Failure.{Failure}
use Rattle.bi_c.specs.declared.failure.Failure.TheVariants.{Refused, NotFound, OutOfMemory, WrongArgument}
use Rattle.bi_c.specs.declared.fit_building.BuildElement.{BuildElement}
use Rattle.bi_c.proofs.AnswerFacts.{never_answers, never_fills, widest_is_in_range}
use Rattle.bi_c.proofs.FormNumbers.{embedded_by_number}
use Rattle.bi_c.specs.Arguments.{FormCheck, HasForm, KeyCheck}
use Rattle.bi_c.specs.Checks.{LimitsCheck}
use Rattle.bi_c.specs.declared.argument.Argument.{Argument}
use Rattle.bi_c.specs.declared.argument.Argument.TheVariants.{Images}
use Rattle.bi_c.specs.declared.argument.Argument.TheVariants as argument
use Rattle.bi_c.proofs.CheckFacts.{array_only, first_only, limits_none, next_none, next_only}
use Rattle.bi_c.proofs.LegacyCallFacts.{extracted, extracts_nothing, not_extracted}

-- Calls on a small flattened image tree have known answers.

-- ---- what the file means

-- The file has one tree.
shown_root_is : (tree : ImageTree) (means : FitMeans widest shown_file tree) → means.is_file.root ≡ file_root
unfolding shown_means text_of_events text_of_blocks cell cell8 u32_at
shown_root_is tree means =
    (one_blob shown_file tree.cpu shown_meaning.cpu tree.reservations shown_meaning.reservations means.is_file.root file_root
    means.is_file.blob shown_means.is_file.blob).same_root

shown_tree_is : (tree : ImageTree) → FitMeans widest shown_file tree → tree ≡ shown_meaning
shown_tree_is tree means = one_fit_meaning shown_file tree shown_meaning means.is_file shown_means.is_file

-- The payload of each image that was read is at 596.
images_are_at : (images : List ImageModel) →
    AllZip (IsReadImage shown_file) (siblings (nodes_or_none (image_nodes file_root))) images → (index offset : ℕ) →
    offset_of_place (place_or_absent (slice_get images index)) ≡ Some offset → offset ≡ 596
unfolding text_of_events text_of_blocks cell cell8 u32_at
images_are_at [] are index offset is = absurd are
images_are_at (image ∷ next ∷ later) are index offset is = absurd are.1
images_are_at (image ∷ []) are zero offset is =
    let there : Some 596 ≡ Some offset = subst (λ place. offset_of_place place ≡ Some offset) are.0.place is in
    let same : 596 ≡ offset = cc in
    sym same
images_are_at (image ∷ []) are (suc index) offset is = absurd (let wrong : None ≡ Some offset = is in cc)

payload_is_at : (content : FitModel) → IsReadFit widest shown_file content → (name : List ℕ) (offset : ℕ) →
    IsNamedOffset content name offset → offset ≡ 596
payload_is_at content read name offset is =
    images_are_at content.images
    (subst (λ root. AllZip (IsReadImage shown_file) (siblings (nodes_or_none (image_nodes root))) content.images)
    (sym read.same_root ∙ shown_root_is _ read.means)
    (subst (λ file. AllZip (IsReadImage file) (siblings (nodes_or_none (image_nodes (root_of content.blob)))) content.images) read.is_file
    read.held.images)) is.index offset is.is_offset

-- ---- extracting

pub tree_selections_are_known : OneLegacyMeaning → TreeSelectionsAreKnown
unfolding text_before_nul
tree_selections_are_known one_legacy = record {
  image = extracted one_legacy (LimitsCheck 0x7fffffff 64) widest_is_in_range (image_selection (codes "a")) shown_file (OfFit shown_meaning)
      shown_means (Chosen (codes "abc")) refl (codes "abc") 3 596 refl refl
      (λ offset is. payload_is_at is.0 is.1 (codes "a") offset is.2);
  entry = extracted one_legacy (KeyCheck 0x7fffffff 64 0) valid_key (entry_selection (codes "c") Kernel 0) shown_file (OfFit shown_meaning)
      shown_means (Chosen (codes "abc")) (rw (find-properties shown_configuration (key_name Kernel)) refl) (codes "abc") 3 596 refl refl
      (λ offset is. payload_is_at is.0 is.1 is.2.entry.name offset is.2.is_offset);
  default = extracted one_legacy (KeyCheck 0x7fffffff 64 0) valid_key (Default Kernel 0) shown_file (OfFit shown_meaning) shown_means
      (Chosen (codes "abc"))
      (rw (find-properties shown_default default_name, find-properties shown_configuration (key_name Kernel)) refl) (codes "abc") 3 596
      refl refl (λ offset is. payload_is_at is.0 is.1 is.2.is_offset.entry.name offset is.2.is_offset.is_offset);
  no_image = not_extracted one_legacy (LimitsCheck 0x7fffffff 64) widest_is_in_range (image_selection (codes "b")) shown_file
      (OfFit shown_meaning) shown_means NoSuchImage refl 3 0 (λ size offset is. absurd (let wrong = is.is_chosen in cc))
      (λ other other_index is. is);
  no_entry = not_extracted one_legacy (KeyCheck 0x7fffffff 64 0) valid_key (Default Kernel 1) shown_file (OfFit shown_meaning) shown_means
      NoSuchEntry (rw (find-properties shown_default default_name, find-properties shown_configuration (key_name Kernel)) refl) 8 0
      (λ size offset is. absurd (let wrong = is.is_chosen in cc)) (λ other other_index is. is);
  no_such_key = extracts_nothing (KeyCheck 0x7fffffff 64 6) widest (Default Script 0) shown_file argument.Key
      (λ valid. omega (arith, valid.is_key))
      (next_only (LimitsCheck 0x7fffffff 64) argument.Key (HasKey 0x7fffffff 64 6) (limits_none 0x7fffffff 64 widest_is_in_range));
}
  where
    valid_key : HasKey 0x7fffffff 64 0
    valid_key = record { limits = widest_is_in_range; is_key = lit< tt }

-- ---- reasons

-- A call that looks something up in the file fails so, unless memory runs out.
tree_fails : (Check : Option (Argument × ℕ) → Type 0) (IsReason : (reason index : ℕ) → Type 0) (reason index : ℕ) → Check None →
    ((other other_index : ℕ) → IsReason other other_index → (other ≡ reason) × (other_index ≡ index)) → (failure : Failure) →
    IsTreeFailure Check widest shown_file IsReason failure → (failure ≡ NotFound reason index) ⊎ (failure ≡ OutOfMemory)
tree_fails Check IsReason reason index valid only (WrongArgument found at) is = absurd (is.0 valid)
tree_fails Check IsReason reason index valid only (Refused file fault) is = absurd (is.2.means_nothing shown_meaning shown_means)
tree_fails Check IsReason reason index valid only OutOfMemory is = inr refl
tree_fails Check IsReason reason index valid only (NotFound other other_index) is =
    let numbers = only other other_index is.1 in inl (λ i. NotFound (numbers.0 i) (numbers.1 i))

-- What is listed under a key is nothing.
lists_nothing : (key : ℕ) (name : List ℕ) (result : ListResult) (reason : ℕ) → HasKey 0x7fffffff 64 key →
    listed_of shown_meaning name (key_of key) ≡ result → ((listed : List ListedImage) → ¬ (result ≡ ListedImages listed)) →
    ((other other_index : ℕ) → IsListReason other other_index result → (other ≡ reason) × (other_index ≡ 0)) → (before : List ℕ) →
    AlwaysFills (AreImageIndices 0x7fffffff 64 key shown_file name) (IsListFailure 0x7fffffff 64 key shown_file name) before before
    (answer_of_failure (NotFound reason 0)) 5
lists_nothing key name result reason valid is_result lacks only before =
    never_fills (AreImageIndices 0x7fffffff 64 key shown_file name) (IsListFailure 0x7fffffff 64 key shown_file name) before
    (NotFound reason 0)
    (λ indices value is.
    lacks is.listed
    (sym is_result ∙ sym (ap (λ tree. listed_of tree name (key_of key)) (shown_tree_is is.tree is.means)) ∙ is.is_listed))
    (tree_fails (KeyCheck 0x7fffffff 64 key) _ reason 0 valid
    (λ other other_index is.
    only other other_index
    (subst (IsListReason other other_index)
    (ap (λ tree. listed_of tree name (key_of key)) (shown_tree_is is.tree is.means) ∙ is_result) is.is_reason)))

-- The node at a path of the file is that of its tree.
node_is : (path : List ℕ) (found : Sibling FileNode) → HasNodeAtPath widest shown_file path found →
    node_at_path (root_node file_root) path ≡ Some found
node_is path found is =
    subst (λ (root : Root FileNode). node_at_path (root_node root) path ≡ Some found) (shown_root_is is.tree is.means) is.is_found

lacks_node : (found : Sibling FileNode) → ¬ (HasNodeAtPath widest shown_file (codes "/images/b") found)
unfolding text_of_events text_of_blocks cell cell8 u32_at
lacks_node found is = let wrong : None ≡ Some found = node_is (codes "/images/b") found is in absurd cc

-- The property `x` of a node that may not be there.
abbrev property_x : Option (Sibling FileNode) → Option FileProperty
property_x found = option_and_then (λ (entry : Sibling FileNode). property_named entry.own.properties (codes "x")) found

has_no_x : (found : Sibling FileNode) (property : FileProperty) → HasNodeAtPath widest shown_file (codes "/images/a") found →
    ¬ (property_named found.own.properties (codes "x") ≡ Some property)
unfolding text_of_events text_of_blocks cell cell8 u32_at
has_no_x found property is named =
    let wrong : None ≡ Some property = ap property_x (node_is (codes "/images/a") found is) ∙ named in absurd cc

no_node_reason : (reason index : ℕ) → ¬ (IsNodeReason widest shown_file (codes "/images/a") reason index)
unfolding text_of_events text_of_blocks cell cell8 u32_at
no_node_reason reason index is =
    let lacks : node_at_path (root_node file_root) (codes "/images/a") ≡ None =
    subst (λ (root : Root FileNode). node_at_path (root_node root) (codes "/images/a") ≡ None) (shown_root_is is.2.tree is.2.means)
    is.2.is_lacking in
    absurd cc

property_reason : (reason index : ℕ) → IsPropertyReason widest shown_file (codes "/images/a") (codes "x") reason index →
    (reason ≡ 11) × (index ≡ 0)
property_reason reason index (inl is) = absurd (no_node_reason reason index is)
property_reason reason index (inr is) = (is.0, is.1)

node_reason : (reason index : ℕ) → IsPropertyReason widest shown_file (codes "/images/b") (codes "data") reason index →
    (reason ≡ 10) × (index ≡ 0)
node_reason reason index (inl is) = (is.0, is.1)
node_reason reason index (inr is) = absurd (lacks_node is.2.found is.2.is_found)

pub tree_reasons_are_known : TreeReasonsAreKnown
unfolding text_before_nul
tree_reasons_are_known = record {
  no_key = lists_nothing 1 (codes "c") NoKey 5 (record { limits = widest_is_in_range; is_key = lit< tt })
      (rw (find-properties shown_configuration (key_name Fdt)) refl) (λ listed wrong. absurd cc) (λ other other_index is. is);
  no_configuration = lists_nothing 0 (codes "d") NoConfig 4 (record { limits = widest_is_in_range; is_key = lit< tt }) refl
      (λ listed wrong. absurd cc) (λ other other_index is. is);
  no_node = λ before.
      never_fills (AreChildRegions 0x7fffffff 64 shown_file (codes "/images/b"))
      (IsNodeFailure 0x7fffffff 64 shown_file (codes "/images/b")) before (NotFound 10 0)
      (λ regions value is. lacks_node is.found is.is_found)
      (tree_fails (LimitsCheck 0x7fffffff 64) (IsNodeReason widest shown_file (codes "/images/b")) 10 0 widest_is_in_range
      (λ other other_index is. (is.0, is.1)));
  no_property =
      never_answers (IsValueAt 0x7fffffff 64 shown_file (codes "/images/a") (codes "x"))
      (IsPropertyFailure 0x7fffffff 64 shown_file (codes "/images/a") (codes "x")) (NotFound 11 0)
      (λ size offset is. has_no_x is.found is.property is.is_found is.is_named)
      (tree_fails (LimitsCheck 0x7fffffff 64) (IsPropertyReason widest shown_file (codes "/images/a") (codes "x")) 11 0 widest_is_in_range
      property_reason);
  no_node_of_property =
      never_answers (IsValueAt 0x7fffffff 64 shown_file (codes "/images/b") (codes "data"))
      (IsPropertyFailure 0x7fffffff 64 shown_file (codes "/images/b") (codes "data")) (NotFound 10 0)
      (λ size offset is. lacks_node is.found is.is_found)
      (tree_fails (LimitsCheck 0x7fffffff 64) (IsPropertyReason widest shown_file (codes "/images/b") (codes "data")) 10 0
      widest_is_in_range node_reason);
}

-- ---- building

kernel_is : (spec : ImageSpec) → IsSpecOf pieces_of_tree kernel_element spec →
    spec_model (record { spec = spec; texts = None; description = None }) ≡ known_kernel
kernel_is spec is = λ i. record {
  name = is.name i;
  description = None;
  image_type = code_name type_names (is.image_type i);
  arch = code_name arch_names (is.arch i);
  os = code_name os_names (is.os i);
  compression = code_name compression_names (is.compression i);
  load = is.load i;
  entry = is.entry i;
  payload = is.payload i;
}

ramdisk_is : (spec : ImageSpec) → IsSpecOf pieces_of_tree ramdisk_element spec →
    spec_model (record { spec = spec; texts = None; description = None }) ≡ known_ramdisk
ramdisk_is spec is = λ i. record {
  name = is.name i;
  description = None;
  image_type = code_name type_names (is.image_type i);
  arch = code_name arch_names (is.arch i);
  os = code_name os_names (is.os i);
  compression = code_name compression_names (is.compression i);
  load = is.load i;
  entry = is.entry i;
  payload = is.payload i;
}

models_are : (specs : List ImageSpec) → AllZip (IsSpecOf pieces_of_tree) (kernel_element ∷ ramdisk_element ∷ []) specs →
    spec_models plain_plan specs ≡ known_images
models_are [] are = absurd are
models_are (kernel ∷ []) are = absurd are.1
models_are (kernel ∷ ramdisk ∷ []) are = λ i. kernel_is kernel are.0 i ∷ ramdisk_is ramdisk are.1.0 i ∷ []
models_are (kernel ∷ ramdisk ∷ next ∷ later) are = absurd are.1.1

text_is : (head : Head) (specs : List ImageSpec) → head_model head ≡ known_head → spec_models plain_plan specs ≡ known_images →
    fit_text Embedded (tree_of_images head plain_plan specs) ≡ known_text
text_is head specs same_head same_images =
    λ i. fit_text Embedded (built_tree (same_head i) (plan_by_types (Sha256 ∷ []) (same_images i)) (same_images i))

tree_is_built : (text : List ℕ) (value : ℕ) →
    IsTreeOfPieces 0x7fffffff 64 0 1 pieces_of_tree (codes "k") (kernel_element ∷ ramdisk_element ∷ []) text value →
    (text ≡ known_text) × (value ≡ 0)
tree_is_built text value is =
    let given = is.is_to_be_built in
    let same_head : head_model is.head ≡ known_head = λ i. record { description = given.is_description i; time = given.is_time i } in
    let same_form = embedded_by_number is.arguments.form is.arguments.is_form in
    let in_form = ap (λ (form : Form). fit_text form (tree_of_images is.head plain_plan is.specs)) same_form in
    (is.is.is_text ∙ in_form ∙ text_is is.head is.specs same_head (models_are is.specs given.are_specs), is.no_value)

-- An image that is not inside the input is a wrong argument.
module _ (element : BuildElement) (wrong : ¬ (IsSpecInside pieces_of_tree element)) where
  no_specs : (specs : List ImageSpec) → ¬ (AllZip (IsSpecOf pieces_of_tree) (element ∷ []) specs)
  no_specs [] are = are
  no_specs (spec ∷ later) are = wrong are.0.inside

  not_built : (failure : Failure) → IsTreeBuildFailure 0x7fffffff 64 0 1 pieces_of_tree (codes "k") (element ∷ []) failure →
      (failure ≡ WrongArgument Images 0) ⊎ (failure ≡ OutOfMemory)
  not_built (WrongArgument found index) is =
      let same = array_only (FormCheck 0x7fffffff 64 0) Images (IsSpecInside pieces_of_tree) (element ∷ []) 0
      (next_none (LimitsCheck 0x7fffffff 64) argument.Form (HasForm 0x7fffffff 64 0) (limits_none 0x7fffffff 64 widest_is_in_range)
      (record { limits = widest_is_in_range; form = Embedded; is_form = refl }))
      (first_only (IsSpecInside pieces_of_tree) element [] wrong) found index is.1 in
      inl (λ i. WrongArgument (same.0 i) (same.1 i))
  not_built (Refused file fault) is = absurd (no_specs is.1.specs is.1.is_to_be_built.are_specs)
  not_built OutOfMemory is = inr refl
  not_built (NotFound reason index) is = absurd is

  wrong_pieces : (before : List ℕ) →
      AlwaysFills (IsTreeOfPieces 0x7fffffff 64 0 1 pieces_of_tree (codes "k") (element ∷ []))
      (IsTreeBuildFailure 0x7fffffff 64 0 1 pieces_of_tree (codes "k") (element ∷ [])) before before
      (record empty_answer { reason = 17 }) 4
  wrong_pieces before =
      never_fills (IsTreeOfPieces 0x7fffffff 64 0 1 pieces_of_tree (codes "k") (element ∷ []))
      (IsTreeBuildFailure 0x7fffffff 64 0 1 pieces_of_tree (codes "k") (element ∷ [])) before (WrongArgument Images 0)
      (λ text value is. no_specs is.specs is.is_to_be_built.are_specs) not_built

-- A description with a zero byte has this fault.
abbrev zero_fault : Fault
zero_fault = record { cause = BadField; offset = 0 }

has_zero : (head : Head) → head.description.now ≡ description_with_zero → ¬ (HasNoZero head.description.now)
has_zero head described fine = let bad : HasNoZero description_with_zero = subst HasNoZero described fine in bad.1.0 refl

description_fault : (form : Form) (head : Head) (specs : List ImageSpec) (fault : Fault) → head.description.now ≡ description_with_zero →
    AllZip (IsSpecOf []) [] specs → IsBuildFault widest form head specs fault → fault ≡ zero_fault
description_fault form head (spec ∷ later) fault described are is = absurd are
description_fault form head [] fault described are (inl is) = absurd (is.0 (lit≤ tt))
description_fault form head [] fault described are (inr (few, inl is)) = absurd (is.0 (lit≤ tt))
description_fault form head [] fault described are (inr (few, inr (some, inl is))) = is.1
description_fault form head [] fault described are (inr (few, inr (some, inr is))) = absurd (has_zero head described is.0)

description_fails : (failure : Failure) → IsTreeBuildFailure 0x7fffffff 64 0 1 [] description_with_zero [] failure →
    (failure ≡ Refused 1 zero_fault) ⊎ (failure ≡ OutOfMemory)
description_fails (WrongArgument found index) is =
    absurd (is.0 (record { limits = widest_is_in_range; form = Embedded; is_form = refl }, tt))
description_fails (Refused file fault) is =
    let given = is.1.is_to_be_built in
    let cause = description_fault is.1.arguments.form is.1.head is.1.specs fault given.is_description given.are_specs is.1.is in
    inl (λ i. Refused (is.0 i) (cause i))
description_fails OutOfMemory is = inr refl
description_fails (NotFound reason index) is = absurd is

pub tree_building_is_known : TreeBuildingIsKnown
tree_building_is_known = record {
  built = tree_is_built;
  load_alone = λ spec is. (is.load, is.entry);
  outside = wrong_pieces (record ramdisk_element { payload = region_at_offset 22 4 }) (λ is. omega (arith, is.payload));
  no_such_sum = wrong_pieces (record ramdisk_element { addresses = 4 }) (λ is. omega (arith, is.addresses));
  bad_description = λ before.
      never_fills (IsTreeOfPieces 0x7fffffff 64 0 1 [] description_with_zero [])
      (IsTreeBuildFailure 0x7fffffff 64 0 1 [] description_with_zero []) before (Refused 1 zero_fault)
      (λ text value is. has_zero is.head is.is_to_be_built.is_description is.is.no_fault.1.1.0) description_fails;
}
