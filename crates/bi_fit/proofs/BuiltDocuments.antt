use Rattle.std.proofs.Common.{◌≡◌, ℕ, ◌+◌, ◌<◌, false, List, [], ◌∷◌, drop, get_or, length, codes, Some, nat_cmp, refl, sym, ap, subst, ◌∙◌}
use Rattle.std.proofs.Common.{arith, rules}
use Rattle.std.specs.Cmp.Lexicographic.{slice_cmp}
use Rattle.std.specs.FinMap.{from_entries, entries, get-from_entries}
use Rattle.std.proofs.lemmas.Cmp.{nat_list_cmp_total}
use Rattle.bi_blob.specs.Tree.{Nodes, none, node, Property, PropertyMap, with_each}
use Rattle.bi_blob.specs.Events.{Event, events, events_of, NodeEnd}
use Rattle.bi_blob.specs.Following.{AreClosedEvents, MayFollowInText, MayEnd, stage_of_events}
use Rattle.bi_blob.specs.Stages.{AfterRoot}
use Rattle.bi_blob.proofs.Blobs.EventTrees.{same_events}
use Rattle.bi_blob.proofs.Texts.NormalOrder.{has_one_order}
use Rattle.bi_blob.proofs.Texts.NormalEvents.{normal_events_have_one_tree}
use Rattle.bi_hash.specs.declared.algo.Algo.{Algo}
use Rattle.bi_lay.specs.Contents.{Doc, empty_with_names, with_event, HaveSameContent}
use Rattle.bi_fit.specs.declared.form.Form.{Form}
use Rattle.bi_fit.specs.declared.form.Form.TheVariants.{Embedded}
use Rattle.bi_fit.specs.NormalNodes.{MayAdd, with_events, begin_events, next_begin, next_end, leaf_nodes}
use Rattle.bi_fit.specs.PropertyMapModels.{PropertyMapModel, among}
use Rattle.bi_fit.specs.Building.{HeadModel, ImageSpecModel, ConfigurationSpecModel, PlanModel, CanBeBuilt, IsPlanFor, names_of_images}
use Rattle.bi_fit.specs.Building.{built_tree, cell_property, built_image_properties, built_root_properties}
use Rattle.bi_fit.specs.Building.{built_hash_nodes}
use Rattle.bi_fit.specs.Documents.{document_of}
use Rattle.bi_fit.specs.ImageTree.{with_image_nodes, without_payload}
use Rattle.bi_fit.specs.Names.{is_payload_name}
use Rattle.bi_fit.specs.Text.{alignment_of, blob_alignment, normal_tree, with_payload, with_payloads, end_after}
use Rattle.bi_fit.proofs.BuiltTrees.{built_is_image_tree, depth-built, none_found, load_is_no_payload, entry_is_no_payload}
use Rattle.bi_fit.proofs.TreeContents.{content-normal_tree}
use Rattle.bi_fit.proofs.PayloadProperties.{taken_out}
use Rattle.bi_fit.proofs.NodeEvents.{IsAdding, adding_all, may_add_first, adding_later, adding_none}
use Rattle.bi_fit.proofs.AddedEvents.{whole, may_begin, may_have_children, may_end, whole_added}
use Rattle.bi_fit.proofs.Texts.{depth-normal_tree}
use Rattle.std.proofs.lemmas.List.{at_drop_more}
use Rattle.bi_base.proofs.ListMembers.{each-append}
use Rattle.bi_fit.specs.declared.building.NamedImage.{NamedImage}
use Rattle.bi_fit.specs.BuiltNames.{built_names}
use Rattle.bi_fit.specs.NamedImages.{named_model, named_models}
use Rattle.bi_fit.specs.BuiltNodes.{built_payloads, built_hash_leaves, built_configuration_leaves, built_image_children}
use Rattle.bi_fit.specs.BuiltNodes.{built_image_nodes, built_images_node, built_configuration_nodes, built_configurations_node}

-- The nodes of a tree to be built may be added to a document one after the other, and the document is then that of the tree.

-- Hash nodes, as they are added, are those of the tree.
leaf_nodes-built_hash_leaves : (number : ℕ) (algorithms : List Algo) (payload : List ℕ) →
    leaf_nodes (built_hash_leaves number algorithms payload) ≡ with_each entries (built_hash_nodes number algorithms payload)
leaf_nodes-built_hash_leaves number [] payload = refl
leaf_nodes-built_hash_leaves number (algo ∷ later) payload = search (rules, leaf_nodes-built_hash_leaves (number + 1) later payload)

-- So are configurations.
pub leaf_nodes-built_configuration_leaves : (head : HeadModel) (configurations : List ConfigurationSpecModel) →
    leaf_nodes (built_configuration_leaves head configurations) ≡ built_configuration_nodes head configurations
leaf_nodes-built_configuration_leaves head [] = refl
leaf_nodes-built_configuration_leaves head (configuration ∷ later) = search (rules, leaf_nodes-built_configuration_leaves head later)

-- The properties of an image node, with those that give its payload.
abbrev pub placed_properties : Form → (begin : ℕ) → HeadModel → ImageSpecModel → PropertyMap
placed_properties form begin head image =
    with_payload (alignment_of form) begin (Some image.payload) (from_entries (built_image_properties head image))

-- An image node without its siblings.
abbrev pub built_image_node : Form → (begin : ℕ) → HeadModel → List Algo → ImageSpecModel
    → Nodes (List Property)
built_image_node form begin head algorithms image =
    node image.name (entries (placed_properties form begin head image))
    (built_image_children algorithms image.payload) none

-- The names of the properties of a node to be built are those of the document.
pub same_built_names : (names : List (List ℕ)) (properties : PropertyMapModel) (own : PropertyMap) → names ≡ built_names →
    properties ≡ among built_names own →
    names ≡ properties.names
same_built_names names properties own are is = are ∙ sym (ap (λ m. m.names) is)

-- The properties of an image node to be built give no payload.
pub properties_apart : (head : HeadModel) (image : ImageSpecModel) →
    without_payload (from_entries (built_image_properties head image)) ≡ from_entries (built_image_properties head image)
properties_apart head image =
    taken_out (from_entries (built_image_properties head image)) (from_entries (built_image_properties head image))
    (λ name is.
    get-from_entries nat_list_cmp_total (built_image_properties head image) name
    ∙ none_found is_payload_name name (built_image_properties head image) is (
      refl,
      (
        refl,
        (
          refl,
          (
            refl,
            (
              refl,
              each-append (λ property. is_payload_name property.0 ≡ false) (cell_property (codes "load") image.load)
                  (cell_property (codes "entry") image.entry) (load_is_no_payload image.load) (entry_is_no_payload image.entry),
            ),
          ),
        ),
      ),
    ))
    (λ name other. refl)

-- With those that give its payload they are these.
pub properties_placed : (form : Form) (begin : ℕ) (head : HeadModel) (image : ImageSpecModel) (made set : PropertyMap) →
    made ≡ from_entries (built_image_properties head image) →
    set ≡ with_payload (alignment_of form) begin (Some image.payload) (without_payload made) →
    set ≡ placed_properties form begin head image
properties_placed form begin head image made set is_made is_set = search (rules, properties_apart)

-- An image node of a specification that is added is that of the text.
pub same_built_image : (one form : Form) (end : ℕ) (head : HeadModel) (algorithms : List Algo) (image : ImageSpecModel)
    (made : PropertyMapModel) (hashes : List (List ℕ × PropertyMap)) →
    one ≡ form → made ≡ among built_names (from_entries (built_image_properties head image)) →
    hashes ≡ built_hash_leaves 1 algorithms image.payload →
    node image.name
    (entries (with_payload (alignment_of one) (next_begin one end) (Some image.payload) (without_payload made.by_name)))
    (leaf_nodes hashes) none
    ≡ built_image_node form (next_begin form end) head algorithms image
same_built_image one form end head algorithms image made hashes same_form is_made are_hashes =
    ap (λ one. node image.name (entries (placed one)) (leaf_nodes hashes) none) same_form
    ∙ ap (λ own. node image.name (entries own) (leaf_nodes hashes) none)
    (properties_placed form (next_begin form end) head image made.by_name (placed form)
    (ap (λ properties. properties.by_name) is_made) refl)
    ∙ ap (λ children. node image.name (entries (placed_properties form (next_begin form end) head image)) children none)
    (ap leaf_nodes are_hashes ∙ leaf_nodes-built_hash_leaves 1 algorithms image.payload)
  where
    placed : Form → PropertyMap
    placed one = with_payload (alignment_of one) (next_begin one end) (Some image.payload) (without_payload made.by_name)

-- Embedded payloads have no offsets.
embedded_anywhere : (one other : ℕ) (head : HeadModel) (algorithms : List Algo) (images : List ImageSpecModel) →
    built_image_nodes Embedded one head algorithms images ≡ built_image_nodes Embedded other head algorithms images
embedded_anywhere one other head algorithms [] = refl
embedded_anywhere one other head algorithms (image ∷ later) =
    ap (node image.name (entries (placed_properties Embedded (next_begin Embedded one) head image))
    (built_image_children algorithms image.payload))
    (embedded_anywhere (end_after 4 one (Some image.payload)) (end_after 4 other (Some image.payload)) head algorithms later)

-- The image nodes after the first.
pub nodes_later : (form : Form) (end : ℕ) (payload : List ℕ) (head : HeadModel) (algorithms : List Algo) (images : List ImageSpecModel) →
    built_image_nodes form (end_after (blob_alignment (alignment_of form)) end (Some payload)) head algorithms images
    ≡ built_image_nodes form (next_end form end (Some payload)) head algorithms images
nodes_later Embedded end payload head algorithms images =
    embedded_anywhere (end_after 4 end (Some payload)) end head algorithms images
nodes_later form end payload head algorithms images = refl

-- The image nodes from one on are it and those after it.
pub nodes_at : (form : Form) (end : ℕ) (head : HeadModel) (algorithms : List Algo) (images : List NamedImage) (index : ℕ) (d : NamedImage) →
    index < length images →
    built_image_nodes form end head algorithms (named_models (drop index images))
    ≡ built_image_nodes form end head algorithms (named_model (get_or images index d) ∷ named_models (drop (index + 1) images))
nodes_at form end head algorithms images index d within =
    at_drop_more (λ l. built_image_nodes form end head algorithms (named_models l)) images index d within

module _ (form : Form) (head : HeadModel) (plan : PlanModel) (images : List ImageSpecModel) where
  -- The events of the tree may follow one another, and they end the root.
  pub built_closed : CanBeBuilt head images → IsPlanFor (names_of_images images) plan →
      AreClosedEvents MayFollowInText (events_of (normal_tree form (built_tree head plan images)))
  built_closed can is = (normal_events_have_one_tree (events_of (normal_tree form (built_tree head plan images)))).1 (record {
    tree = record {
      root = normal_tree form (built_tree head plan images);
      same = refl;
      only = λ other also. same_events other (normal_tree form (built_tree head plan images)) also;
      is_tree = (content-normal_tree form (built_tree head plan images) (built_is_image_tree head plan images can is)).is_tree;
      shallow = omega (arith, depth-normal_tree form (built_tree head plan images), depth-built head plan images);
    };
    is_normal = (has_one_order (with_image_nodes (with_payloads (alignment_of form) 0 (built_payloads images))
        (built_tree head plan images).root)).is_normal;
  })

  -- The root begins with these events, and its children are these.
  abbrev pub root_begin : List Event
  root_begin = begin_events [] (from_entries {R = slice_cmp nat_cmp} (built_root_properties head))

  abbrev pub root_children : List Event
  root_children = events (normal_tree form (built_tree head plan images)).children

  -- Both children of the root, added in turn, are its children.
  module _ (started : Doc) (is_started : started ≡ empty_with_names 0 built_names) (can : CanBeBuilt head images)
      (is : IsPlanFor (names_of_images images) plan) where
    may_all : MayAdd started (whole started root_begin root_children)
    may_all = subst (λ document. MayAdd document (events_of (normal_tree form (built_tree head plan images))))
        (sym is_started) (built_closed can is).follow

    -- The root may begin.
    pub may_begin_root : MayAdd started root_begin
    may_begin_root = may_begin started root_begin root_children may_all

    module _ (begun : Doc) (is_begun : begun ≡ with_events started root_begin) where
      adding : IsAdding begun (with_events begun root_children) (normal_tree form (built_tree head plan images)).children
      adding = adding_all begun (normal_tree form (built_tree head plan images)).children
          (may_have_children started root_begin root_children begun is_begun may_all)

      -- The node of the images may be added,
      pub may_add_images : MayAdd begun (events (built_images_node form head plan.algorithms images))
      may_add_images = may_add_first begun (with_events begun root_children) _ _ _ _ adding

      module _ (more : Doc) (is_more : more ≡ with_events begun (events (built_images_node form head plan.algorithms images))) where
        after_images : IsAdding more (with_events begun root_children) (built_configurations_node head plan)
        after_images = adding_later begun (with_events begun root_children) _ _ _ _ adding more is_more

        -- then that of the configurations,
        pub may_add_configurations : MayAdd more (events (built_configurations_node head plan))
        may_add_configurations = may_add_first more (with_events begun root_children) _ _ _ _ after_images

        module _ (filled : Doc) (is_filled : filled ≡ with_events more (events (built_configurations_node head plan))) where
          all_children : filled ≡ with_events begun root_children
          all_children = adding_none filled (with_events begun root_children)
              (adding_later more (with_events begun root_children) _ _ _ _ after_images filled is_filled)

          -- then the root may end,
          pub may_end_root : MayEnd (stage_of_events filled.events)
          may_end_root = may_end started root_begin root_children begun filled is_begun all_children may_all

          -- and the document is that of the tree.
          pub is_document : (ended : Doc) → ended ≡ with_event filled NodeEnd →
              HaveSameContent ended (document_of form (built_tree head plan images))
          is_document ended is_ended =
              let is : ended ≡ with_events (empty_with_names 0 built_names) (whole started root_begin root_children) =
              is_ended ∙ whole_added started root_begin root_children begun filled is_begun all_children
              ∙ ap (λ document. with_events document (whole started root_begin root_children)) is_started in
              (ap (λ document. document.boot_cpu) is, ap (λ document. document.reservations) is, ap (λ document. document.events) is)

          -- Its root has ended.
          pub is_closed : (ended : Doc) → ended ≡ with_event filled NodeEnd → stage_of_events ended.events ≡ AfterRoot
          is_closed ended is_ended =
              subst (λ events. stage_of_events events ≡ AfterRoot) (sym (is_document ended is_ended).2) (built_closed can is).closed
