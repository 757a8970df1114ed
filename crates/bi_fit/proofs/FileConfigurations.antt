use Rattle.std.proofs.Common.{◌≡◌, ℕ, suc, List, [], ◌∷◌, length, map, Option, Some, None, option_and_then, slice_get, refl, sym, ap, subst}
use Rattle.std.proofs.Common.{◌∙◌, rules}
use Rattle.std.specs.List.{AllByRecursion}
use Rattle.std.specs.Option.{option_map}
use Rattle.std.proofs.lemmas.List.{length-map}
use Rattle.std.proofs.lemmas.Option.{slice_get-map}
use Rattle.bi_base.specs.Strings.{text_before_nul}
use Rattle.bi_blob.specs.Tree.{Nodes, none, node, FileNode, AreDistinct, AreNodes, AreProperties, IsTree, names, properties_of}
use Rattle.bi_blob.specs.Tree.{with_each, tree_without_places}
use Rattle.bi_blob.specs.BlobLaws.{FindsNodes}
use Rattle.bi_blob.specs.Lookups.{Sibling, siblings, node_at, node_named, value_named}
use Rattle.bi_fdt.specs.Content.{Blob, root_of}
use Rattle.bi_fit.specs.Names.{configurations_name, default_name}
use Rattle.bi_fit.specs.ImageTree.{children_of, nodes_or_none}
use Rattle.bi_fit.specs.Content.{FitModel, tree_of, IsHeld}
use Rattle.bi_fit.specs.Judgement.{configuration_nodes, default_of}
use Rattle.bi_fit.specs.JudgementCalls.{ConfigurationModel, configurations_of}
use Rattle.bi_fit.specs.HashNodes.{file_configurations, IsConfiguration}
use Rattle.bi_blob.proofs.Blobs.Lookups.{nodes_are_found}
use Rattle.bi_fit.proofs.Trees.{children_of-with_each}
use Rattle.bi_fit.proofs.TreeShapes.{AreNodes-children_of}
use Rattle.bi_blob.proofs.Blobs.Lookups.{names-with_each}
use Rattle.bi_fit.proofs.FileNodes.{names-by_name, get-by_name, configuration_nodes_are}
use Rattle.bi_fit.proofs.FileNodes.{configurations_parts}

-- The names, the number and the default of the configurations of an image tree that was read are those in its blob, and each is found by
-- its name.

-- The node of the configurations of a blob.
abbrev pub configurations_in : Blob → Option (Sibling FileNode)
configurations_in blob = node_named (root_of blob).children configurations_name

-- The names of the configurations.
pub names_are : (content : FitModel) →
    names (configuration_nodes (tree_of content)) ≡ map (λ sibling. sibling.name) (siblings (file_configurations content.blob))
names_are content =
    ap names (configuration_nodes_are content) ∙ names-by_name (file_configurations content.blob)

-- Their number.
pub configuration_count_is : (content : FitModel) →
    length (names (configuration_nodes (tree_of content)))
    ≡ length (siblings (nodes_or_none (option_map (λ found. found.children) (configurations_in content.blob))))
configuration_count_is content = ap length (names_are content) ∙ simp length-map

-- The name at an index.
pub name_at : (content : FitModel) (index : ℕ) →
    slice_get (names (configuration_nodes (tree_of content))) index
    ≡ option_map (λ sibling. sibling.name) (option_and_then (λ found. node_at found.children index) (configurations_in content.blob))
name_at content index = search (rules, names_are, option_and_then, slice_get-map)

-- The default.
pub default_is : (content : FitModel) →
    default_of (tree_of content) ≡ option_and_then
    (λ found. option_and_then text_before_nul (value_named (properties_of found.own) default_name)) (configurations_in content.blob)
default_is content = search (rules, option_and_then, configurations_parts, get-by_name)

-- Nodes that a tree may have have distinct names.
pub names_are_distinct : {Own : Type 0} (IsOwn : Own → Type 0) (nodes : Nodes Own) → AreNodes IsOwn nodes → AreDistinct (names nodes)
names_are_distinct IsOwn none are = tt
names_are_distinct IsOwn (node name own children later) are = (are.0.is_new, names_are_distinct IsOwn later are.2)

-- What holds of the thing at each index holds of each thing.
each_thing : {X : Type 0} (P : X → Type 0) (things : List X) → ((index : ℕ) (thing : X) → slice_get things index ≡ Some thing → P thing) →
    AllByRecursion P things
each_thing P [] holds = tt
each_thing P (thing ∷ later) holds =
    (holds 0 thing refl, each_thing P later (λ index other there. holds (suc index) other there))

-- The configurations of a blob have distinct names.
distinct_configurations : (blob : Blob) → IsTree AreProperties (tree_without_places (root_of blob)) →
    AreDistinct (names (file_configurations blob))
distinct_configurations blob is =
    by_found (children_of configurations_name (root_of blob).children) refl
  where
    by_found : (found : Option (Nodes FileNode)) → children_of configurations_name (root_of blob).children ≡ found →
        AreDistinct (names (nodes_or_none found))
    by_found None there = tt
    by_found (Some nodes) there =
        subst AreDistinct (names-with_each properties_of nodes)
        (names_are_distinct AreProperties (with_each properties_of nodes)
        (AreNodes-children_of AreProperties configurations_name (with_each properties_of (root_of blob).children)
        (with_each properties_of nodes)
        (children_of-with_each properties_of configurations_name (root_of blob).children ∙ ap (option_map (with_each properties_of)) there)
        is.children))

-- Each configuration is found by its name.
pub each_is_found : (content : FitModel) → IsHeld content →
    AllByRecursion (IsConfiguration content) (siblings (file_configurations content.blob))
each_is_found content held =
    each_thing (IsConfiguration content) (siblings (file_configurations content.blob))
    (λ index sibling there. record { is_found = found.at_index index sibling there })
  where
    found : FindsNodes (file_configurations content.blob)
    found = nodes_are_found (file_configurations content.blob) (distinct_configurations content.blob held.is_blob.holds.is_tree)

-- The configurations by their names.
pub configurations_are : (content : FitModel) →
    map (λ (sibling : Sibling FileNode). record { content = content; name = sibling.name }) (siblings (file_configurations content.blob))
    ≡ configurations_of content
configurations_are content =
    in_list (siblings (file_configurations content.blob)) ∙ sym (ap (map named) (names_are content))
  where
    named : List ℕ → ConfigurationModel
    named name = record { content = content; name = name }

    in_list : (left : List (Sibling FileNode)) →
        map (λ (sibling : Sibling FileNode). named sibling.name) left ≡ map named (map (λ sibling. sibling.name) left)
    in_list [] = refl
    in_list (sibling ∷ left) = ap (λ l. named sibling.name ∷ l) (in_list left)
