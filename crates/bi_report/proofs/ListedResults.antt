use Rattle.std.proofs.Common.{◌≡◌, List, [], ◌∷◌, ◌++◌, map, flat_map, refl, sym, ap, ap₂, ◌∙◌}
use Rattle.std.specs.List.{AllByRecursion}
use Rattle.bi_blob.specs.Tree.{FileNode, names}
use Rattle.bi_blob.specs.Lookups.{Sibling, siblings}
use Rattle.bi_fit.specs.declared.key.Key.{Key}
use Rattle.bi_fit.specs.Content.{FitModel, IsHeld, tree_of}
use Rattle.bi_fit.specs.HashNodes.{IsConfiguration, file_configurations, file_listed}
use Rattle.bi_fit.specs.Judgement.{configuration_nodes, listed_of}
use Rattle.bi_fit.specs.Names.{all_keys}
use Rattle.bi_fit.proofs.FileConfigurations.{each_is_found, names_are}
use Rattle.bi_fit.proofs.FileLists.{listed_is}
use Rattle.bi_report.specs.Checking.{Concern, configuration_concerns, list_concerns}
use Rattle.bi_report.specs.FoundConcerns.{NodeItself, concerns_in, found_in_configuration, found_in_key}
use Rattle.bi_report.proofs.FoundConcerns.{concerns_in_both, concerns_in_each, only_concerns}

-- The concerns about configurations are those about the children of the node of the configurations, one after the other.

-- About one.
of_node : (content : FitModel) → IsHeld content → (entry : Sibling FileNode) → IsConfiguration content entry →
    concerns_in (found_in_configuration content.images entry) ≡ configuration_concerns (tree_of content) entry.name
of_node content held entry is =
    concerns_in_each (found_in_key content.images entry) _ of_key all_keys
  where
    of_key : (key : Key) → concerns_in (found_in_key content.images entry key)
        ≡ list_concerns entry.name key (listed_of (tree_of content) entry.name key)
    of_key key =
        only_concerns (NodeItself entry) (list_concerns entry.name key (file_listed content.images entry key))
        ∙ ap (list_concerns entry.name key) (sym (listed_is content held entry.name entry key is.is_found))

-- About several.
of_nodes : (content : FitModel) → IsHeld content → (entries : List (Sibling FileNode)) →
    AllByRecursion (IsConfiguration content) entries →
    concerns_in (flat_map (found_in_configuration content.images) entries)
    ≡ flat_map (configuration_concerns (tree_of content)) (map (λ sibling. sibling.name) entries)
of_nodes content held [] are = refl
of_nodes content held (entry ∷ later) are =
    concerns_in_both (found_in_configuration content.images entry) (flat_map (found_in_configuration content.images) later)
    ∙ ap₂ (λ (first rest : List Concern). first ++ rest) (of_node content held entry are.0) (of_nodes content held later are.1)

-- About all.
pub concerns_of_configurations : (content : FitModel) → IsHeld content →
    concerns_in (flat_map (found_in_configuration content.images) (siblings (file_configurations content.blob)))
    ≡ flat_map (configuration_concerns (tree_of content)) (names (configuration_nodes (tree_of content)))
concerns_of_configurations content held =
    of_nodes content held (siblings (file_configurations content.blob)) (each_is_found content held)
    ∙ ap (flat_map (configuration_concerns (tree_of content))) (sym (names_are content))
