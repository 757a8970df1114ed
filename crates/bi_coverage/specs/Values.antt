use Rattle.std.specs.Prelude.{ℕ, List, map}
use Rattle.std.specs.Borrow.{Bor}
use Rattle.std.specs.Global.{Vec}
use Rattle.bi_base.specs.Slices.{bytes_of}
use Rattle.bi_blob.specs.Lookups.{Sibling}
use Rattle.bi_blob.specs.Tree.{PropertyMap, FileNode}
use Rattle.bi_fdt.specs.declared.node.NodeRef.{NodeRef}
use Rattle.bi_fdt.specs.Views.{node_of}
use Rattle.bi_fit.specs.Judgement.{listed_names}
use Rattle.bi_fit.specs.NormalNodes.{properties_by_name, nodes_by_name}
use Rattle.bi_coverage.specs.declared.concern.SignatureConcern.{SignatureConcern as ConcernValue}
use Rattle.bi_coverage.specs.declared.concern.SignatureConcern.TheVariants as concern
use Rattle.bi_coverage.specs.declared.reading.ConfigurationCoverage as configuration
use Rattle.bi_coverage.specs.declared.reading.SignatureCoverage as signature
use Rattle.bi_coverage.specs.Coverage.{SignatureConcern, NoNodes, NoImages, Uncovered, Foreign}
use Rattle.bi_coverage.specs.Coverage.{Strings, SignatureCoverage, ConfigurationCoverage}

-- Values as the code has them.

-- A node of a file, with the properties of each node by their names.
abbrev pub meaning_of_sibling : Sibling FileNode → Sibling PropertyMap
meaning_of_sibling sibling = record {
  name = sibling.name;
  own = properties_by_name sibling.own;
  children = nodes_by_name sibling.children;
  later = nodes_by_name sibling.later;
}

-- A node of a blob, in the same way.
abbrev pub meaning_of_node : NodeRef → Sibling PropertyMap
meaning_of_node node = meaning_of_sibling (node_of node)

-- The names in each of these lists.
abbrev pub names_in_lists : List (Vec (Bor (List ℕ))) → List (List (List ℕ))
names_in_lists lists = map (λ names. bytes_of names.items) lists

-- The names that a value lists.
abbrev pub names_listed_by : Bor (List ℕ) → List (List ℕ)
names_listed_by value = listed_names value.now

-- A concern.
abbrev pub signature_concern : ConcernValue → SignatureConcern
signature_concern concern.NoNodes = NoNodes
signature_concern concern.NoImages = NoImages
signature_concern (concern.Uncovered path) = Uncovered path.items
signature_concern (concern.Foreign path) = Foreign path.now
signature_concern concern.Strings = Strings

-- What is known of a signature node.
abbrev pub signature_value : signature.SignatureCoverage → SignatureCoverage
signature_value value = record {
  name = value.name.now;
  concerns = map signature_concern value.concerns.items;
}

-- What is known of a configuration.
abbrev pub configuration_value : configuration.ConfigurationCoverage → ConfigurationCoverage
configuration_value value = record {
  name = value.name.now;
  signatures = map signature_value value.signatures.items;
}
