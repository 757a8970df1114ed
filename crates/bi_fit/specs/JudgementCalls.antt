use Rattle.std.specs.Prelude.{◌≡◌, ℕ, ⊤, List, map}
use Rattle.std.specs.Option.{option_map}
use Rattle.bi_blob.specs.Tree.{names}
use Rattle.bi_fit.specs.declared.hashes.Checked.{Checked}
use Rattle.bi_fit.specs.declared.configurations.Named.{Named}
use Rattle.bi_fit.specs.declared.configurations.ConfigError.{ConfigError}
use Rattle.bi_fit.specs.declared.configurations.ConfigError.TheVariants as error
use Rattle.bi_fit.specs.Content.{FitModel, tree_of}
use Rattle.bi_fit.specs.Judgement.{CheckedHash, ListedImage, configuration_nodes}
use Rattle.bi_fit.specs.Judgement.{ListResult, NoConfig, NoKey, BadList, Missing}
use Rattle.bi_fit.specs.Judgement.{ListedImages}

-- What the calls on hash nodes and configurations return.

-- A hash node with its verdict, as the definitions see it.
abbrev pub checked_hash_of : Checked → CheckedHash
checked_hash_of checked = record {
  image = checked.image.now;
  node_name = checked.node.now;
  algo = option_map (λ algo. algo.now) checked.algo;
  value = option_map (λ value. value.now) checked.value;
  verdict = checked.verdict;
}

-- A listed image, as the definitions see it.
abbrev pub listed_image : Named → ListedImage
listed_image named = record {
  name = named.name.now;
  payload = option_map (λ payload. payload.now) named.payload;
}

-- What a configuration lists is found in memory that may run out: images, or a name that no image
-- has.
abbrev pub ListNeedsMemory : ListResult → Type 0
ListNeedsMemory (Missing index) = ⊤
ListNeedsMemory (ListedImages images) = ⊤
ListNeedsMemory listed = ⊥

-- The error of listing images: the first reason that applies, or memory ran out.
abbrev pub IsListError : ListResult → ConfigError → Type 0
IsListError listed error.NoConfig = listed ≡ NoConfig
IsListError listed error.NoKey = listed ≡ NoKey
IsListError listed error.BadList = listed ≡ BadList
IsListError listed (error.Missing index) = listed ≡ Missing index
IsListError listed error.OutOfMemory = ListNeedsMemory listed

-- A configuration of a flattened image tree, by its name.
pub record ConfigurationModel : Type 0 where
  pub content : FitModel
  pub name : List ℕ

-- The configurations of a flattened image tree, in their order.
abbrev pub configurations_of : FitModel → List ConfigurationModel
configurations_of content =
    map
    (λ name. record { content = content; name = name })
    (names (configuration_nodes (tree_of content)))
