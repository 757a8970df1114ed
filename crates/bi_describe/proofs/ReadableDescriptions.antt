-- Lemmas on descriptions: what has one description is similar.
pub mod Paths
pub mod Items
pub mod ItemTrees
pub mod DescribedNodes
pub mod CodeWords
pub mod SameImages
pub mod SameTrees
pub mod SameJson
pub mod SameDescriptions
