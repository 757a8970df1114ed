pub mod Changes
pub mod NodeCodes
pub mod Properties
pub mod TreeNodes
pub mod Trees
pub mod KnownChanges
pub mod Laws
