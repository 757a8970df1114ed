pub mod Plain
pub mod PlainNodes
pub mod PlainText
pub mod Ranked
pub mod ReadNodes
pub mod Laws
