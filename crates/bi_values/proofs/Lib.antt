pub mod Steps
pub mod ValueWords
pub mod TreeValues
pub mod GotValues
pub mod OneAnswer
pub mod ValueFacts
pub mod NameWordFacts
