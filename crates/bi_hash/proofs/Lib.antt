pub mod WordBytes
pub mod DigestBytes
pub mod GoodValues
pub mod AlgorithmNames
pub mod VerdictFacts
pub mod KeptDigests
