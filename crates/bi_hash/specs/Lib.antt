pub mod Algos
pub mod Digests
pub mod Verdicts
pub mod KnownVerdicts
pub mod Regions
pub mod KeptDigests
