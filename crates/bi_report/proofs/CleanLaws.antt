-- Lemmas on clean images: checking an image writes nothing if and only if it is clean.
pub mod NoLines
pub mod CleanImages
pub mod CleanConfigurations
pub mod ChosenElements
pub mod CleanSignatures
pub mod ContentEnds
pub mod EmptyIsClean
pub mod CheckTellsClean
pub mod BuiltIsClean
pub mod TextWidths
pub mod TextEnds
pub mod BuiltTextIsClean
