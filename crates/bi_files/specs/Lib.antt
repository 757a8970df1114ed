pub mod Files
pub mod FilesAfter
pub mod Directories
pub mod MemoryFiles
pub mod KnownSteps
