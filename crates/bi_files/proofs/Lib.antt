pub mod BesideNames
pub mod NewFiles
pub mod NewDirectories
pub mod FilesAfter
pub mod DirectoriesAfter
pub mod MemoryLogs
pub mod StepFacts
