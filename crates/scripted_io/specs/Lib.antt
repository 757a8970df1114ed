pub mod Script
pub mod Reader
pub mod Writer
