pub mod Folds
pub mod Functions
