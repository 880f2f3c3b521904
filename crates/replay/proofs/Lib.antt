pub mod Lists
pub mod CallSteps
pub mod Fresh
