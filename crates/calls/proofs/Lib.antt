pub mod Shown
pub mod CallNumbers
pub mod Outcomes
pub mod Accept
