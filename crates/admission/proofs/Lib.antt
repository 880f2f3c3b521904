pub mod Entry
pub mod Teams
