pub mod Asked
pub mod Teams
