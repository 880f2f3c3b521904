pub mod Walk
pub mod Reworked
