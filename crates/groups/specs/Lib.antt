pub mod Pairs
pub mod Figures
