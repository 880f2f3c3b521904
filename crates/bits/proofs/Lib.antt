pub mod Lowest
pub mod Figures
pub mod Walk
