pub mod Checkable
pub mod Games
pub mod Sides
pub mod Figures
