pub mod Checkable
pub mod Games
pub mod Plays
pub mod Gathered
