pub mod Pairs
pub mod Figures
pub mod FigureWalk
pub mod Above
