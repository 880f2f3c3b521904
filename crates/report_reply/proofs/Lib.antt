pub mod Cut
pub mod Sixth
pub mod Answered
pub mod MostDeviations
