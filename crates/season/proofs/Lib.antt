pub mod Pass
pub mod Found
