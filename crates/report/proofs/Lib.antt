pub mod Broken
pub mod RowsReported
