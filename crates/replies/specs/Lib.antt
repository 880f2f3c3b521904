pub mod Verdict
pub mod Reply
