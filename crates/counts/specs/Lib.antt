pub mod TeamCounts
