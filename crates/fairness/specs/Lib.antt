pub mod RunningCounts
