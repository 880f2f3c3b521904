pub mod RunningTotals
