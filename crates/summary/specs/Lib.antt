pub mod PatternWords
