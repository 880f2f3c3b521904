pub mod TeamFigures
