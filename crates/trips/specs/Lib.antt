pub mod TripFigures
