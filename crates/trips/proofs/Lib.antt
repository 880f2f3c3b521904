pub mod Runs
pub mod TeamTrips
pub mod TripWalk
