pub mod Examination
