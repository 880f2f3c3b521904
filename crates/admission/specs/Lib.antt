pub mod Admission
