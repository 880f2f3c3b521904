pub mod CountedBits
