pub mod OfSheet
