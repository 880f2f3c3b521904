pub mod TeamBreaks
