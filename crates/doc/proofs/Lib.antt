pub mod Encoded
pub mod Parsing
pub mod Reserving
pub mod Shapes
pub mod Sizes
