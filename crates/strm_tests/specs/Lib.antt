pub mod Toys
pub mod ToyLaws
pub mod Rigs
