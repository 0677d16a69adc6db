pub mod Hosts
pub mod Known
pub mod Sizes
