pub mod Keeps
pub mod Sets
