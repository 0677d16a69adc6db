pub mod Openers
pub mod Rule
