pub mod Rounds
pub mod Storms
