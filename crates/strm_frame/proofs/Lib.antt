pub mod Prelude
pub mod WidePools
pub mod Handing
pub mod Budgeting
pub mod Shifting
pub mod Turns
pub mod Beside
pub mod Nearest
pub mod Emptiness
pub mod FirstSizes
pub mod Read
pub mod Behind
pub mod Asked
pub mod Seeking
mod Staying
pub mod Pairs
pub mod Letting
pub mod Flags
mod Queued
