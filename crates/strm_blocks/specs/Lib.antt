pub mod Blocks
pub mod Outcomes
pub mod Pool
pub mod DataBlocks
pub mod Message
pub mod Table
pub mod Parts
