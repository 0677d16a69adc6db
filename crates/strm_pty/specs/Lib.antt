pub mod Prelude
pub mod Does
pub mod Beside
pub mod Packs
pub mod Shares
