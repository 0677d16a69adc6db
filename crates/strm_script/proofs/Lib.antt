pub mod Prelude
pub mod Readings
pub mod Printings
pub mod Stopping
pub mod Events
pub mod Ways
pub mod EngineSteps
pub mod Supplies
pub mod Known
pub mod Whole
pub mod PlainTexts
pub mod Grammar
pub mod Fronts
pub mod QueueSpellings
pub mod WordSpellings
pub mod Spellings
mod ScriptRows
mod RunRows
mod TurnRows
mod SpellingRows
