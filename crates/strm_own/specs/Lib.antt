pub mod Prelude
pub mod OwnPuts
pub mod Looking
pub mod Stands
pub mod Flushed
pub mod StandsLaws
