pub mod ByteCounter
pub mod ByteCounterLaws
pub mod ByteCounterBehaviour
