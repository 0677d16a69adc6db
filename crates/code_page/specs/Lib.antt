pub mod CodePages
pub mod PageLaws
pub mod PageBehaviour
