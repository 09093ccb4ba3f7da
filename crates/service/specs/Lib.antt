pub mod Service
pub mod Channel
