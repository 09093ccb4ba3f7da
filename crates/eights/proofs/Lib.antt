pub mod EightLaws
pub mod SpreadLaws
pub mod WordLaws
pub mod RunLaws
