pub mod RunsLaws
pub mod LaneLaws
pub mod FillLaws
