pub mod OverLaws
pub mod PageLaws
