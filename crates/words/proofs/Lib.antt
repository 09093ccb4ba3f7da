pub mod CommandLaws
pub mod RangeLaws
