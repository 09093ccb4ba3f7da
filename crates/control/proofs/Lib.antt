pub mod GoesLaws
pub mod RangeLaws
