pub mod CrcLaws
pub mod FoldLaws
pub mod SumLaws
