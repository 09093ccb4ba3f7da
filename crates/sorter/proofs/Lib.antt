pub mod SortLaws
pub mod HandLaws
