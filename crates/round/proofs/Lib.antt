pub mod BackLaws
pub mod HeaderLaws
pub mod SumLaws
pub mod RoundLaws
