pub mod PlaceLaws
pub mod PlaneLaws
pub mod WrongLaws
pub mod GroupLaws
