pub mod Rules
pub mod Plans
pub mod Refusals
pub mod Decisions
