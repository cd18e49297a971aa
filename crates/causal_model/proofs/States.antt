pub mod Outcomes
pub mod Early
pub mod Steps
pub mod States
pub mod Journals
