pub mod Theory
pub mod Delivery
pub mod States
pub mod Events
pub mod Cells
pub mod Answers
pub mod Lists
