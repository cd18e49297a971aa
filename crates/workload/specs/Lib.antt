pub mod Draws
pub mod Script
pub mod Summary
pub mod Counts
pub mod Laws
