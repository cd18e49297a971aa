pub mod Escape
pub mod Opening
pub mod Runs
