pub mod Names
pub mod Padded
pub mod Timestamps
pub mod Updates
pub mod Orders
pub mod Texts
