pub mod Logged
pub mod Finds
pub mod HeadOrder
pub mod Groups
pub mod NextValue
pub mod Cells
pub mod Listed
pub mod Dealing
