pub mod Parts
pub mod Places
pub mod Deliverable
pub mod Kept
pub mod Waits
pub mod Standing
mod Watched
mod Following
