pub mod Fronts
pub mod Keeps
pub mod Places
pub mod Rolls
pub mod Taken
