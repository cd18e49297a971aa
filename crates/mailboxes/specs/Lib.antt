pub mod Laws
pub mod Passes
pub mod Rule
pub mod Seen
