pub mod Empty
pub mod Handed
pub mod Sent
