pub mod Queues
pub mod Sender
pub mod Told
pub mod Kept
pub mod Lines
pub mod Nexts
