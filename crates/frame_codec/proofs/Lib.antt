pub mod Names
pub mod Numbers
pub mod Codes
pub mod Spelled
pub mod Faults
pub mod Frames
pub mod Read
