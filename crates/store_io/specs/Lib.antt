pub mod Bytes
pub mod Keeping
pub mod Memory
pub mod MemoryKeeping
pub mod MemoryMoments
pub mod Standard
