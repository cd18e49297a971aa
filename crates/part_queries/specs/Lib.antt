pub mod Asked
pub mod Finds
pub mod Heads
pub mod Headed
pub mod Piles
