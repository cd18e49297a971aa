pub mod Risings
pub mod Drops
pub mod Husks
pub mod Nexts
