pub mod Sends
pub mod Hears
