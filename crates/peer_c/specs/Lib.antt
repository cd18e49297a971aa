pub mod Codes
pub mod Handle
pub mod Tells
