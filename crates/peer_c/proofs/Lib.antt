pub mod HandleValues
pub mod Tells
pub mod Values
