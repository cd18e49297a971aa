pub mod Rules
pub mod Covers
pub mod Uncovered
pub mod Values
pub mod Parts
pub mod PartsOfKinds
pub mod PartsOfSums
pub mod ObjectParts
