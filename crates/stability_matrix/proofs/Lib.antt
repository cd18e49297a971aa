pub mod Minimums
pub mod Entries
pub mod Standing
pub mod Kept
pub mod Renewals
