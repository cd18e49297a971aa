pub mod Places
pub mod WordLemmas
pub mod Scan
pub mod FirstWords
pub mod SevenWords
pub mod Counts
pub mod Values
pub mod Ids
pub mod Memories
pub mod Fits
pub mod Ample
mod Parted
mod Decimals
mod Items
pub mod Shown
