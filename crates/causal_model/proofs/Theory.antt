pub mod Lists
pub mod Options
pub mod Elements
pub mod Maximal
pub mod Finds
pub mod Risings
pub mod Members
pub mod Totals
