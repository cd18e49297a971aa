pub mod Changes
pub mod Lists
pub mod Sharing
pub mod TurnLists
pub mod Turning
