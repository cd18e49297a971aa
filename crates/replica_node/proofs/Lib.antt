pub mod Stands
pub mod Given
pub mod Few
pub mod Noted
pub mod Calls
pub mod Regroups
