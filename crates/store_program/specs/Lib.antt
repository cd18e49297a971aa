pub mod Words
pub mod Feeding
pub mod Run
pub mod Live
pub mod LiveFeeding
pub mod Statuses
pub mod Worked
