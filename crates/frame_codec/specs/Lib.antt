pub mod Grammar
pub mod Fault
pub mod Reading
pub mod Message
pub mod Laws
pub mod Worked
