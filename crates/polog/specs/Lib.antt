pub mod Value
pub mod Standing
pub mod Order
pub mod Marks
pub mod Rows
pub mod Laws
