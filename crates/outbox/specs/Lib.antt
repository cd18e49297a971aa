pub mod Sent
pub mod Fields
pub mod Standing
pub mod Laws
