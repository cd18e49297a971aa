pub mod Laws
pub mod Rule
pub mod Steps
pub mod Tokens
pub mod Turns
