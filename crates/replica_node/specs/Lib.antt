pub mod Notes
pub mod Nodes
pub mod Rules
pub mod Epochs
pub mod Noting
