pub mod Window
pub mod Queue
pub mod Check
pub mod Filled
pub mod History
pub mod Queues
pub mod Laws
