pub mod Buffer
pub mod Queue
pub mod Row
pub mod Standing
pub mod Watch
