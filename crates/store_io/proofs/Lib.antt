pub mod BytesLemmas
pub mod MemoryMoments
