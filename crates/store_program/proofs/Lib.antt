pub mod Transcripts
pub mod Standing
pub mod Going
pub mod Ending
pub mod LiveLines
pub mod LiveEnding
pub mod WordLemmas
