-- The files of definitions.
pub mod Writes
pub mod Memory
pub mod Image
pub mod Sound
pub mod Answer
pub mod Request
pub mod Step
pub mod Calls
