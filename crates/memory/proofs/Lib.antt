-- The files of laws and theorems, beside the proofs of functions.
pub mod Listed
pub mod Same
pub mod Up
pub mod Down
pub mod Walks
pub mod Runs
pub mod Tables
pub mod Header
pub mod Tested
pub mod Unique
