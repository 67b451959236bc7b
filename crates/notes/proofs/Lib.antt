-- The files of laws and theorems, beside the proofs of functions.
pub mod Lists
pub mod Numbers
pub mod Pieces
pub mod Vectors
pub mod Records
pub mod Messages
pub mod Round
pub mod Answers
pub mod Reading
pub mod Sessions
pub mod Unique
