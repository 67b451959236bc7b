-- The files of laws and theorems, beside the proofs of functions.
pub mod Judging
pub mod LookUp
pub mod OwnMessage
pub mod Starting
pub mod Unique
