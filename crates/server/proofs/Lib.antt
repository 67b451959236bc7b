-- The files of laws and theorems, beside the proofs of functions.
pub mod Plain
pub mod Copies
pub mod Recovering
pub mod Taking
pub mod Updating
pub mod Unique
