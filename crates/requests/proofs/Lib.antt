-- The files of laws and theorems, beside the proofs of functions.
pub mod Admitting
pub mod Storing
pub mod Written
pub mod Served
pub mod Winners
pub mod Unique
