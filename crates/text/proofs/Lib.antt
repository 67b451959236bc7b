-- The files of laws and theorems, beside the proofs of functions.
pub mod Decimals
pub mod Texts
pub mod Lines
pub mod Named
pub mod Unique
pub mod Example
