-- The files of laws and theorems, beside the proofs of functions.
pub mod Within
