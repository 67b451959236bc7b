-- The files of laws and theorems, beside the proofs of functions.
pub mod Told
pub mod Stored
pub mod Raised
pub mod Back
pub mod Called
pub mod Requested
pub mod Reported
pub mod Reading
pub mod Stateless
pub mod Unique
