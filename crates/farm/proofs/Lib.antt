-- The files of laws and theorems, beside the proofs of functions.
pub mod Acted
pub mod Prefix
pub mod Held
pub mod Steps
pub mod Taken
pub mod Told
pub mod Known
pub mod Inv
pub mod Moves
pub mod Serving
pub mod Runs
pub mod Demands
pub mod Beside
pub mod Gaps
pub mod Welcome
pub mod Worked
pub mod Limits
