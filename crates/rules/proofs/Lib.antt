-- The files of laws and theorems, beside the proofs of functions.
pub mod Script
pub mod Computed
pub mod Examples
pub mod Further
pub mod Layouts
pub mod Looked
pub mod Refusals
pub mod Unique
