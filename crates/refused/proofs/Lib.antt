-- The files of theorems.
pub mod Refused
pub mod Excluded
