-- The files of definitions.
pub mod Forms
pub mod Lent
