-- The files of definitions.
pub mod Forms
