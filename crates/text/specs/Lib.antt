-- The files of definitions.
pub mod Text
