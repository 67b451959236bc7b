-- The files of definitions.
pub mod Wrong
