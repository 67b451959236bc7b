-- The files of definitions.
pub mod Place
pub mod Forms
