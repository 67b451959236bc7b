-- The files of definitions.
pub mod Farm
pub mod Demand
pub mod Beside
