-- The files of definitions.
pub mod Lists
pub mod Bytes
pub mod Reply
pub mod Index
pub mod Vector
pub mod Record
pub mod Message
pub mod Session
pub mod Forms
