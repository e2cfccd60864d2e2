pub mod Ascii
pub mod Places
pub mod Reading
pub mod Causes
pub mod Sorting
pub mod Limits
