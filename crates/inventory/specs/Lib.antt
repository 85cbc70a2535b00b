pub mod ClassWords
pub mod Rows
pub mod Summary
