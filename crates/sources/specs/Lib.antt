pub mod Held
pub mod Record
pub mod Source
