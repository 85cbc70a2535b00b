mod Record
pub mod Source
