pub mod Answered
pub mod Names
