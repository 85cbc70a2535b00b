pub mod Coverage
pub mod Object
pub mod Opened
