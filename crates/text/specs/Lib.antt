pub mod Spelt
pub mod Text
