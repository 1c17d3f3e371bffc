pub mod Grammar
pub mod Made
pub mod Needs
pub mod Shown
pub mod Words
