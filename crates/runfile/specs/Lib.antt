pub mod File
pub mod Run
pub mod Listing
pub mod Needs
pub mod Before
