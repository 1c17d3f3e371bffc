-- Laws that several functions' proofs cite.
pub mod Texts
pub mod Lines
pub mod Rows
pub mod Words
