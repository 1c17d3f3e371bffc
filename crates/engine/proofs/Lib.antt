-- Laws that several functions' proofs cite.
pub mod Rows
pub mod Tests
pub mod Loop
