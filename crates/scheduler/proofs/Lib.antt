-- Laws that several functions' proofs cite.
pub mod Setups
pub mod Copied
