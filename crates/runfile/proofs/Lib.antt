-- Laws that several functions' proofs cite.
pub mod Files
pub mod Lines
pub mod Going
pub mod Whole
pub mod Runs
pub mod Counts
pub mod Claims
pub mod Before
