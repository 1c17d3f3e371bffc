-- Laws that several functions' proofs cite.
pub mod Given
pub mod Shown
pub mod FlowLines
pub mod Overhead
