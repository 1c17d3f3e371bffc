-- Laws that several functions' proofs cite, and what holds of the two programs.
pub mod Scans
pub mod Bytes
pub mod Puts
pub mod Steps
pub mod Files
pub mod Drafts
pub mod Sizes
pub mod Ends
pub mod Records
pub mod Shown
pub mod Again
pub mod Round
pub mod Faults
