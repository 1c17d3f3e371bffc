-- Laws that several functions' proofs cite, the claims, and document 01's vectors.
pub mod Laws
pub mod Claims
pub mod Vectors
