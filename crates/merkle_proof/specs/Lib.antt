pub mod Shape
pub mod Tree
pub mod Head
pub mod Proofs
pub mod ProofFiles
pub mod Laws
pub mod FileLaws
pub mod Blocks
