-- The authorization logic of Garg and Pfenning (003, Figure 1) as document 01 takes it, and what is promised of it:
-- definitions and the statements of theorems, to be read in this order. The proofs are in proofs/.
pub mod Proposition
pub mod Judgment
pub mod Principals
pub mod Derivation
pub mod Depth
pub mod Named
pub mod Signed
pub mod Structural
pub mod OneStep
pub mod SaysLeft
pub mod Sides
pub mod Cut
pub mod Force
pub mod Parts
pub mod Substitution
pub mod SignedAlone
pub mod Models
pub mod Countermodels
pub mod Promises
pub mod Figure1
pub mod Samples
pub mod Says
pub mod Misreadings
