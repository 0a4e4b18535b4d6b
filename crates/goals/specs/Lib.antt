-- The goals of a proof's steps as code keeps them, and the lines that they give, with samples. What the lines mean is
-- in the crate `steps` (Trace.antt). Next is for a private function.
pub mod Kept
pub mod Goals
pub mod Samples
pub mod Next
