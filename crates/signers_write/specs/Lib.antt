-- What the functions write: the signers over arrays. Flags is for a private function.
pub mod Arrays
pub mod Flags
