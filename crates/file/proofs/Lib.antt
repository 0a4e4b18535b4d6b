-- The theorems whose statements are in specs/, and the lemmas behind the code.
pub mod FileWords
pub mod Reading
pub mod Parts
pub mod LayoutTests
pub mod LayoutLaws
pub mod Reasons
pub mod Outside
pub mod Samples
