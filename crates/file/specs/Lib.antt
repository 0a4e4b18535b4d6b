-- What all kinds of file share: 16-bit words of bytes, a layout as data with tests 1 to 3, and test 7.
pub mod Words
pub mod Layout
pub mod Reasons
pub mod Outside
pub mod Samples
