-- The theorems whose statements are in specs/, and what a call owes that writes a line.
pub mod Line
pub mod LineFits
pub mod Printed
pub mod Figure1
pub mod Samples
