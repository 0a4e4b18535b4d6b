-- Which of the named files are exchange files.
pub mod EndsWith
