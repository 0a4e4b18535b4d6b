-- What the functions of the record check answer over arrays: the parts of `record_answer` (record/specs/Answer.antt).
pub mod Parts
pub mod Samples
