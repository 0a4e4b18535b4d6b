-- Marked places in rising order, by flags for places and for groups of places; flags alone; and samples. Listed is for
-- a private function.
pub mod Marks
pub mod Flagged
pub mod Samples
pub mod Listed
