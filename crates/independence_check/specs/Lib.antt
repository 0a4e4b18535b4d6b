-- What the test whether a principal can matter answers over arrays, and the marks of a table's formulas.
pub mod Parts
pub mod SideMarks
