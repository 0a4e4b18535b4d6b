-- What the private functions of tests 4 and 5 speak of. The tests themselves are defined in `table`, in
-- specs/Tests.antt.
pub mod Bounds
pub mod Index
pub mod Chains
