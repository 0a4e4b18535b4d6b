-- Formula tables as document 01 lays them out: what an entry is, tests 2, 4 and 5, and the proposition that an entry
-- spells out. Definitions, then the statements of theorems, to be read in this order. The proofs are in proofs/.
pub mod Entry
pub mod Tests
pub mod Spelled
pub mod Number
pub mod Laws
pub mod Reasons
pub mod Samples
