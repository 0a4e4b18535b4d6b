-- A step with test 12 answered. The meaning of a step is in the crate `steps`, how premises are told by their shape in
-- `premises`, and how lent slots stand for hypotheses in `hypotheses`.
pub mod Tested
