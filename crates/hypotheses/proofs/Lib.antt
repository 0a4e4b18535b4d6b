-- Laws of the slots: how the loops change them, which hypotheses they show, how the trail takes back what was added,
-- what the slots show once more is held; and the samples. Assumes nothing.
pub mod Slots
pub mod Shown
pub mod Trail
pub mod Held
pub mod Samples
