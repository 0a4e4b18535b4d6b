-- A refusal as one number, of a record and of an exchange file alike: its number × 2^32 + its place. Assumes nothing.
use Rattle.std.specs.Prelude.{ℕ, ◌+◌, ◌*◌, ◌≤◌, ◌≡◌}

-- 2^32
abbrev pub half : ℕ
half = 4294967296

abbrev pub refusal_code : ℕ → ℕ → ℕ
refusal_code number place = number * half + place

-- Refusal 14 at place 1. Proved in proofs/Refusals.antt.
abbrev pub CodeIs : Type 0
CodeIs = refusal_code 14 1 ≡ 60129542145

-- What the two halves of it are: the number, which is never 0, and the place.
abbrev pub RefusalHalves : ℕ → ℕ → ℕ → ℕ → Type 0
RefusalHalves number place high low = (1 ≤ high) × (high ≡ number) × (low ≡ place)
