-- What a walk leaves of the slots: nothing that is held for its premises, and all that was held before. For the
-- contracts of private functions of `walk`. Assumes nothing.
use Rattle.std.specs.Prelude.{ℕ, zero, suc, ◌+◌, ◌<◌, ◌≤◌, ◌≡◌, List, eqb, length, get_or}
use Rattle.basics.specs.Choice.{pick}
use Rattle.hypotheses.specs.Slots.{half, released}

-- the words before n are the same
pub record SameUpTo (n : ℕ) (before after : List ℕ) : Type 0 where
  pub same_length : length after ≡ length before
  pub same_words : (i : ℕ) → i < n → get_or after i 0 ≡ get_or before i 0

-- The marks, and the first places of the list of hypotheses, are the same.
pub record Kept (held : ℕ) (before after : List ℕ) : Type 0 where
  pub same : SameUpTo (half before + held) before after

-- how many of the numbers below n are marked
unfoldable pub marked : List ℕ → ℕ → ℕ
marked slots zero = 0
marked slots (suc n) = marked slots n + pick (eqb (get_or slots n 0) 0) 0 1

-- No more places are taken than marks are set, so that there is always a place for what isn't held yet.
pub record Live (slots : List ℕ) (held : ℕ) : Type 0 where
  pub places : held ≤ marked slots (half slots)

-- Taken back from the place `from` on, the slots are as they were.
pub record Undoes (from : ℕ) (before : List ℕ) (held : ℕ) (slots : List ℕ) : Type 0 where
  pub leaves : Kept from before (released slots from held)
