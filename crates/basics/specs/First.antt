-- The first place of a fault. "Places count from 0." (01) Assumes nothing.
use Rattle.std.specs.Prelude.{ℕ, zero, suc, ◌<◌, Bool, true, false, ◌≡◌, ◌↔◌}
use Rattle.basics.specs.Place.{Place, At, Nowhere}
use Rattle.basics.specs.Choice.{pick}

-- a place that was found stands; else the other counts
abbrev pub or_else : Place → Place → Place
or_else (At i) other = At i
or_else Nowhere other = other

-- the first of the places 0 to n - 1 that has a fault
unfoldable pub first : (ℕ → Bool) → ℕ → Place
first fault zero = Nowhere
first fault (suc n) = or_else (first fault n) (pick (fault n) (At n) Nowhere)

abbrev pub found : Place → Bool
found (At i) = true
found Nowhere = false

-- "place: the first such entry", "the first such position" (01): i is a place below n that has a fault, and no place
-- before it has one
pub record IsFirst (Fault : ℕ → Type 0) (n i : ℕ) : Type 0 where
  pub within : i < n
  pub is_fault : Fault i
  pub none_before : (j : ℕ) → j < i → ¬ Fault j

-- What `first` answers, where a test asks for the fault. Proved in proofs/First.antt.
abbrev pub FirstPlace : Type 1
FirstPlace =
    (fault : ℕ → Bool) (Fault : ℕ → Type 0) (n : ℕ) → ((i : ℕ) → i < n → fault i ≡ true ↔ Fault i)
    → (i : ℕ) → first fault n ≡ At i ↔ IsFirst Fault n i

abbrev pub NoPlace : Type 0
NoPlace = (fault : ℕ → Bool) (n : ℕ) → first fault n ≡ Nowhere ↔ ((i : ℕ) → i < n → fault i ≡ false)
