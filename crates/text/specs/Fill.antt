-- Where text ends that is written into lent bytes from a place on, as far as there is room; what stands there then is
-- `written_at` of the crate lent. Proved in proofs/Places.antt. Assumes nothing.
use Rattle.std.specs.Prelude.{ℕ, ◌+◌, ◌-◌, ◌≤◌, min, ◌≡◌, List, ◌++◌, length}
use Rattle.basics.specs.Written.{written_at}

-- The place after the last byte written: p and as many as there are new ones, or as there is room for. Past the end
-- there is no room.
abbrev pub place_after : List ℕ → ℕ → List ℕ → ℕ
place_after old p new = p + min (length new) (length old - p)

-- Where the text fits, its end is the place after it.
abbrev pub FillFits : Type 0
FillFits = (old : List ℕ) (p : ℕ) (new : List ℕ) → p + length new ≤ length old → place_after old p new ≡ p + length new

-- At the end and past it nothing is written, and the place stays.
abbrev pub FillPast : Type 0
FillPast = (old : List ℕ) (p : ℕ) (new : List ℕ) → length old ≤ p → (written_at old p new ≡ old) × (place_after old p new ≡ p)

-- Two texts, the second from the place after the first, are their joint text, whether they fit or not,
abbrev pub FillJoined : Type 0
FillJoined =
    (old : List ℕ) (p : ℕ) (xs ys : List ℕ)
    → written_at (written_at old p xs) (place_after old p xs) ys ≡ written_at old p (xs ++ ys)

-- and end where it ends.
abbrev pub PlacesJoined : Type 0
PlacesJoined =
    (old : List ℕ) (p : ℕ) (xs ys : List ℕ)
    → place_after (written_at old p xs) (place_after old p xs) ys ≡ place_after old p (xs ++ ys)
