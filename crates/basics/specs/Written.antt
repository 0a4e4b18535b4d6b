-- "A call that writes a list or a text writes from its start, gives how many words or bytes it wrote, and changes
-- nothing beyond them." (01) Proved in proofs/Written.antt. Assumes nothing.
use Rattle.std.specs.Prelude.{ℕ, ◌+◌, ◌≤◌, ◌≡◌, List, [], ◌∷◌, ◌++◌, length, take, drop}

-- new written over old from its start, as far as old goes; the rest of old stays
unfoldable pub written : List ℕ → List ℕ → List ℕ
written [] new = []
written (o ∷ old) [] = o ∷ old
written (o ∷ old) (n ∷ new) = n ∷ written old new

-- the same from place p on
abbrev pub written_at : List ℕ → ℕ → List ℕ → List ℕ
written_at old p new = take p old ++ written (drop p old) new

-- Where there is room, the new stands at the start and the old follows.
abbrev pub WrittenFits : Type 0
WrittenFits = (old new : List ℕ) → length new ≤ length old → written old new ≡ new ++ drop (length new) old

-- Nothing becomes longer or shorter.
abbrev pub WrittenLength : Type 0
WrittenLength = (old new : List ℕ) → length (written old new) ≡ length old

-- Two texts one after the other are their joint text.
abbrev pub WrittenJoined : Type 0
WrittenJoined =
    (old xs ys : List ℕ) (p : ℕ) → p + length xs ≤ length old
    → written_at (written_at old p xs) (p + length xs) ys ≡ written_at old p (xs ++ ys)
