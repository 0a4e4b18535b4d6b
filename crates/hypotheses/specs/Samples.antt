-- "Hypotheses .. form a set: a statement that stands twice is one hypothesis" (01): samples of the slots, four marks and
-- four places, in which no two can change places. Proved in proofs/Samples.antt, by computation. Assumes nothing.
use Rattle.std.specs.Prelude.{ℕ, true, false, ◌≡◌, List, [], ◌∷◌, map}
use Rattle.hypotheses.specs.Slots.{is_held, shown, held_one, count_one, held_all, count_all, released}

-- no formula held
abbrev pub none : List ℕ
none = 0 ∷ 0 ∷ 0 ∷ 0 ∷ 0 ∷ 0 ∷ 0 ∷ 0 ∷ []

-- the statements 2, 0, 2 and 3 held: marked, and 2, 0 and 3 at the first places, in this order
abbrev pub three : List ℕ
three = 1 ∷ 0 ∷ 1 ∷ 1 ∷ 2 ∷ 0 ∷ 3 ∷ 0 ∷ []

abbrev pub Samples : Type 0
Samples =
    (held_all none 0 (2 ∷ 0 ∷ 2 ∷ 3 ∷ []) ≡ three)
    × (count_all none 0 (2 ∷ 0 ∷ 2 ∷ 3 ∷ []) ≡ 3)
    -- 1 takes the next place; 0 is held, and 4 is past the marks
    × (held_one three 3 1 ≡ 1 ∷ 1 ∷ 1 ∷ 1 ∷ 2 ∷ 0 ∷ 3 ∷ 1 ∷ [])
    × (map (count_one three 3) (1 ∷ 0 ∷ 4 ∷ []) ≡ 4 ∷ 3 ∷ 3 ∷ [])
    -- what came after the first is taken back, and 2 stays
    × (released three 1 3 ≡ 0 ∷ 0 ∷ 1 ∷ 0 ∷ 2 ∷ 0 ∷ 3 ∷ 0 ∷ [])
    × (map (is_held three) (0 ∷ 1 ∷ 2 ∷ 3 ∷ 4 ∷ []) ≡ true ∷ false ∷ true ∷ true ∷ false ∷ [])
    × (shown three ≡ 3 ∷ 2 ∷ 0 ∷ [])
