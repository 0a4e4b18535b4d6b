-- When a name ends with an ending. Assumes nothing.
use Rattle.std.specs.Prelude.{ℕ, ◌-◌, Bool, true, false, List, [], ◌∷◌, length, drop, eqb}
use Rattle.basics.specs.Choice.{both}

-- whether two byte strings are the same
unfoldable pub same : List ℕ → List ℕ → Bool
same [] [] = true
same [] (y ∷ ys) = false
same (x ∷ xs) [] = false
same (x ∷ xs) (y ∷ ys) = both (eqb x y) (same xs ys)

-- the last bytes of the name, as many as the ending has, are the ending's
abbrev pub ends_with : List ℕ → List ℕ → Bool
ends_with name ending = same (drop (length name - length ending) name) ending
