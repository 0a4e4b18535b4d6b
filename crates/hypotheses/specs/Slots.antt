-- Slots: the hypotheses held. "Hypotheses are truths and form a set: a statement that stands twice is one hypothesis."
-- (01) The first half of the slots has a mark for each formula number, 0 where that formula isn't held. The second half
-- has the list of hypotheses: what is held, each once, in the order in which it came, the statements first. The part of
-- the list that premises added is the trail by which it is taken back. Assumes nothing.
use Rattle.std.specs.Prelude.{ℕ, zero, suc, ◌+◌, ◌/◌, min, Bool, not, List, [], ◌∷◌, eqb, ltb, length, get_or, set}
use Rattle.basics.specs.Choice.{pick, both}

-- how many marks there are, and places
abbrev pub half : List ℕ → ℕ
half slots = length slots / 2

-- whether the slots show n as a hypothesis; a number past the marks is none
abbrev pub is_held : List ℕ → ℕ → Bool
is_held slots n = both (ltb n (half slots)) (not (eqb (get_or slots n 0) 0))

-- the hypotheses that slots show: those of the numbers below n, and all
unfoldable pub shown_below : List ℕ → ℕ → List ℕ
shown_below slots zero = []
shown_below slots (suc n) = pick (is_held slots n) (n ∷ shown_below slots n) (shown_below slots n)

abbrev pub shown : List ℕ → List ℕ
shown slots = shown_below slots (half slots)

-- n isn't held yet, and has a mark and, after so many hypotheses, a place
abbrev pub is_new : List ℕ → ℕ → ℕ → Bool
is_new slots held n = both (ltb n (half slots)) (both (ltb held (half slots)) (eqb (get_or slots n 0) 0))

-- n held: it takes the next place, and there is one hypothesis more; unless it is held already
abbrev pub held_one : List ℕ → ℕ → ℕ → List ℕ
held_one slots held n = pick (is_new slots held n) (set (set slots n 1) (half slots + held) n) slots

abbrev pub count_one : List ℕ → ℕ → ℕ → ℕ
count_one slots held n = pick (is_new slots held n) (held + 1) held

-- numbers held, one after another
unfoldable pub held_all : List ℕ → ℕ → List ℕ → List ℕ
held_all slots held [] = slots
held_all slots held (n ∷ ns) = held_all (held_one slots held n) (count_one slots held n) ns

unfoldable pub count_all : List ℕ → ℕ → List ℕ → ℕ
count_all slots held [] = held
count_all slots held (n ∷ ns) = count_all (held_one slots held n) (count_one slots held n) ns

-- the mark of n taken away
abbrev pub unmarked : List ℕ → ℕ → List ℕ
unmarked slots n = pick (ltb n (half slots)) (set slots n 0) slots

-- the hypotheses at the places from the first to before the second taken back, the last first
unfoldable pub released_to : List ℕ → ℕ → ℕ → List ℕ
released_to slots from zero = slots
released_to slots from (suc to) = pick (ltb to from) slots (released_to (unmarked slots (get_or slots (half slots + to) 0))
    from to)

abbrev pub released : List ℕ → ℕ → ℕ → List ℕ
released slots from to = released_to slots from (min to (half slots))
