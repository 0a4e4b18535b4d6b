-- How test 5 finds an earlier entry with the same head and second: by an index of digital search trees in one array of
-- slots. The first `roots` slots lead to the trees' first entries, and then two slots for each entry lead on from it,
-- one for a key whose next bit is 0 and one for 1. A slot holds a link, one more than the number of an entry, or 0 for
-- none. Only private functions of src/by_index.rt and src/repeat.rt speak of this; what test 5 answers is
-- `repeated_entry` of `table`, where no slot stands. Assumes nothing.
use Rattle.std.specs.Prelude.{ℕ, ◌+◌, ◌*◌, ◌/◌, ◌%◌, ◌<◌, ◌≤◌, Bool, true, false, List, ◌≡◌, length, get_or, Option, Some, None, Result, Ok, Err}
use Rattle.basics.specs.Place.{Place}
use Rattle.basics.specs.First.{first, found}
use Rattle.table.specs.Tests.{same}
use Rattle.table_check.specs.declared.by_index.GivenUp.{GivenUp}

-- the root of a head and a second: any function would do for what is promised; this one is for speed
abbrev pub root : ℕ → ℕ → ℕ → ℕ
root roots head second = (head + second * 39277) * 40503 % 65536 * roots / 65536

-- the number whose bits, from the lowest, lead through a tree
abbrev pub key : ℕ → ℕ → ℕ
key head second = head + second * 65536

-- the slot that leads on from entry j
abbrev pub onward : ℕ → ℕ → ℕ → ℕ
onward roots j x = roots + 2 * j + x % 2

-- the search from slot p with the bits x meets entry k
pub data Meets (roots : ℕ) (slots : List ℕ) (k : ℕ) : ℕ → ℕ → Type 0 where
  here : {p x : ℕ} → get_or slots p 0 ≡ k + 1 → Meets roots slots k p x
  further :
      {p x : ℕ} (j : ℕ) → get_or slots p 0 ≡ j + 1 → Meets roots slots k (onward roots j x) (x / 2)
      → Meets roots slots k p x

module _ (heads seconds : List ℕ) where
  -- i is a place of both arrays
  pub record Within (i : ℕ) : Type 0 where
    pub in_heads : i < length heads
    pub in_seconds : i < length seconds

  -- an earlier entry has the head and second of entry i
  abbrev pub is_repeated : ℕ → Bool
  is_repeated i = found (first (same heads seconds i) i)

  -- the search for an entry with the head and second of i, from their root, meets entry k
  abbrev pub Found : ℕ → List ℕ → ℕ → ℕ → Type 0
  Found roots slots i k =
      Meets roots slots k (root roots (get_or heads i 0) (get_or seconds i 0)) (key (get_or heads i 0) (get_or seconds i 0))

  -- the index of the entries before n; links rise along a path
  pub record Indexed (roots : ℕ) (slots : List ℕ) (n : ℕ) : Type 0 where
    pub some_root : 0 < roots
    pub room : roots + 2 * length heads ≤ length slots
    pub few : length slots < 65536
    pub known : (p : ℕ) → get_or slots p 0 ≤ n
    pub rises : (p j : ℕ) → get_or slots p 0 ≡ j + 1 → p < roots + 2 * j
    pub each : (k : ℕ) → k < n → Found roots slots k k

  -- what is told of entry i, which was to be taken in; `passed` is free: it decides only when the index is given up
  abbrev pub Told : ℕ → List ℕ → ℕ → Option ℕ → Type 0
  Told roots slots i (Some passed) = (is_repeated i ≡ false) × Indexed roots slots (i + 1)
  Told roots slots i None = is_repeated i ≡ true

-- a search that ended has the answer; one that was given up has none
abbrev pub Answers : Result Place GivenUp → Place → Type 0
Answers (Ok place) answer = place ≡ answer
Answers (Err given_up) answer = Unit
