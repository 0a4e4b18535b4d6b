-- A word that holds two numbers, upper × 4,096 + lower: "A head is kind × 4,096 + first operand." "A step word is code
-- × 4,096 + the named formula's number" (01). Proved in proofs/Words.antt. Assumes nothing.
use Rattle.std.specs.Prelude.{ℕ, ◌+◌, ◌*◌, ◌/◌, ◌%◌, ◌<◌, ◌≤◌, ◌≡◌}
use Rattle.basics.specs.Limits.{most_formulas, most_atoms, most_principals}

abbrev pub radix : ℕ
radix = 4096

abbrev pub word : ℕ → ℕ → ℕ
word u l = u * radix + l

abbrev pub upper : ℕ → ℕ
upper w = w / radix

abbrev pub lower : ℕ → ℕ
lower w = w % radix

-- A word is that of its two numbers, and they are those that it was made of.
abbrev pub WordOfBoth : Type 0
WordOfBoth = (w : ℕ) → word (upper w) (lower w) ≡ w

abbrev pub BothOfWord : Type 0
BothOfWord = (u l : ℕ) → l < radix → (upper (word u l) ≡ u) × (lower (word u l) ≡ l)

-- 01's own words: principal 7's head, and record A's second step, says left of formula 1.
abbrev pub WordsAre : Type 0
WordsAre = (word 5 7 ≡ 20487) × (word 11 1 ≡ 45057) × (upper 45057 ≡ 11) × (lower 45057 ≡ 1)

-- Every lower number is that of an atom and of a principal, and every formula's number is a lower one.
abbrev pub LowersAre : Type 0
LowersAre = (most_atoms ≡ radix) × (most_principals ≡ radix) × (most_formulas ≤ radix)
