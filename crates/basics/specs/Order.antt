-- "refused by the first reason in the fixed order that applies" (demand 1): the order is a list of numbers, stated
-- once, and first means that nothing that stands before it in that list applies. Proved in proofs/Order.antt. Assumes
-- nothing.
use Rattle.std.specs.Prelude.{ℕ, ◌≤◌, ◌<◌, ◌≡◌, ◌↔◌, List, [], ◌∷◌, eqb}
use Rattle.basics.specs.Choice.{pick}
use Rattle.basics.specs.Membership.{◌∈◌}

-- "Refused, in checking order" (01); "Refusal 8 .. is tested after 15 and before 16" (02, job 3)
abbrev pub checking_order : List ℕ
checking_order = 1 ∷ 2 ∷ 3 ∷ 4 ∷ 5 ∷ 6 ∷ 7 ∷ 9 ∷ 10 ∷ 11 ∷ 12 ∷ 13 ∷ 14 ∷ 15 ∷ 8 ∷ []

-- the numbers that stand before one in an order; before a number that is not in it, all of them
unfoldable pub before : List ℕ → ℕ → List ℕ
before [] number = []
before (n ∷ ns) number = pick (eqb n number) [] (n ∷ before ns number)

-- Of reasons to refuse, each with its number and its place: one that applies, where none that stands before it in the
-- order does.
pub record FirstReason (order : List ℕ) (Reason : ℕ → ℕ → Type 0) (number p : ℕ) : Type 0 where
  pub applies : Reason number p
  pub none_before : (n q : ℕ) → n ∈ before order number → ¬ Reason n q

-- But for 8 the numbers rise in this order: before another stand those that are lower,
abbrev pub BeforeIsLower : Type 0
BeforeIsLower =
    (number n : ℕ) → 1 ≤ number → number ≤ 15 → ¬ (number ≡ 8)
    → n ∈ before checking_order number ↔ ((1 ≤ n) × (n < number) × (¬ (n ≡ 8)))

-- and before 8 all others.
abbrev pub BeforeEight : Type 0
BeforeEight = (n : ℕ) → n ∈ before checking_order 8 ↔ ((1 ≤ n) × (n ≤ 15) × (¬ (n ≡ 8)))

-- So of reasons without 8 the first is the one with the lowest number.
abbrev pub FirstIsLowest : Type 1
FirstIsLowest =
    (Reason : ℕ → ℕ → Type 0) → ((n p : ℕ) → Reason n p → (1 ≤ n) × (n ≤ 15) × (¬ (n ≡ 8)))
    → (number p : ℕ) → FirstReason checking_order Reason number p
    ↔ (Reason number p × ((n q : ℕ) → n < number → ¬ Reason n q))

-- An order in which 18 stands before 1, and 8 after 15: before 8 stand all others, and 18 before all.
abbrev pub Samples : Type 0
Samples =
    (before (18 ∷ 1 ∷ 2 ∷ 7 ∷ 9 ∷ 15 ∷ 8 ∷ []) 8 ≡ 18 ∷ 1 ∷ 2 ∷ 7 ∷ 9 ∷ 15 ∷ [])
    × (before (18 ∷ 1 ∷ 2 ∷ 7 ∷ 9 ∷ 15 ∷ 8 ∷ []) 18 ≡ [])
    × (before checking_order 9 ≡ 1 ∷ 2 ∷ 3 ∷ 4 ∷ 5 ∷ 6 ∷ 7 ∷ [])
    × (before checking_order 8 ≡ 1 ∷ 2 ∷ 3 ∷ 4 ∷ 5 ∷ 6 ∷ 7 ∷ 9 ∷ 10 ∷ 11 ∷ 12 ∷ 13 ∷ 14 ∷ 15 ∷ [])
