-- A number in decimal, as the bytes of its digits in ASCII: 48 for 0 to 57 for 9. Proved in proofs/Digits.antt. Assumes
-- nothing.
use Rattle.std.specs.Prelude.{ℕ, zero, suc, ◌+◌, ◌-◌, ◌*◌, ◌/◌, ◌%◌, ◌^◌, ◌≤◌, ◌<◌, ◌≡◌, length, get_or}
use mathlib.Core.List.{List, [], ◌∷◌, ◌++◌, Memᴰ}

-- the digits of n, the most significant first, and none for 0; at most k of them
unfoldable pub digits : ℕ → ℕ → List ℕ
digits zero n = []
digits (suc k) zero = []
digits (suc k) (suc n) = digits k (suc n / 10) ++ ((48 + suc n % 10) ∷ [])

-- those of its tens, which are no more than n, and the last
unfoldable pub decimal : ℕ → List ℕ
decimal n = digits n (n / 10) ++ ((48 + n % 10) ∷ [])

-- the number that digits say, read from the most significant on
unfoldable pub value_after : ℕ → List ℕ → ℕ
value_after n [] = n
value_after n (b ∷ bytes) = value_after (10 * n + (b - 48)) bytes

abbrev pub value : List ℕ → ℕ
value bytes = value_after 0 bytes

-- The digits of a number say the number,
abbrev pub DecimalReads : Type 0
DecimalReads = (n : ℕ) → value (decimal n) ≡ n

-- each of its bytes is a digit,
abbrev pub DecimalDigits : Type 0
DecimalDigits = (n b : ℕ) → Memᴰ b (decimal n) → (48 ≤ b) × (b ≤ 57)

-- and none but 0 begins with 0.
abbrev pub NoLeadingZero : Type 0
NoLeadingZero = (n : ℕ) → get_or (decimal n) 0 0 ≡ 48 → n ≡ 0

-- A number below 10 to the k has k digits at most, where k is 1 or more.
abbrev pub DecimalLength : Type 0
DecimalLength = (n k : ℕ) → n < 10 ^ k → 1 ≤ k → length (decimal n) ≤ k
