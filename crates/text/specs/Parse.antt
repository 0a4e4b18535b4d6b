-- A number of 16 bits read from its decimal digits, as a caller of a program writes it: digits only, and larger than a
-- word counts as 65,535. Proved in proofs/Parsing.antt. Assumes nothing.
use Rattle.std.specs.Prelude.{ℕ, ◌≤◌, ◌<◌, min, Bool, true, ◌≡◌, List, [], ◌∷◌, map, leb, Option, Some, None}
use Rattle.basics.specs.Choice.{pick, both}
use Rattle.text.specs.Ascii.{ascii}
use Rattle.text.specs.Decimal.{decimal, value}

-- the largest number of 16 bits
abbrev pub most_word : ℕ
most_word = 65535

-- 48 for 0 to 57 for 9
abbrev pub is_digit : ℕ → Bool
is_digit b = both (leb 48 b) (leb b 57)

unfoldable pub all_digits : List ℕ → Bool
all_digits [] = true
all_digits (b ∷ bytes) = both (is_digit b) (all_digits bytes)

-- a number where there is a byte and all bytes are digits: the one that they say, or the largest where that is larger
abbrev pub parsed_word : List ℕ → Option ℕ
parsed_word [] = None
parsed_word (b ∷ bytes) = pick (all_digits (b ∷ bytes)) (Some (min (value (b ∷ bytes)) most_word)) None

-- A number in decimal is read as it was written, and any that is larger than a word as the largest.
pub record ParsesDecimal : Type 0 where
  pub a_word : (n : ℕ) → n ≤ most_word → parsed_word (decimal n) ≡ Some n
  pub larger : (n : ℕ) → most_word < n → parsed_word (decimal n) ≡ Some most_word

-- A digit; zeros in front; the last principal; the largest word, one more, and far more.
abbrev pub Parses : Type 0
Parses =
    map (λ s. parsed_word (ascii s)) ("0" ∷ "7" ∷ "007" ∷ "4095" ∷ "65535" ∷ "65536" ∷ "99999999999999999999" ∷ [])
    ≡ map Some (0 ∷ 7 ∷ 7 ∷ 4095 ∷ 65535 ∷ 65535 ∷ 65535 ∷ [])

-- Nothing; a sign; a blank after it; another base; the bytes before 0 and after 9.
abbrev pub ParsesNone : Type 0
ParsesNone =
    map (λ s. parsed_word (ascii s)) ("" ∷ "-1" ∷ "7 " ∷ "0x7" ∷ "/" ∷ ":" ∷ [])
    ≡ None ∷ None ∷ None ∷ None ∷ None ∷ None ∷ []
