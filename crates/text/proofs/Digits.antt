-- The promises of specs/Decimal.antt, from two equations: a number below 10 is one digit, and any other is its tens and
-- then one digit. Assumes nothing.
use Prim.Native.Nat.{ℕ, zero, suc, ◌+◌, ◌-◌, ◌*◌, ◌/◌, ◌%◌, ◌^◌, ◌≤◌, ◌<◌, max}
use native.Mathlib.Nat.{div-eq_of_lt, div-lt_iff_lt-mul, pow-suc, one-le-pow}
use native.Mathlib.Omega.{arith}
use mathlib.Core.Path.{◌≡◌, refl, sym, ap, ◌∙◌}
use mathlib.Core.Logic.{⊎_elim}
use mathlib.Core.List.Memᴰ
use mathlib.Core.List.{List, [], ◌∷◌, ◌++◌, Memᴰ}
use lib.ListN.{length, get_or, length-append, get_or-append}
use Rattle.std.specs.Fmt.{decimal as printed}
use Rattle.std.proofs.lemmas.Fmt.{decimal_by_steps}
use Rattle.text.specs.Decimal.{digits, decimal, value_after, value, DecimalReads, DecimalDigits, NoLeadingZero, DecimalLength}
use Rattle.text.proofs.Split.{split}

-- 0 has no digits of its own.
digits_zero : (k : ℕ) → digits k 0 ≡ []
unfolding digits
digits_zero zero = refl
digits_zero (suc k) = refl

-- Room for n digits is enough.
digits_enough : (k l n : ℕ) → n ≤ k → n ≤ l → digits k n ≡ digits l n
unfolding digits
digits_enough zero l zero h g = sym (digits_zero l)
digits_enough zero l (suc n) h g = absurd (omega arith)
digits_enough (suc k) l zero h g = sym (digits_zero l)
digits_enough (suc k) zero (suc n) h g = absurd (omega arith)
digits_enough (suc k) (suc l) (suc n) h g =
    ap (λ (r : List ℕ). r ++ ((48 + suc n % 10) ∷ [])) (digits_enough k l (suc n / 10) (omega arith) (omega arith))

-- With so much room the digits are the number in decimal.
digits_decimal : (k n : ℕ) → 0 < n → n ≤ k → digits k n ≡ decimal n
unfolding digits decimal
digits_decimal k zero p h = absurd (omega arith)
digits_decimal zero (suc n) p h = absurd (omega arith)
digits_decimal (suc k) (suc n) p h =
    ap (λ (r : List ℕ). r ++ ((48 + suc n % 10) ∷ [])) (digits_enough k (suc n) (suc n / 10) (omega arith) (omega arith))

-- A number below 10 is one digit,
pub decimal_one : (n : ℕ) → n < 10 → decimal n ≡ (48 + n) ∷ []
unfolding decimal
decimal_one n h =
    let none : digits n (n / 10) ≡ [] = ap (digits n) (div-eq_of_lt h) ∙ digits_zero n in
    let last : n % 10 ≡ n = omega arith in
    ap (λ (r : List ℕ). r ++ ((48 + n % 10) ∷ [])) none ∙ ap (λ (d : ℕ). (48 + d) ∷ []) last

-- and any other is its tens, and then one digit.
pub decimal_more : (n : ℕ) → 10 ≤ n → decimal n ≡ decimal (n / 10) ++ ((48 + n % 10) ∷ [])
unfolding decimal
decimal_more n h = ap (λ (r : List ℕ). r ++ ((48 + n % 10) ∷ [])) (digits_decimal n (n / 10) (omega arith) (omega arith))

-- What holds of the numbers below 10, and of any other where it holds of its tens,
module _ (P : ℕ → Type 0) (one : (n : ℕ) → n < 10 → P n) (more : (n : ℕ) → 10 ≤ n → P (n / 10) → P n) where
  -- holds of every number below a bound,
  by_tens_below : (k n : ℕ) → n < k → P n
  by_tens_below zero n h = absurd (omega arith)
  by_tens_below (suc k) n h =
      let tens : 10 ≤ n → P (n / 10) = λ g. by_tens_below k (n / 10) (omega arith) in
      ⊎_elim (λ l. one n l) (λ g. more n g (tens g)) (split n 10)

  -- and so of every number.
  pub by_tens : (n : ℕ) → P n
  by_tens n = by_tens_below (suc n) n (omega arith)

-- One more digit is read after those before it.
value_last : (n : ℕ) (bytes : List ℕ) (b : ℕ) → value_after n (bytes ++ (b ∷ [])) ≡ 10 * value_after n bytes + (b - 48)
unfolding value_after
value_last n [] b = refl
value_last n (a ∷ bytes) b = value_last (10 * n + (a - 48)) bytes b

pub decimal_reads : DecimalReads
unfolding value_after
decimal_reads = by_tens (λ (n : ℕ). value (decimal n) ≡ n) (λ n l. ap value (decimal_one n l) ∙ one n) more
  where
    one : (n : ℕ) → value ((48 + n) ∷ []) ≡ n
    one n = omega arith

    more : (n : ℕ) → 10 ≤ n → value (decimal (n / 10)) ≡ n / 10 → value (decimal n) ≡ n
    more n g tens =
        let last : value (decimal n) ≡ 10 * value (decimal (n / 10)) + (48 + n % 10 - 48) =
        ap value (decimal_more n g) ∙ value_last 0 (decimal (n / 10)) (48 + n % 10) in
        omega arith

pub decimal_digits : DecimalDigits
decimal_digits = by_tens (λ (n : ℕ). (b : ℕ) → Memᴰ b (decimal n) → (48 ≤ b) × (b ≤ 57)) one more
  where
    bounds : (d b : ℕ) → d < 10 → b ≡ 48 + d → (48 ≤ b) × (b ≤ 57)
    bounds d b l e = (omega arith, omega arith)

    one : (n : ℕ) → n < 10 → (b : ℕ) → Memᴰ b (decimal n) → (48 ≤ b) × (b ≤ 57)
    one n l b m = bounds n b l (Memᴰ.eq_of_singleton (rw (decimal_one n l) at m))

    more : (n : ℕ) → 10 ≤ n → ((b : ℕ) → Memᴰ b (decimal (n / 10)) → (48 ≤ b) × (b ≤ 57))
        → (b : ℕ) → Memᴰ b (decimal n) → (48 ≤ b) × (b ≤ 57)
    more n g tens b m =
        ⊎_elim (tens b) (λ last. bounds (n % 10) b (omega arith) (Memᴰ.eq_of_singleton last))
        (Memᴰ.append_cases (decimal (n / 10)) (rw (decimal_more n g) at m))

-- There is one digit at least,
pub decimal_some : (n : ℕ) → 0 < length (decimal n)
unfolding decimal
decimal_some n = omega (arith, length-append (digits n (n / 10)) ((48 + n % 10) ∷ []))

-- and one more than the tens have.
pub length_more : (n : ℕ) → 10 ≤ n → length (decimal n) ≡ length (decimal (n / 10)) + 1
length_more n g = ap length (decimal_more n g) ∙ length-append (decimal (n / 10)) ((48 + n % 10) ∷ [])

pub no_leading_zero : NoLeadingZero
no_leading_zero = by_tens (λ (n : ℕ). get_or (decimal n) 0 0 ≡ 48 → n ≡ 0) one more
  where
    one : (n : ℕ) → n < 10 → get_or (decimal n) 0 0 ≡ 48 → n ≡ 0
    one n l e = let first : 48 + n ≡ 48 = rw (decimal_one n l) at e in omega arith

    more : (n : ℕ) → 10 ≤ n → (get_or (decimal (n / 10)) 0 0 ≡ 48 → n / 10 ≡ 0) → get_or (decimal n) 0 0 ≡ 48 → n ≡ 0
    more n g tens e =
        let front = get_or-append (decimal (n / 10)) ((48 + n % 10) ∷ []) 0 0 (decimal_some (n / 10)) in
        let none : n / 10 ≡ 0 = tens (sym front ∙ (rw (decimal_more n g) at e)) in
        omega arith

pub decimal_length : DecimalLength
decimal_length = by_tens (λ (n : ℕ). (k : ℕ) → n < 10 ^ k → 1 ≤ k → length (decimal n) ≤ k) one more
  where
    one : (n : ℕ) → n < 10 → (k : ℕ) → n < 10 ^ k → 1 ≤ k → length (decimal n) ≤ k
    one n l k h p = omega (arith, ap length (decimal_one n l))

    more : (n : ℕ) → 10 ≤ n → ((k : ℕ) → n / 10 < 10 ^ k → 1 ≤ k → length (decimal (n / 10)) ≤ k)
        → (k : ℕ) → n < 10 ^ k → 1 ≤ k → length (decimal n) ≤ k
    more n g tens zero h p = absurd (omega arith)
    more n g tens (suc zero) h p = absurd (omega arith)
    more n g tens (suc (suc k)) h p =
        let below : n < 10 ^ suc k * 10 = rw (pow-suc 10 (suc k)) at h in
        let tens-below : n / 10 < 10 ^ suc k = (div-lt_iff_lt-mul {k = 10} (omega arith)).1 below in
        omega (arith, length_more n g, tens (suc k) tens-below (omega arith))

-- It has more than k digits from 10 to the k on,
length_least : (k n : ℕ) → 10 ^ k ≤ n → k < length (decimal n)
length_least zero n h = decimal_some n
length_least (suc k) n h =
    let tens : 10 ^ k * 10 ≤ n = rw (pow-suc 10 k) at h in
    let some : 1 ≤ 10 ^ k = one-le-pow k 10 (omega arith) in
    omega (arith, length_more n (omega arith), length_least k (n / 10) (omega arith))

-- so the power of 10 that it comes to says how many; 0 has as many as 1.
pub length_power : (n m k : ℕ) → m ≡ max n 1 → 10 ^ k ≤ m → m < 10 * 10 ^ k → length (decimal n) ≡ k + 1
length_power zero m k is least less =
    let one : m ≡ 1 = omega arith in
    omega (
      arith,
      length_least k m least,
      ap length (decimal_one m (omega arith)),
      ap length (decimal_one 0 (omega arith)),
    )
length_power (suc n) m k is least less =
    let same : m ≡ suc n = omega arith in
    let below : suc n < 10 ^ suc k = rw (pow-suc 10 k) (omega arith) in
    omega (arith, length_least k (suc n) (omega arith), decimal_length (suc n) (suc k) below (omega arith))

-- What the library prints of a number of 64 bits is the same.
pub printed_same : (n : ℕ) → n < 2 ^ 64 → printed n ≡ decimal n
printed_same = decimal_by_steps (λ (n : ℕ) (r : List ℕ). r ≡ decimal n) (λ n l. sym (decimal_one n l))
    (λ n r g tens. ap (λ (r : List ℕ). r ++ ((48 + n % 10) ∷ [])) tens ∙ sym (decimal_more n g))
