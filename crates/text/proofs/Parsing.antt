-- The promises of specs/Parse.antt, and the laws of a loop that reads one digit after the other. Assumes nothing.
use Prim.Native.Nat.{ℕ, ◌+◌, ◌-◌, ◌*◌, ◌≤◌, ◌<◌, min}
use native.Mathlib.Omega.{arith}
use native.Mathlib.Numerals.{add-one}
use mathlib.Core.Bool.{Bool, true, false}
use mathlib.Core.Path.{◌≡◌, refl, sym, ap, ◌∙◌}
use mathlib.Core.Logic.{⊎_elim}
use mathlib.Core.List.{List, [], ◌∷◌, Memᴰ}
use lib.ListN.{length, get_or, drop, drop_of_length-le}
use lib.Dec.{leb}
use lib.Seq.{drop-cons}
use borrow.Author.Tests.{le-leb}
use Rattle.basics.specs.Choice.{both}
use Rattle.basics.proofs.Choice.{both_true}
use Rattle.std.specs.Prelude.{Some, None, ◌&&◌}
use Rattle.std.specs.Char.{is_ascii_digit}
use Rattle.text.specs.Ascii.{ascii}
use Rattle.text.specs.Decimal.{decimal, value_after, value}
use Rattle.text.specs.Parse.{most_word, is_digit, all_digits, parsed_word, ParsesDecimal, Parses, ParsesNone}
use Rattle.text.proofs.Split.{split}
use Rattle.text.proofs.Digits.{decimal_reads, decimal_digits, decimal_some}

-- ---- the answer

-- Where a byte is no digit there is no number,
pub parsed_none : (text : List ℕ) → all_digits text ≡ false → None ≡ parsed_word text
parsed_none [] e = refl
parsed_none (b ∷ text) e = rw e refl

-- and where there is a byte and all are digits there is one.
pub parsed_all : (text : List ℕ) (n : ℕ) → 0 < length text → all_digits text ≡ true → n ≡ min (value text) most_word
    → Some n ≡ parsed_word text
parsed_all [] n l e is = absurd (omega arith)
parsed_all (b ∷ text) n l e is = rw e (ap Some is)

-- The library's test of a digit is the same.
ascii_digit : (b : ℕ) → is_ascii_digit b ≡ is_digit b
ascii_digit b = and_both (leb 48 b) (leb b 57)
  where
    and_both : (s t : Bool) → (s && t) ≡ both s t
    and_both true t = refl
    and_both false t = refl

-- ---- as far as a word goes

-- More digits say no smaller number,
value_least : (n : ℕ) (bytes : List ℕ) → n ≤ value_after n bytes
unfolding value_after
value_least n [] = omega arith
value_least n (b ∷ bytes) = omega (arith, value_least (10 * n + (b - 48)) bytes)

-- so nothing is lost where a number stops growing at the largest word.
pub value_stopped : (n : ℕ) (bytes : List ℕ)
    → min (value_after (min n most_word) bytes) most_word ≡ min (value_after n bytes) most_word
value_stopped n bytes = ⊎_elim small large (split n most_word)
  where
    small : n < most_word → min (value_after (min n most_word) bytes) most_word ≡ min (value_after n bytes) most_word
    small l =
        let same : min n most_word ≡ n = omega arith in
        ap (λ (m : ℕ). min (value_after m bytes) most_word) same

    large : most_word ≤ n → min (value_after (min n most_word) bytes) most_word ≡ min (value_after n bytes) most_word
    large l = omega (arith, value_least n bytes, value_least (min n most_word) bytes)

-- ---- the loop

-- What the loop has done that read the bytes before i: all of them are digits, so all are if those left are; and what
-- they say, with those left, is what all say, as far as a word goes.
pub record Parsing (text : List ℕ) (n i : ℕ) : Type 0 where
  pub within : i ≤ length text
  pub a_word : n ≤ most_word
  pub digits_left : all_digits (drop i text) ≡ all_digits text
  pub says : min (value_after n (drop i text)) most_word ≡ min (value text) most_word

pub parsing_none : (text : List ℕ) → Parsing text 0 0
parsing_none text = record { within = omega arith; a_word = omega arith; digits_left = refl; says = refl }

module _ {text : List ℕ} {n i : ℕ} (p : Parsing text n i) where
  module _ (l : i < length text) where
    -- the byte here and those after it
    here : drop i text ≡ get_or text i 0 ∷ drop (i + 1) text
    here = drop-cons text i 0 l ∙ ap (λ (k : ℕ). get_or text i 0 ∷ drop k text) (sym (add-one i))

    digits_here : both (is_digit (get_or text i 0)) (all_digits (drop (i + 1) text)) ≡ all_digits text
    unfolding all_digits
    digits_here = ap all_digits (sym here) ∙ p.digits_left

    -- One that is no digit ends it,
    pub parsing_ends : is_ascii_digit (get_or text i 0) ≡ false → None ≡ parsed_word text
    parsing_ends e =
        let no : is_digit (get_or text i 0) ≡ false = sym (ascii_digit (get_or text i 0)) ∙ e in
        parsed_none text (sym digits_here ∙ ap (λ (t : Bool). both t (all_digits (drop (i + 1) text))) no)

    -- and a digit is read.
    pub parsing_more : {m : ℕ} → is_ascii_digit (get_or text i 0) ≡ true
        → m ≡ min (10 * n + (get_or text i 0 - 48)) most_word
        → Parsing text m (i + 1)
    unfolding value_after
    parsing_more {m} e is =
        let next : ℕ = 10 * n + (get_or text i 0 - 48) in
        let rest : List ℕ = drop (i + 1) text in
        let yes : is_digit (get_or text i 0) ≡ true = sym (ascii_digit (get_or text i 0)) ∙ e in
        record {
          within = omega arith;
          a_word = omega arith;
          digits_left = sym (ap (λ (t : Bool). both t (all_digits rest)) yes) ∙ digits_here;
          says =
              ap (λ (k : ℕ). min (value_after k rest) most_word) is
              ∙ value_stopped next rest
              ∙ ap (λ (r : List ℕ). min (value_after n r) most_word) (sym here)
              ∙ p.says;
        }

  -- At the end all are read.
  module _ (none : drop i text ≡ []) where
    digits_end : all_digits text ≡ true
    unfolding all_digits
    digits_end = sym p.digits_left ∙ ap all_digits none

    says_end : n ≡ min (value text) most_word
    unfolding value_after
    says_end =
        let word = p.a_word in
        let all : min n most_word ≡ min (value text) most_word =
        sym (ap (λ (r : List ℕ). min (value_after n r) most_word) none) ∙ p.says in
        omega arith

  pub parsing_all : 0 < length text → length text ≤ i → Some n ≡ parsed_word text
  parsing_all some l =
      let none = drop_of_length-le text l in
      parsed_all text n some (digits_end none) (says_end none)

-- ---- the promises

-- Bytes that are digits one by one are all digits.
each_digit : (bytes : List ℕ) → ((b : ℕ) → Memᴰ b bytes → (48 ≤ b) × (b ≤ 57)) → all_digits bytes ≡ true
unfolding all_digits
each_digit [] each = refl
each_digit (b ∷ bytes) each =
    let (least, most) = each b (Memᴰ.head refl) in
    (both_true (is_digit b) (all_digits bytes)).1 (
      (both_true (leb 48 b) (leb b 57)).1 (le-leb 48 b least, le-leb b 57 most),
      each_digit bytes (λ d m. each d (Memᴰ.tail m)),
    )

parses : (n m : ℕ) → m ≡ min n most_word → parsed_word (decimal n) ≡ Some m
parses n m is =
    sym (parsed_all (decimal n) m (decimal_some n) (each_digit (decimal n) (decimal_digits n))
    (is ∙ ap (λ (k : ℕ). min k most_word) (sym (decimal_reads n))))

pub parses_decimal : ParsesDecimal
parses_decimal = record {
  a_word = λ n l. parses n n (omega arith);
  larger = λ n l. parses n most_word (omega arith);
}

pub parses_samples : Parses
unfolding ascii value_after all_digits
parses_samples = refl

pub parses_none : ParsesNone
unfolding ascii value_after all_digits
parses_none = refl
