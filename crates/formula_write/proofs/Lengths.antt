-- The promise of specs/Length.antt, and what the functions on lengths ask for. Assumes nothing.
use Prim.Native.Nat.{ℕ, ◌+◌, ◌≤◌, ◌<◌, min}
use native.Mathlib.Decide.{dec_lt}
use native.Mathlib.Omega.{arith}
use mathlib.Core.Path.{◌≡◌, sym, ap, ◌∙◌}
use mathlib.Core.Logic.{⊎_elim}
use mathlib.Core.List.{List, ◌++◌, map, map-append}
use lib.Dec.{ltb}
use lib.ListN.{length, take, drop, get_or, length-append, length-map, get_or-map}
use lib.Seq.{take_all, take_at}
use borrow.Author.Tests.{lt-ltb, le-ltb}
use Rattle.basics.specs.Written.{written}
use Rattle.basics.proofs.Written.{written_fits, written_full}
use Rattle.text.specs.Ascii.{ascii}
use Rattle.text.proofs.Split.{split}
use Rattle.logic.specs.Proposition.{Proposition, false}
use Rattle.table.specs.declared.entry.Entry.{Entry}
use Rattle.table.specs.Spelled.{among, spelled}
use Rattle.table.proofs.Spelled.{length_spelled, spelled_front}
use Rattle.table.proofs.Upward.{Upward, count_values}
use Rattle.sentences.specs.Formula.{proposition_text}
use Rattle.formula_write.specs.Operand.{in_brackets}
use Rattle.formula_write.specs.Length.{capped, length_of, lengths_of, CappedBelow}

pub capped_below : CappedBelow
capped_below room n l = by (dec_lt room n)
  where
    by : Dec (room < n) → ltb room (capped n) ≡ ltb room n
    by (yes m) = lt-ltb room (capped n) (omega arith) ∙ sym (lt-ltb room n m)
    by (no m) = le-ltb room (capped n) (omega arith) ∙ sym (le-ltb room n (omega arith))

-- ---- sums

-- The length of two texts, one after the other.
pub length_then : (xs ys : List ℕ) {a b r : ℕ} → a ≡ capped (length xs) → b ≡ capped (length ys) → r ≡ capped (a + b)
    → r ≡ capped (length (xs ++ ys))
length_then xs ys e f g = omega (arith, length-append xs ys)

-- the same where the first is at hand as it is,
pub length_after : (xs ys : List ℕ) {b r : ℕ} → b ≡ capped (length ys) → r ≡ capped (length xs + b) → r
    ≡ capped (length (xs ++ ys))
length_after xs ys e f = omega (arith, length-append xs ys)

-- and where both are
pub length_counted : (xs ys : List ℕ) {b r : ℕ} → b ≡ length ys → r ≡ capped (length xs + b) → r
    ≡ capped (length (xs ++ ys))
length_counted xs ys e f = omega (arith, length-append xs ys)

-- The length of a bracket, where k is that of its two round brackets and its word.
brackets_long : (left word right : List ℕ) → length (in_brackets left word right)
    ≡ length word + 2 + (length left + length right)
unfolding ascii
brackets_long left word right =
    omega (
      arith,
      length-append left (word ++ (right ++ ascii ")")),
      length-append word (right ++ ascii ")"),
      length-append right (ascii ")"),
    )

pub length_brackets : (left word right : List ℕ) (k : ℕ) {a b s r : ℕ} → k ≡ length word + 2
    → a ≡ capped (length left) → b ≡ capped (length right) → s ≡ capped (a + b) → r ≡ capped (k + s)
    → r ≡ capped (length (in_brackets left word right))
length_brackets left word right k e f g h i = rw (brackets_long left word right) (omega arith)

-- ---- looked up

-- The length of a number's text; for one that has none it is that of `false`.
pub length_found : (ls : List ℕ) (n : ℕ) (made : List Proposition) → ls ≡ map length_of made
    → get_or ls n 5 ≡ length_of (among made n)
unfolding ascii proposition_text length_of
length_found ls n made e = ap (λ (r : List ℕ). get_or r n 5) e ∙ get_or-map length_of made n false

-- ---- the pass over the table

module _ {es : List Entry} {old out : List ℕ} {i : ℕ} (u : Upward length_of es old out i) where
  -- The loop that measures one entry after the other has written the lengths of those before i.
  long : length (map length_of (spelled (take i es))) ≡ i
  long = count_values length_of es i u.some

  done : out ≡ written old (map length_of (spelled (take i es)))
  done =
      let within = u.within in
      u.done
      ∙ ap (λ (k : ℕ). map length_of (spelled (take i es)) ++ drop k old) (sym long)
      ∙ sym (written_fits old (map length_of (spelled (take i es))) (omega (arith, long)))

  -- Where the room or the entries end, these are all that there is room for.
  pub measured_all : min (length old) (length es) ≤ i → out ≡ written old (lengths_of es)
  measured_all l = ⊎_elim (λ (m : i < length old). ended (omega arith)) full (split i (length old))
    where
      full : length old ≤ i → out ≡ written old (lengths_of es)
      full l =
          let (rest, is) = spelled_front es i in
          done
          ∙ sym (written_full old (map length_of (spelled (take i es))) (map length_of rest) (rw long l))
          ∙ ap (written old) (sym (map-append length_of (spelled (take i es)) rest) ∙ ap (map length_of) (sym is))

      ended : length es ≤ i → out ≡ written old (lengths_of es)
      ended l = done ∙ ap (λ (t : List Entry). written old (map length_of (spelled t))) (take_all i es l)

-- What is measured where there is room for all stands at the start.
pub measured_whole : (es : List Entry) (old out : List ℕ) → length es ≤ length old → out ≡ written old (lengths_of es)
    → take (length es) out ≡ lengths_of es
measured_whole es old out l e =
    let long : length (lengths_of es) ≡ length es = length-map (spelled es) length_of ∙ length_spelled es in
    ap (take (length es)) (e ∙ written_fits old (lengths_of es) (omega arith))
    ∙ take_at (lengths_of es) (drop (length (lengths_of es)) old) (length es) long
