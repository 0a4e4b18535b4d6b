-- The promises of specs/RecordLine.antt, ExchangeLine.antt and IndependenceLine.antt: every line of an answer fits into
-- `most_line` bytes. Assumes nothing.
use Prim.Native.Nat.{ℕ, zero, suc, ◌+◌, ◌*◌, ◌≤◌, ◌<◌}
use native.Mathlib.Omega.{arith}
use mathlib.Core.Path.{refl}
use mathlib.Core.List.Memᴰ
use mathlib.Core.List.{List, [], ◌∷◌, ◌++◌}
use lib.ListN.{length, take, length-append}
use Rattle.std.specs.Prelude.{Err}
use Rattle.basics.specs.Membership.{◌∈◌}
use Rattle.basics.specs.Limits.{most_steps}
use Rattle.text.specs.Ascii.{ascii}
use Rattle.text.specs.Decimal.{decimal}
use Rattle.text.proofs.Digits.{decimal_length}
use Rattle.record.specs.Verdict.{Granted, Refused}
use Rattle.exchange.specs.Verdict.{Equal, Refused as ExchangeRefused}
use Rattle.independence.specs.Verdict as Independence
use Rattle.line.specs.RefusedLine.{refused_line}
use Rattle.line.specs.RecordLine.{listed, record_line, LineFits}
use Rattle.line.specs.ExchangeLine.{exchange_line, ExchangeLineFits}
use Rattle.line.specs.IndependenceLine.{independence_line, IndependenceLineFits}

-- A word of 16 bits after a blank has 6 bytes at most,
listed_fits : (count : ℕ) (ks : List ℕ) → ((k : ℕ) → k ∈ ks → k < 65536) → length (listed (take count ks)) ≤ count * 6
unfolding ascii listed
listed_fits zero ks h = omega arith
listed_fits (suc count) [] h = omega arith
listed_fits (suc count) (k ∷ ks) h =
    let word = h k (Memᴰ.head refl) in
    omega (
      arith,
      listed_fits count ks (λ j m. h j (Memᴰ.tail m)),
      decimal_length k 5 (omega arith) (omega arith),
      length-append (ascii " " ++ decimal k) (listed (take count ks)),
      length-append (ascii " ") (decimal k),
    )

-- a refusal's number has 2 digits and its place 5,
pub refused_fits : (number place : ℕ) → number < 100 → place ≤ most_steps → length (refused_line number place) ≤ 23
unfolding ascii refused_line
refused_fits number place few within =
    let text : List ℕ = ascii "refused " ++ decimal number in
    omega (
      arith,
      decimal_length number 2 (omega arith) (omega arith),
      decimal_length place 5 (omega arith) (omega arith),
      length-append (text ++ ascii " place " ++ decimal place) (ascii "\n"),
      length-append (text ++ ascii " place ") (decimal place),
      length-append text (ascii " place "),
      length-append (ascii "refused ") (decimal number),
    )

-- and a count of at most 256 has 3.
pub line_fits : LineFits
unfolding ascii record_line
line_fits (Granted count) ks s h =
    let text : List ℕ = ascii "granted " ++ decimal count in
    omega (
      arith,
      listed_fits count ks h,
      decimal_length count 3 (omega arith) (omega arith),
      length-append (text ++ listed (take count ks)) (ascii "\n"),
      length-append text (listed (take count ks)),
      length-append (ascii "granted ") (decimal count),
    )
line_fits (Err r) ks s h = omega (arith, refused_fits r.number r.place (omega (arith, s.1)) s.2)

-- `equal` and its line feed have 6 bytes.
pub exchange_line_fits : ExchangeLineFits
unfolding ascii exchange_line
exchange_line_fits Equal s = omega arith
exchange_line_fits (Err r) s = omega
    (arith, refused_fits r.number r.place (omega (arith, s.1)) s.2)

-- `not independent` and its line feed have 16.
pub independence_line_fits : IndependenceLineFits
unfolding ascii independence_line
independence_line_fits Independence.Independent s = omega arith
independence_line_fits Independence.NotIndependent s = omega arith
independence_line_fits (Err r) s = omega
    (arith, refused_fits r.number r.place (omega (arith, s.1)) s.2)
