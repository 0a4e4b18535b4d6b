-- Samples of texts, of numbers in decimal, and of text that has room and that has none. Proved in proofs/Samples.antt,
-- by computation. Assumes nothing.
use Rattle.std.specs.Prelude.{◌≡◌, [], ◌∷◌, map}
use Rattle.basics.specs.Written.{written_at}
use Rattle.text.specs.Ascii.{ascii}
use Rattle.text.specs.Fill.{place_after}
use Rattle.text.specs.Decimal.{decimal}

abbrev pub Granted : Type 0
Granted = ascii "granted" ≡ 103 ∷ 114 ∷ 97 ∷ 110 ∷ 116 ∷ 101 ∷ 100 ∷ []

abbrev pub Decimals : Type 0
Decimals =
    map decimal (0 ∷ 7 ∷ 10 ∷ 512 ∷ 65535 ∷ 18446744073709551615 ∷ [])
    ≡ map ascii ("0" ∷ "7" ∷ "10" ∷ "512" ∷ "65535" ∷ "18446744073709551615" ∷ [])

-- "ok" over five places, from each place on, and from one past the end.
abbrev pub Filled : Type 0
Filled =
    map (λ p. written_at (ascii ".....") p (ascii "ok")) (0 ∷ 1 ∷ 2 ∷ 3 ∷ 4 ∷ 5 ∷ 6 ∷ [])
    ≡ map ascii ("ok..." ∷ ".ok.." ∷ "..ok." ∷ "...ok" ∷ "....o" ∷ "....." ∷ "....." ∷ [])

abbrev pub Places : Type 0
Places = map (λ p. place_after (ascii ".....") p (ascii "ok")) (0 ∷ 1 ∷ 2 ∷ 3 ∷ 4 ∷ 5 ∷ 6 ∷ []) ≡ 2 ∷ 3 ∷ 4 ∷ 5 ∷ 5 ∷ 5 ∷ 6 ∷ []
