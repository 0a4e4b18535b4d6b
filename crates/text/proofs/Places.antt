-- The promises of specs/Fill.antt, and what a loop asks for that writes one byte after the other. Assumes nothing.
use Prim.Native.Nat.{ℕ, ◌+◌, ◌≤◌, ◌<◌, max}
use native.Mathlib.Omega.{arith}
use native.Mathlib.Numerals.{add-one}
use mathlib.Core.Path.{◌≡◌, refl, sym, ap, ap₂, ◌∙◌}
use mathlib.Core.Logic.{◌⊎◌, ⊎_elim}
use mathlib.Core.List.{List, [], ◌∷◌, ◌++◌}
use lib.ListN.{length, take, drop, get_or, set, length-append, length-set, take-append-drop}
use lib.Seq.{take_all, take-suc, length-take-le}
use Rattle.basics.specs.Written.{written_at}
use Rattle.basics.proofs.Written.{written_joined, written_at_length, written_at_none, written_at_more, written_at_full, written_at_past}
use Rattle.text.specs.Fill.{place_after, FillFits, FillPast, FillJoined, PlacesJoined}
use Rattle.text.proofs.Split.{split}

pub fill_fits : FillFits
fill_fits old p new l = omega arith

pub fill_past : FillPast
fill_past old p new l = (written_at_past old p new l, omega arith)

pub fill_joined : FillJoined
fill_joined old p xs ys = ⊎_elim short fits (split (length old) (p + length xs))
  where
    place : ℕ
    place = place_after old p xs

    short : length old < p + length xs → written_at (written_at old p xs) place ys ≡ written_at old p (xs ++ ys)
    short l =
        let past : length (written_at old p xs) ≤ place = omega (arith, written_at_length old p xs) in
        written_at_past (written_at old p xs) place ys past ∙ sym (written_at_full old p xs ys (omega arith))

    fits : p + length xs ≤ length old → written_at (written_at old p xs) place ys ≡ written_at old p (xs ++ ys)
    fits l = ap (λ (q : ℕ). written_at (written_at old p xs) q ys) (fill_fits old p xs l) ∙ written_joined old xs ys p l

pub places_joined : PlacesJoined
places_joined old p xs ys = omega (arith, written_at_length old p xs, length-append xs ys)

-- What a second call leaves, which wrote from the place that the first gave: both texts, one after the other.
pub fill_then : (old : List ℕ) (p : ℕ) (xs ys : List ℕ) {out more : List ℕ} {q r : ℕ}
    → (out ≡ written_at old p xs) × (q ≡ place_after old p xs)
    → (more ≡ written_at out q ys) × (r ≡ place_after out q ys)
    → (more ≡ written_at old p (xs ++ ys)) × (r ≡ place_after old p (xs ++ ys))
fill_then old p xs ys first second = (
  second.0 ∙ ap₂ (λ (l : List ℕ) (k : ℕ). written_at l k ys) first.0 first.1 ∙ fill_joined old p xs ys,
  second.1 ∙ ap₂ (λ (l : List ℕ) (k : ℕ). place_after l k ys) first.0 first.1 ∙ places_joined old p xs ys,
)

-- What a loop has done that writes one byte after the other: the first i bytes are written, and they had room.
pub record Filling (old : List ℕ) (p : ℕ) (bytes out : List ℕ) (i : ℕ) : Type 0 where
  pub done : out ≡ written_at old p (take i bytes)
  pub long : length out ≡ length old
  pub some : i ≤ length bytes
  pub within : p + i ≤ max p (length old)

-- At first none is written.
pub filling_none : (old : List ℕ) (p : ℕ) (bytes : List ℕ) → Filling old p bytes old 0
filling_none old p bytes = record { done = sym (written_at_none old p); long = refl; some = omega arith; within = omega arith }

module _ {old : List ℕ} {p : ℕ} {bytes out : List ℕ} {i : ℕ} (f : Filling old p bytes out i) where
  -- One more byte is a store after those that are written.
  pub filling_more : i < length bytes → p + i < length out → Filling old p bytes (set out (p + i) (get_or bytes i 0)) (i + 1)
  filling_more l room =
      record {
        done = stored;
        long = length-set out (p + i) (get_or bytes i 0) ∙ f.long;
        some = omega arith;
        within = omega arith;
      }
    where
      first : List ℕ
      first = take i bytes

      count : length first ≡ i
      count = length-take-le i bytes f.some

      next : take (i + 1) bytes ≡ first ++ (get_or bytes i 0 ∷ [])
      next = rw (add-one i) (take-suc bytes i 0 l)

      stored : set out (p + i) (get_or bytes i 0) ≡ written_at old p (take (i + 1) bytes)
      stored =
          ap (λ (r : List ℕ). set r (p + i) (get_or bytes i 0)) f.done
          ∙ ap (λ (k : ℕ). set (written_at old p first) (p + k) (get_or bytes i 0)) (sym count)
          ∙ written_at_more old p first (get_or bytes i 0) (omega (arith, count))
          ∙ ap (written_at old p) (sym next)

  -- Where the bytes or the room end, all is written.
  pub filling_all : (length bytes ≤ i) ⊎ (length out ≤ p + i) → (out ≡ written_at old p bytes) × (p + i ≡ place_after old p bytes)
  filling_all = ⊎_elim (λ e. (f.done ∙ ap (written_at old p) (take_all i bytes e), omega arith)) (λ e. (f.done ∙ short e, omega arith))
    where
      short : length out ≤ p + i → written_at old p (take i bytes) ≡ written_at old p bytes
      short e =
          sym (written_at_full old p (take i bytes) (drop i bytes) (omega (arith, length-take-le i bytes f.some)))
          ∙ ap (written_at old p) (take-append-drop i bytes)
