-- Laws of `written` (specs/Written.antt), and those that a loop asks for which writes one word after the other. Assumes
-- nothing.
use Prim.Native.Nat.{ℕ, zero, suc, ◌+◌, ◌≤◌, ◌<◌}
use native.Mathlib.Nat.{zero-add, suc-add, le_of_suc-le-suc}
use native.Mathlib.Omega.{arith}
use native.Mathlib.Decide.{dec_lt}
use native.Mathlib.Numerals.{add-one}
use mathlib.Core.Path.{◌≡◌, refl, sym, ap, ◌∙◌}
use mathlib.Core.List.{List, [], ◌∷◌, ◌++◌}
use lib.ListN.{length, get_or, take, drop, set, length-drop, take-append-drop}
use lib.Seq.{take-suc, length-take-le, set_out}
use Rattle.basics.specs.Written.{written, written_at, WrittenFits, WrittenLength, WrittenJoined}

pub written_fits : WrittenFits
unfolding written
written_fits [] [] l = refl
written_fits [] (n ∷ new) l = absurd (omega arith)
written_fits (o ∷ old) [] l = refl
written_fits (o ∷ old) (n ∷ new) l = ap (λ (r : List ℕ). n ∷ r) (written_fits old new (le_of_suc-le-suc l))

pub written_length : WrittenLength
unfolding written
written_length [] new = refl
written_length (o ∷ old) [] = refl
written_length (o ∷ old) (n ∷ new) = ap suc (written_length old new)

-- Nothing written changes nothing.
pub written_none : (old : List ℕ) → written old [] ≡ old
unfolding written
written_none [] = refl
written_none (o ∷ old) = refl

-- One more word is a store after those that are written,
pub written_more : (old new : List ℕ) (x : ℕ) → length new < length old → set (written old new) (length new) x ≡ written old (new ++ (x ∷ []))
unfolding written
written_more [] new x l = absurd (omega arith)
written_more (o ∷ old) [] x l = ap (λ (r : List ℕ). x ∷ r) (sym (written_none old))
written_more (o ∷ old) (n ∷ new) x l = ap (λ (r : List ℕ). n ∷ r) (written_more old new x (le_of_suc-le-suc l))

-- and where there is no room any more it changes nothing.
pub written_full : (old new more : List ℕ) → length old ≤ length new → written old (new ++ more) ≡ written old new
unfolding written
written_full [] new more l = refl
written_full (o ∷ old) [] more l = absurd (omega arith)
written_full (o ∷ old) (n ∷ new) more l = ap (λ (r : List ℕ). n ∷ r) (written_full old new more (le_of_suc-le-suc l))

-- So a store there is one word more, wherever there is room for it.
pub written_store : (old new : List ℕ) (x : ℕ) → set (written old new) (length new) x ≡ written old (new ++ (x ∷ []))
written_store old new x = by (dec_lt (length new) (length old))
  where
    by : Dec (length new < length old) → set (written old new) (length new) x ≡ written old (new ++ (x ∷ []))
    by (yes l) = written_more old new x l
    by (no m) =
        let full : length old ≤ length new = omega arith in
        set_out (written old new) (length new) x (rw written_length full) ∙ sym (written_full old new (x ∷ []) full)

-- The first i words of a text, and the next.
pub written_next : (old new : List ℕ) (i : ℕ) → i < length new
    → set (written old (take i new)) i (get_or new i 0) ≡ written old (take (i + 1) new)
written_next old new i l =
    let at : length (take i new) ≡ i = length-take-le i new (omega arith) in
    let next : take i new ++ (get_or new i 0 ∷ []) ≡ take (i + 1) new =
    sym (ap (λ (n : ℕ). take n new) (add-one i) ∙ take-suc new i 0 l) in
    ap (λ (n : ℕ). set (written old (take i new)) n (get_or new i 0)) (sym at)
    ∙ written_store old (take i new) (get_or new i 0)
    ∙ ap (written old) next

-- A text, and then another over what follows it.
written_append : (old xs ys : List ℕ) → length xs ≤ length old
    → take (length xs) (written old xs) ++ written (drop (length xs) (written old xs)) ys ≡ written old (xs ++ ys)
unfolding written
written_append [] [] ys l = refl
written_append [] (x ∷ xs) ys l = absurd (omega arith)
written_append (o ∷ old) [] ys l = refl
written_append (o ∷ old) (x ∷ xs) ys l = ap (λ (r : List ℕ). x ∷ r) (written_append old xs ys (le_of_suc-le-suc l))

pub written_joined : WrittenJoined
unfolding written
written_joined old xs ys zero l = rw (zero-add (length xs)) (written_append old xs ys (omega arith))
written_joined [] xs ys (suc p) l = absurd (omega arith)
written_joined (o ∷ old) xs ys (suc p) l = rw (suc-add p (length xs)) (ap (λ (r : List ℕ). o ∷ r) (written_joined old xs ys p (omega arith)))

-- The first words of what is written, where the new has so many and there is room for them, are those of the new,
front_written : (old new : List ℕ) (count : ℕ) → count ≤ length new → count ≤ length old
    → take count (written old new) ≡ take count new
unfolding written
front_written old new zero l m = refl
front_written [] new (suc count) l m = absurd (omega arith)
front_written (o ∷ old) [] (suc count) l m = absurd (omega arith)
front_written (o ∷ old) (n ∷ new) (suc count) l m =
    ap (λ (r : List ℕ). n ∷ r) (front_written old new count (le_of_suc-le-suc l) (le_of_suc-le-suc m))

-- and each part that ends within both is that part of the new.
pub part_written : (old new : List ℕ) (from count : ℕ) → from + count ≤ length new → from + count ≤ length old
    → take count (drop from (written old new)) ≡ take count (drop from new)
unfolding written
part_written old new zero count l m = front_written old new count (omega arith) (omega arith)
part_written [] new (suc from) count l m = absurd (omega arith)
part_written (o ∷ old) [] (suc from) count l m = absurd (omega arith)
part_written (o ∷ old) (n ∷ new) (suc from) count l m = part_written old new from count (omega arith) (omega arith)

-- From a place on, too, nothing becomes longer or shorter;
pub written_at_length : (old : List ℕ) (p : ℕ) (new : List ℕ) → length (written_at old p new) ≡ length old
unfolding written
written_at_length old zero new = written_length old new
written_at_length [] (suc p) new = refl
written_at_length (o ∷ old) (suc p) new = ap suc (written_at_length old p new)

-- nothing written changes nothing;
pub written_at_none : (old : List ℕ) (p : ℕ) → written_at old p [] ≡ old
written_at_none old p = ap (λ (r : List ℕ). take p old ++ r) (written_none (drop p old)) ∙ take-append-drop p old

-- one more word is a store after those that are written;
pub written_at_more : (old : List ℕ) (p : ℕ) (new : List ℕ) (x : ℕ) → p + length new < length old
    → set (written_at old p new) (p + length new) x ≡ written_at old p (new ++ (x ∷ []))
unfolding written
written_at_more old zero new x l = rw (zero-add (length new)) (written_more old new x (omega arith))
written_at_more [] (suc p) new x l = absurd (omega arith)
written_at_more (o ∷ old) (suc p) new x l =
    rw (suc-add p (length new)) (ap (λ (r : List ℕ). o ∷ r) (written_at_more old p new x (omega arith)))

-- and where there is no room any more, more changes nothing.
pub written_at_full : (old : List ℕ) (p : ℕ) (new more : List ℕ) → length old ≤ p + length new
    → written_at old p (new ++ more) ≡ written_at old p new
written_at_full old p new more l =
    ap (λ (r : List ℕ). take p old ++ r) (written_full (drop p old) new more (omega (arith, length-drop p old)))

-- Past the end there is none.
pub written_at_past : (old : List ℕ) (p : ℕ) (new : List ℕ) → length old ≤ p → written_at old p new ≡ old
written_at_past old p new l = written_at_full old p [] new (omega arith) ∙ written_at_none old p
