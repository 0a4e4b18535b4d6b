-- The hypotheses that slots show once one more is held, or the statements. Assumes nothing.
use Prim.Native.Nat.{ℕ, zero, suc, ◌<◌}
use native.Mathlib.Omega.{arith}
use mathlib.Core.Bool.{false}
use mathlib.Core.Path.{◌≡◌, refl, sym, ◌∙◌}
use mathlib.Core.List.{List, [], ◌∷◌, ◌++◌, append-nil}
use lib.ListN.{get_or, replicate}
use lib.Seq.{append_snoc}
use lib.Dec.{ltb}
use Rattle.basics.specs.Membership.{holds}
use Rattle.basics.proofs.Choice.{both_none}
use Rattle.basics.proofs.Membership.{holds_last, holds_append}
use Rattle.hypotheses.specs.Slots.{half, shown, held_one, count_one, held_all, count_all}
use Rattle.hypotheses.specs.Trail.{Live}
use Rattle.hypotheses.proofs.Shown.{shows_shown}
use Rattle.hypotheses.proofs.Trail.{live_hold, half_hold, shows_hold}

-- One more is shown after those that were.
pub shown_hold : {s : List ℕ} {held : ℕ} (n i : ℕ) → Live s held → i < half s
    → holds (shown (held_one s held n)) i ≡ holds (shown s ++ (n ∷ [])) i
shown_hold {s} {held} n i live l =
    sym (shows_shown (held_one s held n) i) ∙ shows_hold n i live l ∙ rw (holds_last (shown s) n i, ← shows_shown s i)

-- So are the statements, one by one.
pub shown_all : {s : List ℕ} {held : ℕ} (ns : List ℕ) (i : ℕ) → Live s held → i < half s
    → holds (shown (held_all s held ns)) i ≡ holds (shown s ++ ns) i
unfolding held_all
shown_all {s} {held} [] i live l = rw append-nil
shown_all {s} {held} (n ∷ ns) i live l =
    let more = shown_hold n i live l in
    shown_all {s = held_one s held n} {held = count_one s held n} ns i (live_hold n live)
    (omega (arith, half_hold s held n))
    ∙ rw (holds_append (shown (held_one s held n)) ns i, more, ← holds_append (shown s ++ (n ∷ [])) ns i, append_snoc)

pub live_all : {s : List ℕ} {held : ℕ} (ns : List ℕ) → Live s held → Live (held_all s held ns) (count_all s held ns)
unfolding held_all count_all
live_all {s} {held} [] live = live
live_all {s} {held} (n ∷ ns) live =
    live_all {s = held_one s held n} {held = count_one s held n} ns (live_hold n live)

pub half_all : (s : List ℕ) (held : ℕ) (ns : List ℕ) → half (held_all s held ns) ≡ half s
unfolding held_all
half_all s held [] = refl
half_all s held (n ∷ ns) = half_all (held_one s held n) (count_one s held n) ns ∙ half_hold s held n

-- With nothing held no place is taken.
pub live_none : (s : List ℕ) → Live s 0
live_none s = record { places = omega arith }

-- Slots that are all 0 show nothing.
zeros : (k i : ℕ) → ◌≡◌ {A = ℕ} (get_or (replicate k 0) i 0) 0
zeros zero i = refl
zeros (suc k) zero = refl
zeros (suc k) (suc i) = zeros k i

pub shown_none : (k i : ℕ) → holds (shown (replicate k 0)) i ≡ false
shown_none k i = sym (shows_shown (replicate k 0) i) ∙ rw (zeros k i) (both_none (ltb i (half (replicate k 0))))
