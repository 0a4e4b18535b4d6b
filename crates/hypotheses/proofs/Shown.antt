-- The hypotheses that slots show are those that they hold. Assumes nothing.
use Prim.Native.Nat.{ℕ, zero, suc}
use native.Mathlib.Omega.{arith}
use mathlib.Core.Bool.{Bool, true, false}
use mathlib.Core.Path.{◌≡◌, refl, sym}
use mathlib.Core.List.{List, ◌∷◌}
use lib.Dec.{eqb, ltb}
use borrow.Author.Tests.{eq-eqb, ne_eqb, eqb-true, eqb-false, ltb-true, ltb-false, lt-ltb, le-ltb}
use Rattle.basics.specs.Choice.{pick, both}
use Rattle.basics.specs.Membership.{holds}
use Rattle.hypotheses.specs.Slots.{half, is_held, shown_below, shown}

-- A test that is asked twice is asked once.
asked_twice : (a b : Bool) → both a (both a b) ≡ both a b
asked_twice true b = refl
asked_twice false b = refl

-- A number other than k is below k + 1 where it is below k.
one_further : (n k : ℕ) → ¬ (k ≡ n) → ltb n k ≡ ltb n (suc k)
one_further n k other = by_test (ltb n k) refl
  where
    by_test : (t : Bool) → ltb n k ≡ t → t ≡ ltb n (suc k)
    by_test true e = sym (lt-ltb n (suc k) (omega (arith, ltb-true)))
    by_test false e = sym (le-ltb n (suc k) (omega (arith, ltb-false)))

-- Whether k is put in front tells nothing of another number,
of_another : (t : Bool) (k n : ℕ) (ms : List ℕ) → ¬ (k ≡ n) → holds (pick t (k ∷ ms) ms) n ≡ holds ms n
unfolding holds
of_another true k n ms other = rw (ne_eqb k n other)
of_another false k n ms other = refl

-- and of k itself it tells all, where k was not there.
of_itself : (t : Bool) (k : ℕ) (ms : List ℕ) → holds ms k ≡ false → holds (pick t (k ∷ ms) ms) k ≡ t
unfolding holds
of_itself true k ms new = rw (eq-eqb k k refl)
of_itself false k ms new = new

-- Of the numbers below k those are shown that are held,
below : (slots : List ℕ) (k n : ℕ) → holds (shown_below slots k) n ≡ both (ltb n k) (is_held slots n)
unfolding shown_below holds
below slots zero n = rw (le-ltb n zero (omega arith))
below slots (suc k) n =
    let new : holds (shown_below slots k) k ≡ false = rw (below slots k k, le-ltb k k (omega arith)) in
    let same : holds (shown_below slots (suc k)) k ≡ both (ltb k (suc k)) (is_held slots k) =
    rw (of_itself (is_held slots k) k (shown_below slots k) new, lt-ltb k (suc k) (omega arith)) in
    let another : ¬ (k ≡ n) → holds (shown_below slots (suc k)) n ≡ both (ltb n (suc k)) (is_held slots n) =
    λ other. rw (of_another (is_held slots k) k n (shown_below slots k) other, below slots k n, one_further n k other) in
    by_test (eqb k n) refl same another
  where
    by_test : (t : Bool) → eqb k n ≡ t
        → holds (shown_below slots (suc k)) k ≡ both (ltb k (suc k)) (is_held slots k)
        → (¬ (k ≡ n) → holds (shown_below slots (suc k)) n ≡ both (ltb n (suc k)) (is_held slots n))
        → holds (shown_below slots (suc k)) n ≡ both (ltb n (suc k)) (is_held slots n)
    by_test true e same another = rw (← eqb-true k n e) same
    by_test false e same another = another (eqb-false k n e)

-- so the slots show exactly what they hold.
pub shows_shown : (slots : List ℕ) (n : ℕ) → is_held slots n ≡ holds (shown slots) n
shows_shown slots n = rw (below slots (half slots) n) (sym (asked_twice (ltb n (half slots)) _))
