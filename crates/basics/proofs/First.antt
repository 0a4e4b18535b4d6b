-- What `first` answers, and two laws for a loop that looks for a fault. Assumes nothing.
use Prim.Native.Nat.{ℕ, zero, suc, ◌+◌, ◌<◌}
use native.Mathlib.Omega.{arith}
use mathlib.Core.Bool.{Bool, true, false, true≢false}
use mathlib.Core.Path.{◌≡◌, refl, sym, ap, subst, ◌∙◌}
use mathlib.Core.Logic.Iff
use mathlib.Core.Logic.{◌↔◌}
use borrow.Author.Count.{below_more}
use Rattle.std.specs.Prelude.{List, length, get_or, nat_lt, cond}
use Rattle.std.specs.List.{position, position_or_len}
use Rattle.std.proofs.lemmas.List.Sums.{fails_before_first, passes_at_first}
use Rattle.basics.specs.Place.{Place, At, Nowhere}
use Rattle.basics.specs.Choice.{pick}
use Rattle.basics.specs.First.{or_else, first, found, IsFirst, FirstPlace, NoPlace}

module _ (fault : ℕ → Bool) where
  -- what a place answers about the places below n
  abbrev Answers : Place → ℕ → Type 0
  Answers (At i) n = IsFirst (λ j. fault j ≡ true) n i
  Answers Nowhere n = (i : ℕ) → i < n → fault i ≡ false

  -- no place both has a fault and has none
  clash : {i : ℕ} → fault i ≡ false → ¬ (fault i ≡ true)
  clash f e = true≢false (sym e ∙ f)

  -- one place more is looked at
  one_more : (p : Place) (b : Bool) (n : ℕ) → fault n ≡ b → Answers p n → Answers (or_else p (pick b (At n) Nowhere)) (suc n)
  one_more (At i) b n e h = record { within = omega arith; is_fault = h.is_fault; none_before = h.none_before }
  one_more Nowhere true n e h = record { within = omega arith; is_fault = e; none_before = λ j l. clash (h j l) }
  one_more Nowhere false n e h = λ i l. below_more (λ k. fault k ≡ false) n h e i (omega arith)

  -- `first` answers
  first_answers : (n : ℕ) → Answers (first fault n) n
  unfolding first
  first_answers zero = λ i l. absurd (omega arith)
  first_answers (suc n) = one_more (first fault n) (fault n) n refl (first_answers n)

  -- no first place is before another
  not_before : {n i j : ℕ} → Answers (At i) n → Answers (At j) n → ¬ (j < i)
  not_before h k l = h.none_before _ l k.is_fault

  -- there is one answer
  one_answer : (p q : Place) (n : ℕ) → Answers p n → Answers q n → p ≡ q
  one_answer (At i) (At j) n h k = ap At (omega (arith, not_before h k, not_before k h))
  one_answer (At i) Nowhere n h k = absurd (clash (k i h.within) h.is_fault)
  one_answer Nowhere (At j) n h k = absurd (clash (h j k.within) k.is_fault)
  one_answer Nowhere Nowhere n h k = refl

  -- so a place is what `first` gives exactly when it answers
  exactly : (p : Place) (n : ℕ) → first fault n ≡ p ↔ Answers p n
  exactly p n = (λ e. subst (λ q. Answers q n) e (first_answers n), one_answer (first fault n) p n (first_answers n))

-- Faults that agree below n have the same first place there.
same_first :
    (Fault Other : ℕ → Type 0) (n i : ℕ) → ((j : ℕ) → j < n → Fault j ↔ Other j) → IsFirst Fault n i → IsFirst Other n i
same_first Fault Other n i same h =
    let l = h.within in
    record {
      within = l;
      is_fault = (same i l).0 h.is_fault;
      none_before = λ j before f. h.none_before j before ((same j (omega arith)).1 f);
    }

pub first_place : FirstPlace
first_place fault Fault n same i = Iff.trans (exactly fault (At i) n) (
  same_first (λ j. fault j ≡ true) Fault n i same,
  same_first Fault (λ j. fault j ≡ true) n i (λ j l. Iff.symm (same j l)),
)

pub no_place : NoPlace
no_place fault n = exactly fault Nowhere n

-- What was not found is nowhere.
pub not_found : (p : Place) → found p ≡ false → p ≡ Nowhere
not_found (At i) e = absurd (true≢false e)
not_found Nowhere e = refl

-- What was found is at a place, and what is not nowhere was found.
pub found_at : (p : Place) → found p ≡ true → (i : ℕ) × (p ≡ At i)
found_at (At i) e = (i, refl)
found_at Nowhere e = absurd (true≢false (sym e))

pub is_found : (p : Place) → ¬ (p ≡ Nowhere) → found p ≡ true
is_found (At i) other = refl
is_found Nowhere other = absurd (other refl)

-- no fault was found so far, and none is here
pub first_none_more : (fault : ℕ → Bool) (i : ℕ) → first fault i ≡ Nowhere → fault i ≡ false → first fault (i + 1) ≡ Nowhere
first_none_more fault i e f = (no_place fault (i + 1)).1 (below_more (λ k. fault k ≡ false) i ((no_place fault i).0 e) f)

-- no fault was found so far, and here is one
pub first_at : (fault : ℕ → Bool) (n i : ℕ) → first fault i ≡ Nowhere → fault i ≡ true → i < n → first fault n ≡ At i
first_at fault n i e f l =
    let none = (no_place fault i).0 e in
    (exactly fault (At i) n).1 record { within = l; is_fault = f; none_before = λ j before. clash fault (none j before) }

-- Over a list it is what the library's `position` finds.
module _ {X : Type 0} (p : X → Bool) (xs : List X) (d : X) where
  at_position : (b : Bool) → nat_lt (position_or_len p xs) (length xs) ≡ b
      → Answers (λ i. p (get_or xs i d)) (cond b (At (position_or_len p xs)) Nowhere) (length xs)
  at_position true e =
      let l : position_or_len p xs < length xs = grind (arith, e) in
      record { within = l; is_fault = passes_at_first p xs d l; none_before = λ j k f. true≢false (sym f ∙ fails_before_first p xs j d k) }
  at_position false e = λ i l. fails_before_first p xs i d (grind (arith, e, l))

  pub first_in : first (λ i. p (get_or xs i d)) (length xs) ≡ position p xs
  first_in = (exactly (λ i. p (get_or xs i d)) (position p xs) (length xs)).1 (at_position (nat_lt (position_or_len p xs) (length xs)) refl)
