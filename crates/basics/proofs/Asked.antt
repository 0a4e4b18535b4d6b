-- What a test asks, and where it applies if its place is 0. Assumes nothing.
use Prim.Native.Nat.{ℕ, ◌≤◌, ◌<◌}
use native.Mathlib.Omega.{arith}
use mathlib.Core.Bool.{Bool, true, false, not, true≢false, false≢true}
use mathlib.Core.Path.{◌≡◌, refl, sym, ap}
use mathlib.Core.Logic.Iff
use mathlib.Core.Logic.{◌↔◌}
use lib.Dec.{eqb, ltb, leb}
use borrow.Author.Tests.{eqb-true, eq-eqb, ltb-true, ltb-false, lt-ltb, le-ltb, leb-true, leb-false, le-leb, lt-leb, not-true, not-false}
use Rattle.basics.specs.Place.{At, Nowhere}
use Rattle.basics.specs.Choice.{both}
use Rattle.basics.proofs.Choice.{both_true}
use Rattle.basics.specs.Refusals.{at0}

-- ---- what is asked of numbers, and the contrary

pub less : (a b : ℕ) → ltb a b ≡ true ↔ a < b
less a b = (ltb-true a b, lt-ltb a b)

pub not_less : (a b : ℕ) → ltb a b ≡ false ↔ b ≤ a
not_less a b = (ltb-false a b, le-ltb a b)

pub at_most : (a b : ℕ) → leb a b ≡ true ↔ a ≤ b
at_most a b = (leb-true a b, le-leb a b)

pub not_at_most : (a b : ℕ) → leb a b ≡ false ↔ b < a
not_at_most a b = (leb-false a b, lt-leb a b)

pub equal : (a b : ℕ) → eqb a b ≡ true ↔ a ≡ b
equal a b = (eqb-true a b, eq-eqb a b)

-- ---- what is asked by two tests at once; the contrary of what is asked; what a test's contrary asks, and the contrary of that

pub both_are : {A B : Type 0} {s t : Bool} → s ≡ true ↔ A → t ≡ true ↔ B → both s t ≡ true ↔ (A × B)
both_are {s = s} {t = t} h k =
    let (to, from) = both_true s t in
    let (there, back) = Iff.and h k in
    (λ e. there (to e), λ ab. from (back ab))

pub not_is : {A : Type 0} (t : Bool) → t ≡ true ↔ A → t ≡ false ↔ (¬ A)
not_is true (to, from) = (λ e. absurd (true≢false e), λ none. absurd (none (to refl)))
not_is false (to, from) = (λ e a. false≢true (from a), λ none. refl)

pub other : {A : Type 0} (t : Bool) → t ≡ true ↔ A → not t ≡ true ↔ (¬ A)
other t h = let (to, from) = not_is t h in (λ e. to (not-true t e), λ none. ap not (from none))

pub not_other : {A : Type 0} (t : Bool) → t ≡ true ↔ A → not t ≡ false ↔ A
not_other t (to, from) = (λ e. to (not-false t e), λ a. ap not (from a))

-- What isn't refuted holds, where a test asks it.
pub settled : {A : Type 0} (t : Bool) → t ≡ true ↔ A → ¬ ¬ A → A
settled true (to, from) possible = to refl
settled false (to, from) possible = absurd (possible (λ a. false≢true (from a)))

-- ---- place 0

-- A place is somewhere.
pub somewhere : {p : ℕ} → At p ≡ Nowhere → ⊥
somewhere e = let z : ◌≡◌ {A = ℕ} 0 1 = cc in omega arith

-- The test applies at p exactly when p is 0 and what it asks holds,
pub at0_at : {A : Type 0} (t : Bool) (p : ℕ) → t ≡ true ↔ A → at0 t ≡ At p ↔ ((p ≡ 0) × A)
at0_at true p (to, from) = (λ e. (cc, to refl), λ h. ap At (sym h.0))
at0_at false p (to, from) = (λ e. absurd (somewhere (sym e)), λ h. absurd (false≢true (from h.1)))

-- and nowhere exactly when the contrary holds.
pub at0_nowhere : {A : Type 0} (t : Bool) → t ≡ false ↔ A → at0 t ≡ Nowhere ↔ A
at0_nowhere true (to, from) = (λ e. absurd (somewhere e), λ a. absurd (true≢false (from a)))
at0_nowhere false (to, from) = (λ e. to refl, λ a. refl)
