-- Laws of a choice by a test, and of two tests at once. Assumes nothing.
use mathlib.Core.Bool.{Bool, true, false, ◌||◌, true≢false, false≢true}
use mathlib.Core.Path.{◌≡◌, refl, sym}
use mathlib.Core.Logic.{◌↔◌, ◌⊎◌, inl, inr, ⊎_elim}
use Rattle.basics.specs.Choice.{pick, both}

-- Two tests at once are true exactly when each is.
pub both_true : (a b : Bool) → both a b ≡ true ↔ ((a ≡ true) × (b ≡ true))
both_true true b = (λ e. (refl, e), λ h. h.1)
both_true false b = (λ e. absurd (false≢true e), λ h. h.0)

-- They are false exactly when either is.
pub both_false : (a b : Bool) → both a b ≡ false ↔ ((a ≡ false) ⊎ (b ≡ false))
both_false true b = (inr, ⊎_elim (λ e. absurd (true≢false e)) (λ e. e))
both_false false b = (λ e. inl refl, λ e. refl)

-- So they are false where the second is.
pub both_none : (a : Bool) → both a false ≡ false
both_none a = (both_false a false).1 (inr refl)

-- One or the other is true exactly when either is.
pub either_true : (a b : Bool) → (a || b) ≡ true ↔ ((a ≡ true) ⊎ (b ≡ true))
either_true true b = (λ e. inl refl, λ e. refl)
either_true false b = (inr, ⊎_elim (λ e. absurd (false≢true e)) (λ e. e))

-- What holds of either, in its case, holds of what is picked.
pub pick_cases : {A : Type 0} (P : A → Type 0) (t : Bool) {a b : A} → (t ≡ true → P a) → (t ≡ false → P b) → P (pick t a b)
pick_cases P true p q = p refl
pick_cases P false p q = q refl

-- Two tests that are true together are one.
pub same_test : (a b : Bool) → a ≡ true ↔ b ≡ true → a ≡ b
same_test true b e = sym (e.0 refl)
same_test false true e = e.1 refl
same_test false false e = refl
