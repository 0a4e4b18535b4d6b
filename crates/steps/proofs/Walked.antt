-- What a walk comes to as a test (specs/Run.antt, `walked`). Assumes nothing.
use Prim.Native.Nat.{ℕ, ◌≤◌, ◌<◌}
use native.Mathlib.Omega.{arith}
use mathlib.Core.Path.{◌≡◌, refl, sym, ap, ◌∙◌}
use mathlib.Core.Logic.{◌↔◌, ◌⊎◌, inl, ⊎_elim}
use mathlib.Core.List.{List, [], ◌∷◌}
use borrow.Author.Tests.{eq-eqb, ne_eqb}
use Rattle.std.specs.Prelude.{Err}
use Rattle.basics.specs.Place.{At, Nowhere}
use Rattle.basics.specs.Tested as Outcome
use Rattle.basics.specs.Choice.{pick}
use Rattle.basics.specs.Membership.{◌∈◌}
use Rattle.basics.specs.Refusals.{Test, first_refusal}
use Rattle.basics.proofs.Asked.{somewhere}
use Rattle.basics.proofs.Refusals.{same_refusal, refusal_same, applies, goes_on, none_left}
use Rattle.basics.proofs.Order.{OneApplies, Follows, row, in_row, one_of}
use Rattle.steps.specs.Verdict.{WalkVerdict, Closed, Refused}
use Rattle.steps.specs.Run.{all_used, walked}
use Rattle.steps.proofs.Closed.{refused_not_closed}

-- It applies where the walk refuses,
pub walked_applies : (v : WalkVerdict) (number p : ℕ) → OneApplies (walked v ∷ []) number p ↔ (v ≡ Refused number p)
walked_applies (Closed q) number p = (⊎_elim (λ (_, e). absurd (somewhere (sym e))) absurd, λ e. absurd (refused_not_closed (sym e)))
walked_applies (Err r) number p = (
  ⊎_elim (λ (e, f). refusal_same e cc) absurd,
  λ e. let (number_is, place_is) = same_refusal e in inl (number_is, ap At place_is),
)

-- and nowhere where it closes.
pub walked_nowhere : (v : WalkVerdict) → ((walked v).place ≡ Nowhere) ↔ ((q : ℕ) × (v ≡ Closed q))
walked_nowhere (Closed q) = (λ e. (q, refl), λ h. refl)
walked_nowhere (Err r) = (λ e. absurd (somewhere e), λ (q, e). absurd (refused_not_closed e))

-- A walk that refuses by 9 to 15 follows an order in which these stand one after the other, before tests that follow
-- the rest of it.
walked_number : (v : WalkVerdict) → ((n p : ℕ) → v ≡ Refused n p → (9 ≤ n) × (n ≤ 15)) → (walked v).number ∈ row 9 7
walked_number (Closed q) range = in_row 9 7 15 (omega arith) (omega arith)
walked_number (Err r) range = let (l, m) = range r.number r.place refl in in_row 9 7 r.number l (omega arith)

pub walked_follows : (v : WalkVerdict) → ((n p : ℕ) → v ≡ Refused n p → (9 ≤ n) × (n ≤ 15))
    → (order : List ℕ) (ts : List Test) → Follows order ts
    → Follows (9 ∷ 10 ∷ 11 ∷ 12 ∷ 13 ∷ 14 ∷ 15 ∷ order) (walked v ∷ ts)
unfolding row
walked_follows v range order ts f = one_of (row 9 7) order (walked v) ts (walked_number v range) f

-- ---- as code makes it: the first refusal of a list with nothing else

pub walk_refused : {v : WalkVerdict} {number p : ℕ} → v ≡ Refused number p → Outcome.Refused number p ≡ first_refusal (walked v ∷ [])
walk_refused {number = number} {p = p} e = sym (applies number [] refl) ∙ ap (λ (w : WalkVerdict). first_refusal (walked w ∷ [])) (sym e)

-- 15, by where the last proof ends: words remain, or none does.
module _ (q n : ℕ) where
  pub words_remain : q < n → Outcome.Refused 15 q ≡ first_refusal (walked (all_used n (Closed q)) ∷ [])
  words_remain less = walk_refused (ap (λ b. pick b (Closed q) (Refused 15 q)) (ne_eqb q n (λ z. absurd (omega arith))))

  pub none_remains : q ≤ n → n ≤ q → Outcome.Passed ≡ first_refusal (walked (all_used n (Closed q)) ∷ [])
  none_remains within all =
      sym
      (goes_on 15 [] refl ∙ none_left)
      ∙ ap (λ b. first_refusal (walked (pick b (Closed q) (Refused 15 q)) ∷ [])) (sym (eq-eqb q n (omega arith)))
