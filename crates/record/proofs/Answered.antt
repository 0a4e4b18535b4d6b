-- The answer by what the tests come to. Assumes nothing.
use Prim.Native.Nat.{ℕ}
use native.Mathlib.Omega.{arith}
use mathlib.Core.Bool.{Bool}
use mathlib.Core.Path.{◌≡◌, refl, sym}
use mathlib.Core.Logic.{◌↔◌}
use mathlib.Core.List.{List}
use lib.ListN.{length}
use Rattle.std.specs.Prelude.{Err}
use Rattle.basics.specs.Tested.{Tested}
use Rattle.basics.specs.Tested as Outcome
use Rattle.basics.specs.Refusals.{first_refusal, unless_refused}
use Rattle.basics.proofs.Refusals.{not_passed}
use Rattle.record.specs.Verdict.{Granted, Refused}
use Rattle.record.specs.Layout.{signers}
use Rattle.record.specs.Answer.{tests, record_answer}

-- A refusal is no grant.
pub not_granted : {number p count : ℕ} → Refused number p ≡ Granted count → ⊥
not_granted e = let z : ◌≡◌ {A = ℕ} 0 1 = cc in omega arith

-- Granted: the tests passed; refused: they refused.
grants : (t : Tested) (n count : ℕ) → unless_refused t (Granted n) ≡ Granted count ↔ ((t ≡ Outcome.Passed) × (count ≡ n))
grants Outcome.Passed n count = (λ e. (refl, cc), λ (_, e). cc)
grants (Err r) n count = (λ e. absurd (not_granted e), λ (e, _). absurd (not_passed e))

refuses : (t : Tested) (n number p : ℕ) → unless_refused t (Granted n) ≡ Refused number p ↔ t ≡ Outcome.Refused number p
refuses Outcome.Passed n number p = (λ e. absurd (not_granted (sym e)), λ e. absurd (not_passed (sym e)))
refuses (Err r) n number p = (λ e. cc, λ e. cc)

-- So for a file.
module _ (speaks : ℕ → ℕ → Bool) (file : List ℕ) (room : ℕ) where
  pub answer_granted : (count : ℕ) → record_answer speaks file room ≡ Granted count
      ↔ ((first_refusal (tests speaks file room) ≡ Outcome.Passed) × (count ≡ length (signers file)))
  unfolding record_answer
  answer_granted count = grants (first_refusal (tests speaks file room)) (length (signers file)) count

  pub answer_refused : (number p : ℕ) → record_answer speaks file room ≡ Refused number p
      ↔ first_refusal (tests speaks file room) ≡ Outcome.Refused number p
  unfolding record_answer
  answer_refused number p = refuses (first_refusal (tests speaks file room)) (length (signers file)) number p
