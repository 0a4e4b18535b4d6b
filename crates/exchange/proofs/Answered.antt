-- The answer by what the tests come to. Assumes nothing.
use Prim.Native.Nat.{ℕ}
use native.Mathlib.Omega.{arith}
use mathlib.Core.Bool.{Bool}
use mathlib.Core.Path.{◌≡◌, refl, sym}
use mathlib.Core.Logic.{◌↔◌}
use mathlib.Core.List.{List}
use Rattle.std.specs.Prelude.{Err}
use Rattle.basics.specs.Tested.{Tested}
use Rattle.basics.specs.Tested as Outcome
use Rattle.basics.specs.Refusals.{first_refusal, unless_refused}
use Rattle.basics.proofs.Refusals.{not_passed}
use Rattle.exchange.specs.Verdict.{Equal, Refused}
use Rattle.exchange.specs.Answer.{tests, exchange_answer}

-- A refusal is not equal.
not_equal : {number p : ℕ} → Refused number p ≡ Equal → ⊥
not_equal e = let z : ◌≡◌ {A = ℕ} 0 1 = cc in omega arith

-- Equal: the tests passed; refused: they refused.
equals : (t : Tested) → unless_refused t Equal ≡ Equal ↔ t ≡ Outcome.Passed
equals Outcome.Passed = (λ e. refl, λ e. refl)
equals (Err r) = (λ e. absurd (not_equal e), λ e. absurd (not_passed e))

refuses : (t : Tested) (number p : ℕ) → unless_refused t Equal ≡ Refused number p ↔ t ≡ Outcome.Refused number p
refuses Outcome.Passed number p = (λ e. absurd (not_equal (sym e)), λ e. absurd (not_passed (sym e)))
refuses (Err r) number p = (λ e. cc, λ e. cc)

-- So for a file.
module _ (speaks : ℕ → ℕ → Bool) (file : List ℕ) where
  pub answer_equal : exchange_answer speaks file ≡ Equal ↔ first_refusal (tests speaks file) ≡ Outcome.Passed
  unfolding exchange_answer
  answer_equal = equals (first_refusal (tests speaks file))

  pub answer_refused : (number p : ℕ) → exchange_answer speaks file ≡ Refused number p
      ↔ first_refusal (tests speaks file) ≡ Outcome.Refused number p
  unfolding exchange_answer
  answer_refused number p = refuses (first_refusal (tests speaks file)) number p
