-- 4 to 15 in one: each answer of the code is a case of `arrays_answer`. Assumes nothing.
use Prim.Native.Nat.{ℕ}
use mathlib.Core.Path.{◌≡◌, refl, sym, ap, ◌∙◌}
use mathlib.Core.List.{List, [], ◌∷◌}
use Rattle.std.specs.Prelude.{Err}
use Rattle.basics.specs.Tested.{Tested}
use Rattle.basics.specs.Tested as Outcome
use Rattle.basics.specs.Refusals.{Test, first_refusal, unless_refused}
use Rattle.basics.proofs.Refusals.{joined_refused, joined_passed}
use Rattle.exchange.specs.Verdict.{ExchangeVerdict, Equal, Refused}
use Rattle.exchange_check.specs.Parts.{array_tests, step_test, arrays_answer}

module _ (heads seconds lists first second steps : List ℕ) {t : Tested} (tested : t ≡ first_refusal (array_tests heads seconds lists)) where
  abbrev all : ExchangeVerdict
  all = arrays_answer heads seconds lists first second steps

  abbrev to_7 : List Test
  to_7 = array_tests heads seconds lists

  abbrev from_9 : List Test
  from_9 = step_test heads seconds first second steps ∷ []

  -- what the tests come to, as an answer
  abbrev answer : Tested → ExchangeVerdict
  answer u = unless_refused u Equal

  pub refused_to_7 : {number p : ℕ} → t ≡ Outcome.Refused number p → Refused number p ≡ all
  refused_to_7 e = ap answer (sym (joined_refused to_7 from_9 (sym tested ∙ e)))

  -- Where these pass, the steps' test decides, and equal is what a test answers that passes.
  itself : (u : Tested) → answer u ≡ u
  itself Outcome.Passed = refl
  itself (Err r) = refl

  pub by_steps : t ≡ Outcome.Passed → {u : Tested} → u ≡ first_refusal from_9 → u ≡ all
  by_steps passed {u} walked =
      sym (itself u) ∙ ap answer (walked ∙ sym (joined_passed to_7 from_9 (sym tested ∙ passed)))
