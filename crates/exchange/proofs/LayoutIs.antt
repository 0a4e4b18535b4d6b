-- The exchange file's layout (specs/Layout.antt) in 01's numbers, and its ranges by name (specs/Proofs.antt). Assumes
-- nothing.
use Prim.Native.Nat.{ℕ, ◌+◌, ◌*◌}
use native.Mathlib.Omega.{arith}
use mathlib.Core.Path.{◌≡◌, refl, ap}
use mathlib.Core.Logic.{◌↔◌}
use mathlib.Core.List.{List}
use Rattle.file.specs.Words.{part}
use Rattle.file.specs.Layout.{SizedBy, Bounded}
use Rattle.exchange.specs.Layout.{exchange_layout, formulas, first_count, second_count, step_count, LayoutIs}
use Rattle.exchange.specs.Proofs.{RangesAre, Sized}

pub layout_is : (file : List ℕ) → LayoutIs file
layout_is file =
    let F : ℕ = formulas file in
    let S1 : ℕ = first_count file in
    let S2 : ℕ = second_count file in
    let two : 4 + F + F ≡ 4 + 2 * F = omega arith in
    let three : 4 + F + F + S1 ≡ 4 + 2 * F + S1 = omega arith in
    let four : 4 + F + F + S1 + S2 ≡ 4 + 2 * F + S1 + S2 = omega arith in
    record {
      heads_at = refl;
      seconds_at = refl;
      first_at = ap (λ (n : ℕ). part file n S1) two;
      second_at = ap (λ (n : ℕ). part file n S2) three;
      steps_at = ap (λ (n : ℕ). part file n (step_count file)) four;
      size_is = omega arith;
      most_is = refl;
      least_is = refl;
    }

-- Each part's length is one of the sizes.
pub bounded : Bounded exchange_layout
bounded = refl

pub ranges_are : RangesAre
ranges_are file = (
  λ ((f, f'), ((_, s), ((_, s'), ((_, n), _)))). record { some_formulas = f; few_formulas = f'; few_first = s; few_second = s'; few_steps = n },
  λ r.
      ((r.some_formulas, r.few_formulas), ((omega arith, r.few_first), ((omega arith, r.few_second), ((omega arith, r.few_steps), tt)))),
)

pub sized : (file : List ℕ) → SizedBy exchange_layout file ↔ Sized file
sized file = (
  λ s. record { in_range = (ranges_are file).0 s.in_range; length_is = s.length_is },
  λ s. record { in_range = (ranges_are file).1 s.in_range; length_is = s.length_is },
)
