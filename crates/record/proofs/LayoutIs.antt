-- The record's layout (specs/Layout.antt) in 01's numbers, and its ranges by name (specs/Proof.antt). Assumes nothing.
use Prim.Native.Nat.{ℕ, ◌+◌, ◌*◌}
use native.Mathlib.Omega.{arith}
use mathlib.Core.Path.{◌≡◌, refl, ap}
use mathlib.Core.Logic.{◌↔◌}
use mathlib.Core.List.{List}
use Rattle.file.specs.Words.{part}
use Rattle.file.specs.Layout.{SizedBy, Bounded}
use Rattle.record.specs.Layout.{record_layout, formulas, statement_count, step_count, LayoutIs}
use Rattle.record.specs.Proof.{RangesAre, Sized}

pub layout_is : (file : List ℕ) → LayoutIs file
layout_is file =
    let F : ℕ = formulas file in
    let S : ℕ = statement_count file in
    let two : 4 + F + F ≡ 4 + 2 * F = omega arith in
    let three : 4 + F + F + S ≡ 4 + 2 * F + S = omega arith in
    record {
      heads_at = refl;
      seconds_at = refl;
      statements_at = ap (λ (n : ℕ). part file n S) two;
      steps_at = ap (λ (n : ℕ). part file n (step_count file)) three;
      size_is = omega arith;
      most_is = refl;
      least_is = refl;
    }

-- Each part's length is one of the sizes.
pub bounded : Bounded record_layout
bounded = refl

pub ranges_are : RangesAre
ranges_are file = (
  λ ((f, f'), ((s, s'), ((n, n'), _))). record { some_formulas = f; few_formulas = f'; few_statements = s'; some_steps = n; few_steps = n' },
  λ r. ((r.some_formulas, r.few_formulas), ((omega arith, r.few_statements), ((r.some_steps, r.few_steps), (tt, tt)))),
)

pub sized : (file : List ℕ) → SizedBy record_layout file ↔ Sized file
sized file = (
  λ s. record { in_range = (ranges_are file).0 s.in_range; length_is = s.length_is },
  λ s. record { in_range = (ranges_are file).1 s.in_range; length_is = s.length_is },
)
