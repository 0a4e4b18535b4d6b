-- None of 1 to 5 and 7 applies exactly when a file keeps the layout and its limits; and no test does exactly when
-- besides the walk closes. Assumes nothing.
use Prim.Native.Nat.{ℕ, ◌<◌}
use native.Mathlib.Omega.{arith}
use mathlib.Core.Bool.{Bool}
use mathlib.Core.Path.{◌≡◌}
use mathlib.Core.Logic.Iff
use mathlib.Core.Logic.{◌↔◌, ⊎_elim}
use mathlib.Core.List.Memᴰ
use mathlib.Core.List.{List, [], ◌∷◌, ◌++◌}
use Rattle.basics.specs.Place.{Nowhere}
use Rattle.basics.specs.Membership.{◌∈◌}
use Rattle.basics.specs.Refusals.{Test, test, NoneApplies}
use Rattle.basics.proofs.Membership.{⊆_left, ⊆_right}
use Rattle.file.specs.Layout.{layout_tests}
use Rattle.file.proofs.LayoutLaws.{none_to_3}
use Rattle.file.proofs.Outside.{none_outside}
use Rattle.table.specs.Tests.{entry_tests}
use Rattle.table.proofs.Ordered.{no_fault_ordered}
use Rattle.table.proofs.Unlike.{not_repeated}
use Rattle.steps.specs.Verdict.{Closed}
use Rattle.steps.proofs.Walked.{walked_nowhere}
use Rattle.exchange.specs.Layout.{exchange_layout, formulas, heads, seconds, first_list, second_list, table}
use Rattle.exchange.specs.Answer.{statement_outside, step_verdict, tests}
use Rattle.exchange.specs.Proofs.{Sized, Keeps}
use Rattle.exchange.proofs.LayoutIs.{sized}

module _ (file : List ℕ) where
  -- None of 1 to 3 applies exactly when the sizes are in range and the length is theirs.
  none_to_3_is : NoneApplies (layout_tests exchange_layout file) ↔ Sized file
  none_to_3_is = Iff.trans (none_to_3 exchange_layout file) (sized file)

  -- 7 doesn't apply exactly when each statement's number of both lists is below F.
  statements_in :
      statement_outside file ≡ Nowhere
      ↔ (((n : ℕ) → n ∈ first_list file → n < formulas file) × ((n : ℕ) → n ∈ second_list file → n < formulas file))
  statements_in =
      let (to, from) = none_outside (formulas file) (first_list file ++ second_list file) in (
        λ none. (λ n m. to none n (⊆_left (second_list file) n m), λ n m. to none n (⊆_right (first_list file) n m)),
        λ (first, second). from (λ n m. ⊎_elim (first n) (second n) (Memᴰ.append_cases (first_list file) m)),
      )

  -- 1 to 5 and 7
  abbrev pub to_7 : List Test
  to_7 =
      layout_tests exchange_layout file
      ++ (entry_tests (heads file) (seconds file) ++ (test 7 (statement_outside file) ∷ []))

  -- None of them applies exactly when the file keeps the layout and its limits.
  pub none_to_7 : NoneApplies to_7 ↔ Keeps file
  none_to_7 =
      let ordered = no_fault_ordered (table file) in
      let unlike = not_repeated (heads file) (seconds file) in (
        λ (one, (two, (three, (four, (five, (seven, _)))))).
            let (first, second) = statements_in.0 seven in
            record {
              sized = none_to_3_is.0 (one, (two, (three, tt)));
              ordered = ordered.0 four;
              none_repeated = unlike.0 five;
              first_in = first;
              second_in = λ n m. omega (arith, second n m);
            },
        λ keeps.
            let (one, (two, (three, _))) = none_to_3_is.1 keeps.sized in
            let four = ordered.1 keeps.ordered in
            let five = unlike.1 keeps.none_repeated in
            let seven = statements_in.1 (keeps.first_in, λ n m. omega (arith, keeps.second_in n m)) in
            (one, (two, (three, (four, (five, (seven, tt)))))),
      )

-- the walk closes
abbrev pub Closes : (ℕ → ℕ → Bool) → List ℕ → Type 0
Closes speaks file = (q : ℕ) × (step_verdict speaks file ≡ Closed q)

pub none_applies :
    (speaks : ℕ → ℕ → Bool) (file : List ℕ) → NoneApplies (tests speaks file) ↔ (Keeps file × Closes speaks file)
none_applies speaks file =
    let (to, from) = none_to_7 file in
    let closes = walked_nowhere (step_verdict speaks file) in (
      λ (one, (two, (three, (four, (five, (seven, (walk, _))))))).
          (to (one, (two, (three, (four, (five, (seven, tt)))))), closes.0 walk),
      λ (keeps, closed).
          let (one, (two, (three, (four, (five, (seven, _)))))) = from keeps in
          (one, (two, (three, (four, (five, (seven, (closes.1 closed, tt))))))),
    )
