-- None of 1 to 7 applies exactly when a file keeps the layout and its limits; and no test does exactly when besides its
-- signers fit the lent list and the walk closes. Assumes nothing.
use Prim.Native.Nat.{ℕ, ◌≤◌}
use native.Mathlib.Omega.{arith}
use mathlib.Core.Bool.{Bool}
use mathlib.Core.Path.{◌≡◌}
use mathlib.Core.Logic.Iff
use mathlib.Core.Logic.{◌↔◌}
use mathlib.Core.List.{List}
use lib.ListN.{length}
use Rattle.basics.specs.Refusals.{NoneApplies}
use Rattle.basics.proofs.Asked.{not_less, not_at_most, at0_nowhere}
use Rattle.file.specs.Layout.{layout_tests}
use Rattle.file.proofs.LayoutLaws.{none_to_3}
use Rattle.file.proofs.Outside.{none_outside}
use Rattle.table.proofs.Ordered.{no_fault_ordered}
use Rattle.table.proofs.Unlike.{not_repeated}
use Rattle.steps.specs.Verdict.{Closed}
use Rattle.steps.proofs.Walked.{walked_nowhere}
use Rattle.record.specs.Layout.{record_layout, formulas, goal, heads, seconds, statements, table, signers}
use Rattle.record.specs.Answer.{step_verdict, tests_to7, tests}
use Rattle.record.specs.Proof.{Sized, Keeps}
use Rattle.record.proofs.LayoutIs.{sized}

-- None of 1 to 3 applies exactly when the sizes are in range and the length is theirs.
pub none_to_3_is : (file : List ℕ) → NoneApplies (layout_tests record_layout file) ↔ Sized file
none_to_3_is file = Iff.trans (none_to_3 record_layout file) (sized file)

-- None of 1 to 7 applies exactly when the file keeps the layout and its limits.
pub none_to_7 : (file : List ℕ) → NoneApplies (tests_to7 file) ↔ Keeps file
none_to_7 file =
    let ordered = no_fault_ordered (table file) in
    let unlike = not_repeated (heads file) (seconds file) in
    let goal_in = at0_nowhere _ (not_at_most (formulas file) (goal file)) in
    let statements_in = none_outside (formulas file) (statements file) in (
      λ (one, (two, (three, (four, (five, (six, (seven, _))))))).
          record {
            sized = (none_to_3_is file).0 (one, (two, (three, tt)));
            ordered = ordered.0 four;
            none_repeated = unlike.0 five;
            goal_in = omega (arith, goal_in.0 six);
            statements_in = statements_in.0 seven;
          },
      λ keeps.
          let (one, (two, (three, _))) = (none_to_3_is file).1 keeps.sized in
          let four = ordered.1 keeps.ordered in
          let five = unlike.1 keeps.none_repeated in
          let below = keeps.goal_in in
          let six = goal_in.1 (omega arith) in
          let seven = statements_in.1 keeps.statements_in in
          (one, (two, (three, (four, (five, (six, (seven, tt))))))),
    )

-- the walk closes
abbrev pub Closes : (ℕ → ℕ → Bool) → List ℕ → Type 0
Closes speaks file = (q : ℕ) × (step_verdict speaks file ≡ Closed q)

pub none_applies :
    (speaks : ℕ → ℕ → Bool) (file : List ℕ) (room : ℕ)
    → NoneApplies (tests speaks file room) ↔ (Keeps file × (length (signers file) ≤ room) × Closes speaks file)
none_applies speaks file room =
    let (to, from) = none_to_7 file in
    let fits = at0_nowhere _ (not_less room (length (signers file))) in
    let closes = walked_nowhere (step_verdict speaks file) in (
      λ (one, (two, (three, (four, (five, (six, (seven, (walk, (eight, _))))))))).
          (to (one, (two, (three, (four, (five, (six, (seven, tt))))))), fits.0 eight, closes.0 walk),
      λ (keeps, room_for, closed).
          let (one, (two, (three, (four, (five, (six, (seven, _))))))) = from keeps in
          (one, (two, (three, (four, (five, (six, (seven, (closes.1 closed, (fits.1 room_for, tt))))))))),
    )
