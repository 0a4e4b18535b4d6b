-- Empty lists, and a proof for every position (specs/Promises.antt). Assumes nothing.
use Prim.Native.Nat.{ℕ}
use native.Mathlib.Omega.{arith}
use mathlib.Core.Bool.{Bool}
use mathlib.Core.Path.{◌≡◌, refl, ap, ◌∙◌}
use mathlib.Core.List.{List, [], ◌∷◌, ◌++◌}
use lib.ListN.{length, length-append, length-map}
use Rattle.basics.specs.Limits.{most_depth}
use Rattle.basics.proofs.Refusals.{passed_by_all}
use Rattle.table.specs.declared.entry.Entry.{Entry}
use Rattle.steps.specs.Verdict.{Closed}
use Rattle.steps.specs.Obligation.{obligation, obligations}
use Rattle.steps.specs.Run.{run, walk}
use Rattle.steps.proofs.Closed.{closed_uses_all, run_closed}
use Rattle.steps.proofs.Parts.{uses_words}
use Rattle.exchange.specs.Layout.{first_list, second_list, steps, table}
use Rattle.exchange.specs.Answer.{tests, obligations_of}
use Rattle.exchange.specs.Promises.{EmptyListsEqual, ProvedAtEachPosition}
use Rattle.exchange.proofs.Lengths.{length_first, length_second, length_steps}
use Rattle.exchange.proofs.Keeps.{none_applies}
use Rattle.exchange.proofs.Answered.{answer_equal}

-- A list of no length is empty.
empty : (l : List ℕ) → length l ≡ 0 → l ≡ []
empty [] e = refl
empty (n ∷ l) e = absurd (omega arith)

-- Nothing is owed, and there are no words.
nothing_owed : (speaks : ℕ → ℕ → Bool) (es : List Entry) → run speaks most_depth es [] [] ≡ Closed 0
unfolding run walk
nothing_owed speaks es = refl

pub empty_lists_equal : (speaks : ℕ → ℕ → Bool) → EmptyListsEqual speaks
empty_lists_equal speaks file keeps no-first no_second no_steps =
    let first = empty (first_list file) (length_first file keeps.sized ∙ no-first) in
    let second = empty (second_list file) (length_second file keeps.sized ∙ no_second) in
    let words = empty (steps file) (length_steps file keeps.sized ∙ no_steps) in
    let closes =
    (λ i. run speaks most_depth (table file) (words i)
    (obligations (first i) (second i) ++ obligations (second i) (first i))) ∙ nothing_owed speaks (table file) in
    (answer_equal speaks file).1
    ((passed_by_all (tests speaks file)).1 ((none_applies speaks file).1 (keeps, (0, closes))))

pub proved_at_each_position : (speaks : ℕ → ℕ → Bool) → ProvedAtEachPosition speaks
proved_at_each_position speaks file e =
    let (keeps, (q, closes)) =
    (none_applies speaks file).0 ((passed_by_all (tests speaks file)).0 ((answer_equal speaks file).0 e)) in
    let all = closed_uses_all speaks most_depth (table file) (obligations_of file) (steps file) q closes in
    let walks = run_closed speaks most_depth (table file) (obligations_of file) (steps file) (closes ∙ ap Closed all) in
    let (least, _) = uses_words speaks most_depth (table file) (steps file) 0 (length (steps file))
    (obligations_of file) walks in
    let forth = length-map (second_list file) (obligation (first_list file)) in
    let back = length-map (first_list file) (obligation (second_list file)) in
    let owed-in-all = length-append (obligations (first_list file) (second_list file)) (obligations (second_list file) (first_list file)) in
    omega (arith, length_first file keeps.sized, length_second file keeps.sized, length_steps file keeps.sized)
