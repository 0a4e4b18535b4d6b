-- Laws of many goals from one list of statements: the next goal's proof is checked in the tail of the step words, from
-- the last proof's end, and its places count from there. Assumes nothing.
use Prim.Native.Nat.{ℕ, suc, ◌+◌, ◌-◌, ◌<◌, ◌≤◌}
use native.Mathlib.Nat.{add_comm, zero-add}
use native.Mathlib.Numerals.{add-one}
use native.Mathlib.Omega.{arith}
use mathlib.Core.Path.{◌≡◌, ap, sym, ◌∙◌}
use mathlib.Core.List.{List, [], ◌∷◌}
use lib.ListN.{length, get_or, take, drop, length-drop, drop_of_length-le}
use lib.Seq.{drop-cons}
use borrow.Author.Rules.{part_to_end}
use Rattle.basics.specs.Limits.{most_depth}
use Rattle.table.specs.declared.entry.Entry.{Entry}
use Rattle.steps.specs.Verdict.{WalkVerdict, Closed, Refused}
use Rattle.steps.specs.Obligation.{Obligation, obligation, obligations}
use Rattle.steps.specs.Run.{run}
use Rattle.steps.specs.Figure1.{same, walk}
use Rattle.steps.specs.Parts.{and_then, later, walk_from}
use Rattle.steps.proofs.Parts.{walk_done, one_after_another, places_move, uses_words}
use Rattle.steps.proofs.Figure1.{refused_in_range}

module _ (es : List Entry) (statements goals steps : List ℕ) where
  -- the verdict on the goals from position i on, from the word `at` on
  abbrev pub verdict_from : ℕ → ℕ → WalkVerdict
  verdict_from at i = walk_from same most_depth es steps at (obligations statements (drop i goals))

  -- No goal is left at the end.
  pub goals_end : (at i : ℕ) → length goals ≤ i → verdict_from at i ≡ Closed at
  goals_end at i l = rw (drop_of_length-le goals l) (walk_done same most_depth es (drop at steps) at)

-- The goal at position i got the verdict v in the tail of the words, from `at` on.
pub record Checked (es : List Entry) (statements goals steps : List ℕ) (at i : ℕ) (v : WalkVerdict) : Type 0 where
  pub in_goals : i < length goals
  pub in_steps : at ≤ length steps
  pub answered : v ≡ walk es (take (length steps - at) (drop at steps)) 0 (obligation statements (get_or goals i 0) ∷ [])

-- What `check_goal` answers for it is its verdict, in the tail as a slice has it.
pub checked : {es : List Entry} {statements goals steps : List ℕ} {at i : ℕ} {v : WalkVerdict} → i < length goals
    → at ≤ length steps
    → v ≡ walk es (take (length steps - at) (drop at steps)) 0 (obligation statements (get_or goals i 0) ∷ [])
    → Checked es statements goals steps at i v
checked inside start answered = record { in_goals = inside; in_steps = start; answered = answered }

module _ {es : List Entry} {statements goals steps : List ℕ} {at i : ℕ} {v : WalkVerdict} (c : Checked es statements goals steps at i v) where
  -- what this goal's proof has to prove
  abbrev this : List Obligation
  this = obligation statements (get_or goals i 0) ∷ []

  in_tail : v ≡ walk es (drop at steps) 0 this
  in_tail = rw part_to_end at c.answered

  -- In all words it is the same verdict, as many places further on.
  in_all : walk_from same most_depth es steps at this ≡ later at v
  in_all = rw (zero-add at) at (places_move same most_depth es (drop at steps) 0 at this) ∙ ap (later at) (sym in_tail)

  -- This goal, and then the others from where its proof ends.
  next_goal : verdict_from es statements goals steps at i ≡ and_then (later at v) (λ q. verdict_from es statements goals steps q (i + 1))
  next_goal =
      rw (drop-cons goals i 0 c.in_goals, ← in_all, add-one i)
      (one_after_another same most_depth es steps at this (obligations statements (drop (suc i) goals)))

  pub goal_closed : {used : ℕ} → v ≡ Closed used
      → verdict_from es statements goals steps at i ≡ verdict_from es statements goals steps (at + used) (i + 1)
  goal_closed {used} e = rw (add_comm at used) (rw e at next_goal)

  pub goal_refused : {number place : ℕ} → v ≡ Refused number place → verdict_from es statements goals steps at i ≡ Refused number (at + place)
  goal_refused {place = place} e = rw (add_comm at place) (rw e at next_goal)

  -- A proof's end and a refusal's place are no further than the end of the words.
  pub closed_inside : {used : ℕ} → v ≡ Closed used → at + used ≤ length steps
  closed_inside {used} e =
      let (least, most) = uses_words same most_depth es (drop at steps) 0 used this (sym in_tail ∙ e) in
      omega (arith, length-drop at steps, c.in_steps)

  pub refused_inside : {number place : ℕ} → v ≡ Refused number place → at + place ≤ length steps
  unfolding run
  refused_inside {number} {place} e =
      let (low, high, most) = refused_in_range es (drop at steps) this number place (rw (← in_tail, e)) in
      omega (arith, length-drop at steps, c.in_steps)
