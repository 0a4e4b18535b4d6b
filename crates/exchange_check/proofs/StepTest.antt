-- 9 to 15 of an exchange file as the code makes them: `check_proofs` of the second list from the first, then, in the
-- tail of the words, of the first from the second; and 15. Assumes nothing.
use Prim.Native.Nat.{ℕ, ◌+◌, ◌-◌, ◌≤◌, ◌<◌}
use native.Mathlib.Nat.{add_comm, zero-add}
use native.Mathlib.Omega.{arith}
use mathlib.Core.Path.{◌≡◌, refl, sym, ap, ◌∙◌}
use mathlib.Core.List.{List, [], ◌∷◌}
use lib.ListN.{length, take, drop, length-drop}
use borrow.Author.Rules.{part_to_end}
use Rattle.basics.specs.Tested.{Tested, Passed, Refused}
use Rattle.basics.specs.Limits.{most_depth}
use Rattle.basics.specs.Refusals.{first_refusal}
use Rattle.table.specs.declared.entry.Entry.{Entry}
use Rattle.table.specs.Tests.{entries}
use Rattle.steps.specs.Verdict.{WalkVerdict}
use Rattle.steps.specs.Verdict as Walk
use Rattle.steps.specs.Obligation.{obligations}
use Rattle.steps.specs.Run.{run, all_used, walked}
use Rattle.steps.specs.Figure1.{same, walk, proofs_answer}
use Rattle.steps.specs.Parts.{and_then, later, walk_from}
use Rattle.steps.proofs.Walked.{walk_refused, words_remain, none_remains}
use Rattle.steps.proofs.Parts.{one_after_another, places_move, uses_words}
use Rattle.steps.proofs.Figure1.{refused_in_range}
use Rattle.exchange_check.specs.Parts.{step_test}

-- The code got the verdict v on the proofs of the second list from the first.
module _ (heads seconds first second steps : List ℕ) {v : WalkVerdict} (answered : v ≡ proofs_answer heads seconds first second steps) where
  abbrev es : List Entry
  es = entries heads seconds

  abbrev all : Tested
  all = first_refusal (step_test heads seconds first second steps ∷ [])

  -- what a verdict on all proofs comes to
  abbrev ended : WalkVerdict → Tested
  ended w = first_refusal (walked (all_used (length steps) w) ∷ [])

  -- "Each proof begins at the word after the last one": the first from the second begins where v ends.
  both_lists_lem : ended (and_then v (λ q. walk_from same most_depth es steps q (obligations second first))) ≡ all
  unfolding run
  both_lists_lem =
      let of-the-first = obligations second first in
      ap (λ (w : WalkVerdict). ended (and_then w (λ q. walk_from same most_depth es steps q of-the-first))) answered
      ∙ ap ended (sym (one_after_another same most_depth es steps 0 (obligations first second) of-the-first))

  pub first_refused : {number p : ℕ} → v ≡ Walk.Refused number p → Refused number p ≡ all
  first_refused {number} {p} e =
      walk_refused {v = Walk.Refused number p} refl
      ∙ ap (λ (w : WalkVerdict). ended (and_then w (λ q. walk_from same most_depth es steps q (obligations second first)))) (sym e)
      ∙ both_lists_lem

  module _ {used : ℕ} (closed : v ≡ Walk.Closed used) where
    -- There are so many words,
    pub used_within : used ≤ length steps
    used_within = let (least, most) = uses_words same most_depth es steps 0 used (obligations first second) (sym answered ∙ closed) in omega arith

    -- and in the tail after them the code got the verdict w on the proofs of the first list from the second.
    module _ {w : WalkVerdict} (tail-answered : w ≡ proofs_answer heads seconds second first (take (length steps - used) (drop used steps))) where
      in_tail : w ≡ walk es (drop used steps) 0 (obligations second first)
      in_tail = rw part_to_end at tail-answered

      -- Places in the tail count from its start: in the whole they are moved by what was used.
      moved : later used w ≡ walk_from same most_depth es steps used (obligations second first)
      moved = ap (later used) in_tail ∙ sym (rw (zero-add used) at (places_move same most_depth es (drop used steps) 0 used (obligations second first)))

      in_whole : ended (later used w) ≡ all
      in_whole =
          ap ended moved ∙ ap (λ (z : WalkVerdict). ended (and_then z (λ q. walk_from same most_depth es steps q (obligations second first)))) (sym closed) ∙ both_lists_lem

      -- The places are within the words.
      pub refused_within : {number p : ℕ} → w ≡ Walk.Refused number p → used + p ≤ length steps
      unfolding run
      refused_within {number} {p} e =
          let (low, high, most) = refused_in_range es (drop used steps) (obligations second first) number p (rw (← in_tail, e)) in
          omega (arith, length-drop used steps, used_within)

      pub more_within : {more : ℕ} → w ≡ Walk.Closed more → used + more ≤ length steps
      more_within {more} e =
          let (least, most) = uses_words same most_depth es (drop used steps) 0 more (obligations second first) (sym in_tail ∙ e) in
          omega (arith, length-drop used steps, used_within)

      pub second_refused : {number p : ℕ} → w ≡ Walk.Refused number p → Refused number (used + p) ≡ all
      second_refused {number} {p} e =
          ap (λ (q : ℕ). Refused number q) (add_comm used p)
          ∙ walk_refused {v = Walk.Refused number (p + used)} refl
          ∙ ap (λ (z : WalkVerdict). ended (later used z)) (sym e)
          ∙ in_whole

      -- 15 is asked of where the last proof ends.
      then_15 : {more : ℕ} → w ≡ Walk.Closed more → ended (Walk.Closed (used + more)) ≡ all
      then_15 {more} e =
          ap (λ (q : ℕ). ended (Walk.Closed q)) (add_comm used more) ∙ ap (λ (z : WalkVerdict). ended (later used z)) (sym e) ∙ in_whole

      pub refused_15 : {more : ℕ} → w ≡ Walk.Closed more → used + more < length steps → Refused 15 (used + more) ≡ all
      refused_15 {more} e less = words_remain (used + more) (length steps) less ∙ then_15 e

      pub passed_15 : {more : ℕ} → w ≡ Walk.Closed more → length steps ≤ used + more → Passed ≡ all
      passed_15 {more} e end = none_remains (used + more) (length steps) (more_within e) end ∙ then_15 e
