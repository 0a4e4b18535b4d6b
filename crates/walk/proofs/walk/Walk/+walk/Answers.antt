-- `Walk::truth` and `Walk::affirmation` meet their contracts, by the laws of proofs/Walks.antt. The goals of each stand
-- in the order of its code: the start, the end of the words, a step that is refused or that closes, one premise, and
-- two. Of a step, `p` is the premise that is taken, or the first of two, and `q` the last; `v` says which walk is begun
-- for a premise, and `call` what the call for it came to. Assumes nothing.
use Rattle.std.proofs.Common.{◌≡◌, ◌+◌, ◌≤◌, refl, ap, arith, ℕ}
use Rattle.table.specs.Tests.{entries}
use Rattle.steps.specs.Obligation.{added}
use Rattle.hypotheses.proofs.Trail.{kept_nothing}
use Rattle.premises.specs.Premises.{opened}
use Rattle.walk.specs.Walks.{verdict_of, run_from}
use Rattle.walk.proofs.Walks.{here_opened, counted, on_entry, at_end, refused, closed, one, opens_none, opens_one, opens_two, deep_one, deep_two, turns_here, goes_on, called, premise_past, only_answered, only_proved, first_refused, first_proved, since_kept, since_premise, held_back, done, Came}
use Rattle.walk.proofs.walk.Walk.+walk.Goals as goal
use Rattle.walk.proofs.walk.Walk.+walk.Goals.{affirmation-In-Done-walked}
use Rattle.walk.proofs.walk.Walk.+walk.Goals.{affirmation-in-True-goal, affirmation-in-Affirms-goal-2}

-- ---- `Walk::truth`

-- The start.
pub truth-loop-self-init : goal.truth-loop-self-init
truth-loop-self-init t c = record { own_kind = refl; run_on = on_entry (rw c.in-True.is) c.requires.ready }

-- The words end.
pub truth-returns-then-steps-next-clause-result_value : goal.truth-returns-then-steps-next-clause-result_value
truth-returns-then-steps-next-clause-result_value t c =
    at_end c.loop-self.invariant.run_on c.if-steps-next.true c.refused-then-steps-next.ensures

-- The step is refused,
pub truth-returns-in-Refused-clause-result_value : goal.truth-returns-in-Refused-clause-result_value
truth-returns-in-Refused-clause-result_value t c =
    let l = c.loop-self in
    let here = here_opened l.invariant.own_kind c.if-steps-next.false c.open_truth-premises.ensures in
    refused l.invariant.run_on here (ap (opened l.walk.goal) c.in-Refused.is) c.refused-in-Refused.ensures

-- or closed.
pub truth-returns-in-0 : goal.truth-returns-in-0
truth-returns-in-0 t c =
    let l = c.loop-self in
    let counts = counted l.invariant.own_kind c.if-steps-next.false c.open_truth-premises.ensures
    c.in_default-premises.not-Refused c.upper.ensures c.premise_count.ensures in
    let d = done _ _ c.args.slots.now c.args.self l.invariant.run_on.since
    (closed l.invariant.run_on counts.here (opens_none counts c.in-0.is))
    c.proved.ensures.value c.proved.ensures.slots_after in
    record { result_value = d.0; left = d.1 }

-- It has one premise, which is a truth: the loop goes on.
pub truth-onward-walk-requires : goal.truth-onward-walk-requires
truth-onward-walk-requires t c =
    let l = c.loop-self in
    let counts = counted l.invariant.own_kind c.if-steps-next.false c.open_truth-premises.ensures
    c.in_default-premises.not-Refused c.upper.ensures c.premise_count.ensures in
    omega (arith, deep_one l.invariant.run_on counts.here (opens_one counts c.in-1.is c.last_premise-last.ensures))

pub truth-loop-self-preserved-in-True-goal : goal.truth-loop-self-preserved-in-True-goal
truth-loop-self-preserved-in-True-goal t c =
    let l = c.loop-self in
    let p = c.last_premise-last in
    let counts = counted l.invariant.own_kind c.if-steps-next.false c.open_truth-premises.ensures
    c.in_default-premises.not-Refused c.upper.ensures c.premise_count.ensures in
    let opens = opens_one counts c.in-1.is p.ensures in
    record {
      own_kind = rw c.onward-walk.ensures;
      run_on = goes_on l.invariant.run_on counts.here p.result (l.walk.next + 1)
          (one l.invariant.run_on counts.here opens) (omega arith) kept_nothing c.hold_added-more.ensures.value
          c.hold_added-more.ensures.slots_after c.in-True-goal.is c.onward-walk.ensures;
    }

-- It is an affirmation, by rule 10: the other function is called.
pub truth-onward-premise-requires : goal.truth-onward-premise-requires
truth-onward-premise-requires t c =
    let l = c.loop-self in
    let counts = counted l.invariant.own_kind c.if-steps-next.false c.open_truth-premises.ensures
    c.in_default-premises.not-Refused c.upper.ensures c.premise_count.ensures in
    omega (arith, deep_one l.invariant.run_on counts.here (opens_one counts c.in-1.is c.last_premise-last.ensures))

pub truth-affirmation-walked-requires : goal.truth-affirmation-walked-requires
truth-affirmation-walked-requires t c =
    let l = c.loop-self in
    let more = c.hold_added-more.ensures in
    let v = c.onward-premise.ensures in
    let here = here_opened l.invariant.own_kind c.if-steps-next.false c.open_truth-premises.ensures in (
      rw v (omega (arith, l.invariant.run_on.forward, here.inside, c.decreases)),
      (
        rw (v, c.in-Affirms.is) tt,
        (since_premise l.invariant.run_on here c.last_premise-last.result more.value more.slots_after v).ready,
      ),
    )

pub truth-returns-in_default-walked : goal.truth-returns-in_default-walked
truth-returns-in_default-walked t c =
    let l = c.loop-self in
    let p = c.last_premise-last in
    let more = c.hold_added-more.ensures in
    let counts = counted l.invariant.own_kind c.if-steps-next.false c.open_truth-premises.ensures
    c.in_default-premises.not-Refused c.upper.ensures c.premise_count.ensures in
    let call = called l.invariant.run_on counts.here p.result more.value more.slots_after c.onward-premise.ensures
    c.affirmation-walked.ensures.result_value in
    record {
      result_value = only_answered l.invariant.run_on counts.here (opens_one counts c.in-1.is p.ensures) call;
      left = rw c.in_default-walked.is tt;
    }

pub truth-returns-in-Affirms : goal.truth-returns-in-Affirms
truth-returns-in-Affirms t c =
    let l = c.loop-self in
    let p = c.last_premise-last in
    let more = c.hold_added-more.ensures in
    let v = c.onward-premise.ensures in
    let counts = counted l.invariant.own_kind c.if-steps-next.false c.open_truth-premises.ensures
    c.in_default-premises.not-Refused c.upper.ensures c.premise_count.ensures in
    let call = called l.invariant.run_on counts.here p.result more.value more.slots_after v
    c.affirmation-walked.ensures.result_value in
    let since = since_premise l.invariant.run_on counts.here p.result more.value more.slots_after v in
    let d = done _ _ c.args.slots.now c.args.self (since_kept since c.in-Done.ensures.left.2)
    (only_proved l.invariant.run_on counts.here (opens_one counts c.in-1.is p.ensures) call c.in-Done.is)
    c.proved-in-Affirms.ensures.value c.proved-in-Affirms.ensures.slots_after in
    record { result_value = d.0; left = d.1 }

-- It has two premises.
pub truth-onward-premise-requires-in_default-premise_count : goal.truth-onward-premise-requires-in_default-premise_count
truth-onward-premise-requires-in_default-premise_count t c =
    let l = c.loop-self in
    let counts = counted l.invariant.own_kind c.if-steps-next.false c.open_truth-premises.ensures
    c.in_default-premises.not-Refused c.upper.ensures c.premise_count.ensures in
    let many : 2 ≤ c.premise_count.result = omega arith in
    omega (arith, deep_two l.invariant.run_on counts.here (opens_two counts many c.first_premise-first.ensures refl))

-- The first is a truth.
pub truth-truth-walked-requires : goal.truth-truth-walked-requires
truth-truth-walked-requires t c =
    let l = c.loop-self in
    let p = c.first_premise-first in
    let with_first = c.hold_added-with_first.ensures in
    let v = c.onward-premise-in_default-premise_count.ensures in
    let counts = counted l.invariant.own_kind c.if-steps-next.false c.open_truth-premises.ensures
    c.in_default-premises.not-Refused c.upper.ensures c.premise_count.ensures in
    let many : 2 ≤ c.premise_count.result = omega arith in
    let opens = opens_two counts many p.ensures refl in
    let turns = rw l.invariant.own_kind at (turns_here l.invariant.run_on counts.here opens) in (
      rw v (omega (arith, l.invariant.run_on.forward, counts.here.inside, c.decreases)),
      (
        rw v turns.0,
        (since_premise l.invariant.run_on counts.here p.result with_first.value with_first.slots_after v).ready,
      ),
    )

pub truth-returns-in_default-walked-2 : goal.truth-returns-in_default-walked-2
truth-returns-in_default-walked-2 t c =
    let l = c.loop-self in
    let p = c.first_premise-first in
    let with_first = c.hold_added-with_first.ensures in
    let counts = counted l.invariant.own_kind c.if-steps-next.false c.open_truth-premises.ensures
    c.in_default-premises.not-Refused c.upper.ensures c.premise_count.ensures in
    let many : 2 ≤ c.premise_count.result = omega arith in
    let call = called l.invariant.run_on counts.here p.result with_first.value with_first.slots_after
    c.onward-premise-in_default-premise_count.ensures c.truth-walked.ensures.result_value in
    record {
      result_value = first_refused l.invariant.run_on counts.here (opens_two counts many p.ensures refl) call
          c.in_default-walked-2.is;
      left = rw c.in_default-walked-2.is tt;
    }

-- The last is a truth:
pub truth-returns-in_default-goal : goal.truth-returns-in_default-goal
truth-returns-in_default-goal t c =
    let l = c.loop-self in
    let q = c.last_premise-last-in_default-premise_count in
    let counts = counted l.invariant.own_kind c.if-steps-next.false c.open_truth-premises.ensures
    c.in_default-premises.not-Refused c.upper.ensures c.premise_count.ensures in
    let many : 2 ≤ c.premise_count.result = omega arith in
    let opens = opens_two counts many c.first_premise-first.ensures q.ensures in
    let turns = rw l.invariant.own_kind at (turns_here l.invariant.run_on counts.here opens) in
    absurd (rw c.in_default-goal.is at turns.1)

-- the loop goes on.
pub truth-loop-self-smaller : goal.truth-loop-self-smaller
truth-loop-self-smaller t c =
    let l = c.loop-self in
    let p = c.first_premise-first in
    let with_first = c.hold_added-with_first.ensures in
    let here = here_opened l.invariant.own_kind c.if-steps-next.false c.open_truth-premises.ensures in
    let call = called l.invariant.run_on here p.result with_first.value with_first.slots_after
    c.onward-premise-in_default-premise_count.ensures c.truth-walked.ensures.result_value in
    let past = premise_past l.invariant.run_on here p.result call c.in-Done-walked.is in
    rw c.onward-walk-in_default-premise_count.ensures (omega (arith, past, here.inside))

pub truth-loop-self-preserved : goal.truth-loop-self-preserved
truth-loop-self-preserved t c =
    let l = c.loop-self in
    let p = c.first_premise-first in
    let q = c.last_premise-last-in_default-premise_count in
    let with_first = c.hold_added-with_first.ensures in
    let with_last = c.hold_last-with_last.ensures in
    let v = c.onward-premise-in_default-premise_count.ensures in
    let counts = counted l.invariant.own_kind c.if-steps-next.false c.open_truth-premises.ensures
    c.in_default-premises.not-Refused c.upper.ensures c.premise_count.ensures in
    let many : 2 ≤ c.premise_count.result = omega arith in
    let opens = opens_two counts many p.ensures q.ensures in
    let call = called l.invariant.run_on counts.here p.result with_first.value with_first.slots_after v
    c.truth-walked.ensures.result_value in
    let past = premise_past l.invariant.run_on counts.here p.result call c.in-Done-walked.is in
    let kept = rw v at c.in-Done-walked.ensures.left.2 in
    let back = held_back (added p.result.added) l.invariant.run_on.since.ready with_first.value with_first.slots_after
    kept refl in
    record {
      own_kind = rw c.onward-walk-in_default-premise_count.ensures;
      run_on = goes_on l.invariant.run_on counts.here q.result _
          (first_proved l.invariant.run_on counts.here opens call c.in-Done-walked.is) (omega (arith, past)) back
          with_last.value with_last.slots_after c.in-True-goal-2.is c.onward-walk-in_default-premise_count.ensures;
    }

-- ---- `Walk::affirmation`

-- The start.
pub affirmation-loop-self-init : goal.affirmation-loop-self-init
affirmation-loop-self-init t c = record {
  own_kind = refl;
  run_on = on_entry (rw c.in-Affirms.is) c.requires.ready;
}

-- The words end.
pub affirmation-returns-then-steps-next-clause-result_value :
    goal.affirmation-returns-then-steps-next-clause-result_value
affirmation-returns-then-steps-next-clause-result_value t c =
    at_end c.loop-self.invariant.run_on c.if-steps-next.true c.refused-then-steps-next.ensures

-- The step is refused,
pub affirmation-returns-in-Refused-clause-result_value : goal.affirmation-returns-in-Refused-clause-result_value
affirmation-returns-in-Refused-clause-result_value t c =
    let l = c.loop-self in
    let here = here_opened l.invariant.own_kind c.if-steps-next.false c.open_affirmation-premises.ensures in
    refused l.invariant.run_on here (ap (opened l.walk.goal) c.in-Refused.is) c.refused-in-Refused.ensures

-- or closed.
pub affirmation-returns-in-0 : goal.affirmation-returns-in-0
affirmation-returns-in-0 t c =
    let l = c.loop-self in
    let counts = counted l.invariant.own_kind c.if-steps-next.false c.open_affirmation-premises.ensures
    c.in_default-premises.not-Refused c.upper.ensures c.premise_count.ensures in
    let d = done _ _ c.args.slots.now c.args.self l.invariant.run_on.since
    (closed l.invariant.run_on counts.here (opens_none counts c.in-0.is))
    c.proved.ensures.value c.proved.ensures.slots_after in
    record { result_value = d.0; left = d.1 }

-- It has one premise, which is an affirmation: the loop goes on.
pub affirmation-onward-walk-requires : goal.affirmation-onward-walk-requires
affirmation-onward-walk-requires t c =
    let l = c.loop-self in
    let counts = counted l.invariant.own_kind c.if-steps-next.false c.open_affirmation-premises.ensures
    c.in_default-premises.not-Refused c.upper.ensures c.premise_count.ensures in
    omega (arith, deep_one l.invariant.run_on counts.here (opens_one counts c.in-1.is c.last_premise-last.ensures))

pub affirmation-loop-self-preserved-in-Affirms-goal : goal.affirmation-loop-self-preserved-in-Affirms-goal
affirmation-loop-self-preserved-in-Affirms-goal t c =
    let l = c.loop-self in
    let p = c.last_premise-last in
    let counts = counted l.invariant.own_kind c.if-steps-next.false c.open_affirmation-premises.ensures
    c.in_default-premises.not-Refused c.upper.ensures c.premise_count.ensures in
    let opens = opens_one counts c.in-1.is p.ensures in
    record {
      own_kind = rw c.onward-walk.ensures;
      run_on = goes_on l.invariant.run_on counts.here p.result (l.walk.next + 1)
          (one l.invariant.run_on counts.here opens) (omega arith) kept_nothing c.hold_added-more.ensures.value
          c.hold_added-more.ensures.slots_after c.in-Affirms-goal.is c.onward-walk.ensures;
    }

-- It is a truth, by rule 1: the other function is called.
pub affirmation-onward-premise-requires : goal.affirmation-onward-premise-requires
affirmation-onward-premise-requires t c =
    let l = c.loop-self in
    let counts = counted l.invariant.own_kind c.if-steps-next.false c.open_affirmation-premises.ensures
    c.in_default-premises.not-Refused c.upper.ensures c.premise_count.ensures in
    omega (arith, deep_one l.invariant.run_on counts.here (opens_one counts c.in-1.is c.last_premise-last.ensures))

pub affirmation-truth-walked-requires : goal.affirmation-truth-walked-requires
affirmation-truth-walked-requires t c =
    let l = c.loop-self in
    let more = c.hold_added-more.ensures in
    let v = c.onward-premise.ensures in
    let here = here_opened l.invariant.own_kind c.if-steps-next.false c.open_affirmation-premises.ensures in (
      rw v (omega (arith, l.invariant.run_on.forward, here.inside, c.decreases)),
      (
        rw (v, c.in-True.is) tt,
        (since_premise l.invariant.run_on here c.last_premise-last.result more.value more.slots_after v).ready,
      ),
    )

pub affirmation-returns-in_default-walked : goal.affirmation-returns-in_default-walked
affirmation-returns-in_default-walked t c =
    let l = c.loop-self in
    let p = c.last_premise-last in
    let more = c.hold_added-more.ensures in
    let counts = counted l.invariant.own_kind c.if-steps-next.false c.open_affirmation-premises.ensures
    c.in_default-premises.not-Refused c.upper.ensures c.premise_count.ensures in
    let call = called l.invariant.run_on counts.here p.result more.value more.slots_after c.onward-premise.ensures
    c.truth-walked.ensures.result_value in
    record {
      result_value = only_answered l.invariant.run_on counts.here (opens_one counts c.in-1.is p.ensures) call;
      left = rw c.in_default-walked.is tt;
    }

pub affirmation-returns-in-True : goal.affirmation-returns-in-True
affirmation-returns-in-True t c =
    let l = c.loop-self in
    let p = c.last_premise-last in
    let more = c.hold_added-more.ensures in
    let v = c.onward-premise.ensures in
    let counts = counted l.invariant.own_kind c.if-steps-next.false c.open_affirmation-premises.ensures
    c.in_default-premises.not-Refused c.upper.ensures c.premise_count.ensures in
    let call = called l.invariant.run_on counts.here p.result more.value more.slots_after v
    c.truth-walked.ensures.result_value in
    let since = since_premise l.invariant.run_on counts.here p.result more.value more.slots_after v in
    let d = done _ _ c.args.slots.now c.args.self (since_kept since c.in-Done.ensures.left.2)
    (only_proved l.invariant.run_on counts.here (opens_one counts c.in-1.is p.ensures) call c.in-Done.is)
    c.proved-in-True.ensures.value c.proved-in-True.ensures.slots_after in
    record { result_value = d.0; left = d.1 }

-- It has two premises.
pub affirmation-onward-premise-requires-in_default-premise_count :
    goal.affirmation-onward-premise-requires-in_default-premise_count
affirmation-onward-premise-requires-in_default-premise_count t c =
    let l = c.loop-self in
    let counts = counted l.invariant.own_kind c.if-steps-next.false c.open_affirmation-premises.ensures
    c.in_default-premises.not-Refused c.upper.ensures c.premise_count.ensures in
    let many : 2 ≤ c.premise_count.result = omega arith in
    omega (arith, deep_two l.invariant.run_on counts.here (opens_two counts many c.first_premise-first.ensures refl))

-- The first is a truth, by rule 3,
pub affirmation-truth-walked-requires-in-True-goal : goal.affirmation-truth-walked-requires-in-True-goal
affirmation-truth-walked-requires-in-True-goal t c =
    let l = c.loop-self in
    let with_first = c.hold_added-with_first.ensures in
    let v = c.onward-premise-in_default-premise_count.ensures in
    let here = here_opened l.invariant.own_kind c.if-steps-next.false c.open_affirmation-premises.ensures in
    let since = since_premise l.invariant.run_on here c.first_premise-first.result with_first.value
    with_first.slots_after v in (
      rw v (omega (arith, l.invariant.run_on.forward, here.inside, c.decreases)),
      (rw (v, c.in-True-goal.is) tt, since.ready),
    )

-- or an affirmation, by rule 9.
pub affirmation-affirmation-walked-requires : goal.affirmation-affirmation-walked-requires
affirmation-affirmation-walked-requires t c =
    let l = c.loop-self in
    let with_first = c.hold_added-with_first.ensures in
    let v = c.onward-premise-in_default-premise_count.ensures in
    let here = here_opened l.invariant.own_kind c.if-steps-next.false c.open_affirmation-premises.ensures in
    let since = since_premise l.invariant.run_on here c.first_premise-first.result with_first.value
    with_first.slots_after v in (
      rw v (omega (arith, l.invariant.run_on.forward, here.inside, c.decreases)),
      (rw (v, c.in-Affirms-goal-2.is) tt, since.ready),
    )

-- what the walk of the first comes to, whichever it is
abbrev FirstCame : (t : ℕ) → affirmation-In-Done-walked t → Type 0
FirstCame t c = Came (entries c.args.heads.now c.args.seconds.now) c.args.steps.now c.hold_added-with_first.new.slots
    c.onward-premise-in_default-premise_count.result c.match-first.walked c.match-first.slots

first_came : (t : ℕ) (c : affirmation-In-Done-walked t) → FirstCame t c
first_came t c =
    elim c.match-first.branch [
      | affirmation-in-True-goal w ↦ rw (w.slots-is, w.walked-is) (record {
        verdict = w.truth-walked-in-True-goal.ensures.result_value;
        left = w.truth-walked-in-True-goal.ensures.left;
      })
      | affirmation-in-Affirms-goal-2 w ↦ rw (w.slots-is, w.walked-is) (record {
        verdict = w.affirmation-walked.ensures.result_value;
        left = w.affirmation-walked.ensures.left;
      })
    ]

pub affirmation-returns-in_default-walked-2 : goal.affirmation-returns-in_default-walked-2
affirmation-returns-in_default-walked-2 t c =
    let l = c.loop-self in
    let p = c.first_premise-first in
    let with_first = c.hold_added-with_first.ensures in
    let counts = counted l.invariant.own_kind c.if-steps-next.false c.open_affirmation-premises.ensures
    c.in_default-premises.not-Refused c.upper.ensures c.premise_count.ensures in
    let many : 2 ≤ c.premise_count.result = omega arith in
    let verdict : verdict_of c.match-first.walked
    ≡ run_from (entries c.args.heads.now c.args.seconds.now) c.args.steps.now c.hold_added-with_first.new.slots
    c.onward-premise-in_default-premise_count.result =
    elim c.match-first.branch [
      | affirmation-in-True-goal w ↦ rw w.walked-is w.truth-walked-in-True-goal.ensures.result_value
      | affirmation-in-Affirms-goal-2 w ↦ rw w.walked-is w.affirmation-walked.ensures.result_value
    ] in
    let call = called l.invariant.run_on counts.here p.result with_first.value with_first.slots_after
    c.onward-premise-in_default-premise_count.ensures verdict in
    record {
      result_value = first_refused l.invariant.run_on counts.here (opens_two counts many p.ensures refl) call
          c.in_default-walked-2.is;
      left = rw c.in_default-walked-2.is tt;
    }

-- The last is an affirmation:
pub affirmation-returns-in_default-goal : goal.affirmation-returns-in_default-goal
affirmation-returns-in_default-goal t c =
    let l = c.loop-self in
    let q = c.last_premise-last-in_default-premise_count in
    let counts = counted l.invariant.own_kind c.if-steps-next.false c.open_affirmation-premises.ensures
    c.in_default-premises.not-Refused c.upper.ensures c.premise_count.ensures in
    let many : 2 ≤ c.premise_count.result = omega arith in
    let opens = opens_two counts many c.first_premise-first.ensures q.ensures in
    let turns = rw l.invariant.own_kind at (turns_here l.invariant.run_on counts.here opens) in
    absurd (rw c.in_default-goal.is at turns)

-- the loop goes on.
pub affirmation-loop-self-smaller : goal.affirmation-loop-self-smaller
affirmation-loop-self-smaller t c =
    let l = c.loop-self in
    let p = c.first_premise-first in
    let with_first = c.hold_added-with_first.ensures in
    let here = here_opened l.invariant.own_kind c.if-steps-next.false c.open_affirmation-premises.ensures in
    let came = first_came t (goal.at.affirmation-loop-self-smaller t c).In-Done-walked in
    let call = called l.invariant.run_on here p.result with_first.value with_first.slots_after
    c.onward-premise-in_default-premise_count.ensures came.verdict in
    let past = premise_past l.invariant.run_on here p.result call c.in-Done-walked.is in
    rw c.onward-walk-in_default-premise_count.ensures (omega (arith, past, here.inside))

pub affirmation-loop-self-preserved : goal.affirmation-loop-self-preserved
affirmation-loop-self-preserved t c =
    let l = c.loop-self in
    let p = c.first_premise-first in
    let q = c.last_premise-last-in_default-premise_count in
    let with_first = c.hold_added-with_first.ensures in
    let with_last = c.hold_last-with_last.ensures in
    let v = c.onward-premise-in_default-premise_count.ensures in
    let counts = counted l.invariant.own_kind c.if-steps-next.false c.open_affirmation-premises.ensures
    c.in_default-premises.not-Refused c.upper.ensures c.premise_count.ensures in
    let many : 2 ≤ c.premise_count.result = omega arith in
    let opens = opens_two counts many p.ensures q.ensures in
    let came = first_came t (goal.at.affirmation-loop-self-preserved t c).In-Done-walked in
    let call = called l.invariant.run_on counts.here p.result with_first.value with_first.slots_after v
    came.verdict in
    let past = premise_past l.invariant.run_on counts.here p.result call c.in-Done-walked.is in
    let kept = (rw (c.in-Done-walked.is, v) at came.left).2 in
    let back = held_back (added p.result.added) l.invariant.run_on.since.ready with_first.value with_first.slots_after
    kept refl in
    record {
      own_kind = rw c.onward-walk-in_default-premise_count.ensures;
      run_on = goes_on l.invariant.run_on counts.here q.result _
          (first_proved l.invariant.run_on counts.here opens call c.in-Done-walked.is) (omega (arith, past)) back
          with_last.value with_last.slots_after c.in-Affirms-goal-3.is c.onward-walk-in_default-premise_count.ensures;
    }
