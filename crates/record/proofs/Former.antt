-- What became of the former answers (specs/Former.antt): both are read off from what 1 to 7 come to, the walk's
-- verdict, and whether the list is short. Assumes nothing.
use Prim.Native.Nat.{ℕ, ◌≤◌}
use native.Mathlib.Omega.{arith}
use mathlib.Core.Bool.{Bool, true, false, true≢false}
use mathlib.Core.Path.{◌≡◌, refl, sym, ap, ◌∙◌}
use mathlib.Core.Logic.Iff
use mathlib.Core.Logic.{◌↔◌}
use mathlib.Core.List.{List, [], ◌∷◌, ◌++◌}
use lib.ListN.{length}
use lib.Dec.{ltb}
use borrow.Author.Tests.{ltb-true, lt-ltb, le-ltb}
use Rattle.std.specs.Prelude.{Err}
use Rattle.basics.specs.Tested.{Tested}
use Rattle.basics.specs.Tested as Outcome
use Rattle.basics.specs.Choice.{pick}
use Rattle.basics.specs.Refusals.{Test, test, at0, first_refusal, unless_refused}
use Rattle.basics.proofs.Refusals.{same_refusal, not_passed, passed_by_all, joined_refused, joined_passed}
use Rattle.steps.specs.Verdict.{WalkVerdict}
use Rattle.steps.specs.Verdict as Walk
use Rattle.steps.specs.Run.{walked}
use Rattle.steps.specs.Figure1.{same}
use Rattle.signers.proofs.Each.{principals_are, signs_spelled, signers_have_papers}
use Rattle.record.specs.Verdict.{RecordVerdict, Granted, Refused}
use Rattle.record.specs.Layout.{statements, table, says_left_numbers, signers}
use Rattle.record.specs.Answer as Every
use Rattle.record.specs.Answer.{tests_to7}
use Rattle.record.specs.Figure1.{step_verdict, record_answer}
use Rattle.record.specs.Former.{former_signers, FormerSignersSpelled, former_answer, FormerEight, ArchiveKept}
use Rattle.record.proofs.Answered.{not_granted}
use Rattle.record.proofs.Keeps.{none_to_7}
use Rattle.record.proofs.Reasons.{step_number}
use Rattle.record.proofs.Figure1.{eight_exactly}

pub former_signers_spelled : FormerSignersSpelled
former_signers_spelled file keeps K =
    Iff.trans ((principals_are (table file) (statements file)).0 K)
    (signs_spelled (table file) keeps.ordered (statements file) K)

-- ---- the answers, by what they are made of

-- what 1 to 7 come to, the walk's verdict, whether the list is short, and the count: now,
abbrev answered : Tested → WalkVerdict → Bool → ℕ → RecordVerdict
answered (Err r) v short count = Err r
answered Outcome.Passed (Err r) short count = Err r
answered Outcome.Passed (Walk.Closed q) short count = pick short (Refused 8 0) (Granted count)

-- and before
abbrev formerly : Tested → WalkVerdict → Bool → ℕ → RecordVerdict
formerly (Err r) v short count = Err r
formerly Outcome.Passed v true count = Refused 8 0
formerly Outcome.Passed (Err r) false count = Err r
formerly Outcome.Passed (Walk.Closed q) false count = Granted count

-- The tests after 7, in either order.
walk_first : (v : WalkVerdict) (short : Bool) (count : ℕ)
    → unless_refused (first_refusal (walked v ∷ test 8 (at0 short) ∷ [])) (Granted count)
    ≡ answered Outcome.Passed v short count
unfolding first_refusal
walk_first (Walk.Closed q) true count = refl
walk_first (Walk.Closed q) false count = refl
walk_first (Err r) short count = refl

list_first : (v : WalkVerdict) (short : Bool) (count : ℕ)
    → unless_refused (first_refusal (test 8 (at0 short) ∷ walked v ∷ [])) (Granted count)
    ≡ formerly Outcome.Passed v short count
unfolding first_refusal
list_first v true count = refl
list_first (Walk.Closed q) false count = refl
list_first (Err r) false count = refl

-- After tests that pass, others decide; after tests that refuse, none does.
after_tests : (ts us : List Test) (t : Tested) → first_refusal ts ≡ t → (verdict : RecordVerdict)
    → (ends : Tested → RecordVerdict) → ((number p : ℕ) → ends (Outcome.Refused number p) ≡ Refused number p)
    → unless_refused (first_refusal us) verdict ≡ ends Outcome.Passed
    → unless_refused (first_refusal (ts ++ us)) verdict ≡ ends t
after_tests ts us Outcome.Passed e verdict ends refuses passes =
    ap (λ (t : Tested). unless_refused t verdict) (joined_passed ts us e) ∙ passes
after_tests ts us (Err r) e verdict ends refuses passes =
    ap (λ (t : Tested). unless_refused t verdict) (joined_refused ts us e) ∙ sym (refuses r.number r.place)

module _ (file : List ℕ) (room : ℕ) where
  -- what 1 to 7 come to; whether the list is too short for the signers, and for those of all papers
  abbrev to_7 : Tested
  to_7 = first_refusal (tests_to7 file)

  abbrev short : Bool
  short = ltb room (length (signers file))

  abbrev former_short : Bool
  former_short = ltb room (length (former_signers file))

  answer_is : record_answer file room ≡ answered to_7 (step_verdict file) short (length (signers file))
  unfolding Every.record_answer
  answer_is =
      after_tests (tests_to7 file) (walked (step_verdict file) ∷ test 8 (at0 short) ∷ []) to_7 refl
      (Granted (length (signers file)))
      (λ t. answered t (step_verdict file) short (length (signers file))) (λ number p. refl)
      (walk_first (step_verdict file) short (length (signers file)))

  former_is : former_answer file room ≡ formerly to_7 (step_verdict file) former_short (length (former_signers file))
  unfolding former_answer
  former_is =
      after_tests (tests_to7 file) (test 8 (at0 former_short) ∷ walked (step_verdict file) ∷ []) to_7 refl
      (Granted (length (former_signers file)))
      (λ t. formerly t (step_verdict file) former_short (length (former_signers file))) (λ number p. refl)
      (list_first (step_verdict file) former_short (length (former_signers file)))

-- ---- what becomes of them, where the list is short now only if it was before, and the count is no larger

granted_stays : (t : Tested) (v : WalkVerdict) (short former : Bool) (count most : ℕ) → (short ≡ true → former ≡ true)
    → count ≤ most
    → (before : ℕ) → formerly t v former most ≡ Granted before
    → (now : ℕ) × (answered t v short count ≡ Granted now) × (now ≤ before)
granted_stays (Err r) v short former count most shorter fewer before e = absurd (not_granted e)
granted_stays Outcome.Passed v short true count most shorter fewer before e = absurd (not_granted e)
granted_stays Outcome.Passed (Err r) short false count most shorter fewer before e =
    absurd (not_granted e)
granted_stays Outcome.Passed (Walk.Closed q) true false count most shorter fewer before e =
    absurd (true≢false (sym (shorter refl)))
granted_stays Outcome.Passed (Walk.Closed q) false false count most shorter fewer before e =
    (count, refl, (let same : most ≡ before = cc in omega arith))

was_refused : (t : Tested) (v : WalkVerdict) (short former : Bool) (count most : ℕ) → (short ≡ true → former ≡ true)
    → (number p : ℕ) → answered t v short count ≡ Refused number p
    → (before : ℕ) × (q : ℕ) × (formerly t v former most ≡ Refused before q)
was_refused (Err r) v short former count most shorter number p e = (r.number, r.place, refl)
was_refused Outcome.Passed v short true count most shorter number p e = (8, 0, refl)
was_refused Outcome.Passed (Err r) short false count most shorter number p e = (r.number, r.place, refl)
was_refused Outcome.Passed (Walk.Closed q) true false count most shorter number p e =
    absurd (true≢false (sym (shorter refl)))
was_refused Outcome.Passed (Walk.Closed q) false false count most shorter number p e = absurd (not_granted (sym e))

was_short : (t : Tested) (v : WalkVerdict) (short former : Bool) (count most : ℕ) → (now number p : ℕ)
    → answered t v short count ≡ Granted now → formerly t v former most ≡ Refused number p → (number ≡ 8) × (p ≡ 0)
was_short (Err r) v short former count most now number p e f = absurd (not_granted e)
was_short Outcome.Passed (Err r) short former count most now number p e f = absurd (not_granted e)
was_short Outcome.Passed (Walk.Closed q) true former count most now number p e f = absurd (not_granted e)
was_short Outcome.Passed (Walk.Closed q) false true count most now number p e f =
    let (eight, at_0) = same_refusal f in (sym eight, sym at_0)
was_short Outcome.Passed (Walk.Closed q) false false count most now number p e f = absurd (not_granted (sym f))

-- Where it was long enough, refusals are the same.
same_refused : (t : Tested) (v : WalkVerdict) (count most : ℕ) (number p : ℕ)
    → answered t v false count ≡ Refused number p ↔ formerly t v false most ≡ Refused number p
same_refused (Err r) v count most number p = (λ e. e, λ e. e)
same_refused Outcome.Passed (Err r) count most number p = (λ e. e, λ e. e)
same_refused Outcome.Passed (Walk.Closed q) count most number p =
    (λ e. absurd (not_granted (sym e)), λ e. absurd (not_granted (sym e)))

-- Refusals by 1 to 7 are the same: neither the list nor a step gives one of these numbers.
same_low : (t : Tested) (v : WalkVerdict) (short former : Bool) (count most number p : ℕ)
    → ((n q : ℕ) → v ≡ Walk.Refused n q → 9 ≤ n) → number ≤ 7
    → answered t v short count ≡ Refused number p ↔ formerly t v former most ≡ Refused number p
same_low (Err r) v short former count most number p steps few = (λ e. e, λ e. e)
same_low Outcome.Passed v short former count most number p steps few = (
  λ e. absurd (not_now v short steps e),
  λ e. absurd (not_before v former steps e),
)
  where
    not_now : (v : WalkVerdict) (short : Bool) → ((n q : ℕ) → v ≡ Walk.Refused n q → 9 ≤ n)
        → ¬ (answered Outcome.Passed v short count ≡ Refused number p)
    not_now (Err r) short steps e = let l = steps r.number r.place refl in let (same, _) = same_refusal e in omega arith
    not_now (Walk.Closed q) true steps e = let (same, _) = same_refusal e in omega arith
    not_now (Walk.Closed q) false steps e = not_granted (sym e)

    not_before : (v : WalkVerdict) (former : Bool) → ((n q : ℕ) → v ≡ Walk.Refused n q → 9 ≤ n)
        → ¬ (formerly Outcome.Passed v former most ≡ Refused number p)
    not_before v true steps e = let (same, _) = same_refusal e in omega arith
    not_before (Err r) false steps e = let l = steps r.number r.place refl in let (same, _) = same_refusal e in omega arith
    not_before (Walk.Closed q) false steps e = not_granted (sym e)

module _ (file : List ℕ) (room : ℕ) where
  steps_from_9 : (n q : ℕ) → step_verdict file ≡ Walk.Refused n q → 9 ≤ n
  steps_from_9 n q e = (step_number same file n q e).0

  -- 8 was the list's reason alone: 1 to 7 refuse by their numbers, now as then, and 8 is none of theirs now,
  of_eight : (t : Tested) (v : WalkVerdict) (former : Bool) (p : ℕ) → to_7 file room ≡ t → step_verdict file ≡ v
      → formerly t v former (length (former_signers file)) ≡ Refused 8 p
      → (p ≡ 0) × (t ≡ Outcome.Passed) × (former ≡ true)
  of_eight (Err r) v former p e w is =
      let now : record_answer file room ≡ Refused 8 p =
      answer_is file room
      ∙ ap (λ (t : Tested). answered t (step_verdict file) (short file room) (length (signers file))) e
      ∙ is in
      let (_, keeps, _, _) = (eight_exactly file room p).0 now in
      absurd (not_passed (sym e ∙ (passed_by_all (tests_to7 file)).1 ((none_to_7 file).1 keeps)))
  of_eight Outcome.Passed v true p e w is = (sym (same_refusal is).1, refl, refl)
  of_eight Outcome.Passed (Err r) false p e w is =
      let l = steps_from_9 r.number r.place w in let (same, _) = same_refusal is in absurd (omega arith)
  of_eight Outcome.Passed (Walk.Closed q) false p e w is = absurd (not_granted (sym is))

-- and a file that keeps the layout passes 1 to 7.
pub former_eight : FormerEight
former_eight file room p = (
  λ e.
      let (z, passed, is-short) = of_eight file room (to_7 file room) (step_verdict file) (former_short file room) p refl
      refl (sym (former_is file room) ∙ e) in
      (z, (none_to_7 file).0 ((passed_by_all (tests_to7 file)).0 passed), ltb-true _ _ is-short),
  λ (z, keeps, less).
      let passes = (passed_by_all (tests_to7 file)).1 ((none_to_7 file).1 keeps) in
      let most : ℕ = length (former_signers file) in
      former_is file room
      ∙ ap (λ (t : Tested). formerly t (step_verdict file) (former_short file room) most) passes
      ∙ ap (λ (b : Bool). formerly Outcome.Passed (step_verdict file) b most) (lt-ltb room most less)
      ∙ ap (Refused 8) (sym z),
)

pub archive_kept : ArchiveKept
archive_kept file room =
    let (had-papers, fewer) = signers_have_papers (table file) (statements file) (says_left_numbers file) in
    let v = step_verdict file in
    let count : ℕ = length (signers file) in
    let most : ℕ = length (former_signers file) in
    let shorter : short file room ≡ true → former_short file room ≡ true =
    λ e. lt-ltb room most (let l = ltb-true room count e in omega arith) in
    let is = answer_is file room in
    let was = former_is file room in
    record {
      granted = λ before e.
          let (now, stays, less) = granted_stays (to_7 file room) v (short file room) (former_short file room) count
          most shorter fewer before (sym was ∙ e) in
          (now, is ∙ stays, less);
      were_signers = had-papers;
      refused = λ number p e.
          let (before, q, refuses) = was_refused (to_7 file room) v (short file room) (former_short file room) count
          most shorter number p (sym is ∙ e) in
          (before, q, was ∙ refuses);
      short_list = λ now number p e f.
          was_short (to_7 file room) v (short file room) (former_short file room) count most now number p (sym is ∙ e)
          (sym was ∙ f);
      same_to_seven = λ number p few.
          let (to, from) = same_low (to_7 file room) v (short file room) (former_short file room) count most number p
          (steps_from_9 file room) few in
          (λ e. was ∙ to (sym is ∙ e), λ e. is ∙ from (sym was ∙ e));
      same_refusals = λ room_for number p.
          let long : short file room ≡ false = le-ltb room count (omega arith) in
          let was-long : former_short file room ≡ false = le-ltb room most room_for in
          let (to, from) = same_refused (to_7 file room) v count most number p in
          let now-long = is ∙ ap (λ (b : Bool). answered (to_7 file room) v b count) long in
          let then-long = was ∙ ap (λ (b : Bool). formerly (to_7 file room) v b most) was-long in
          (λ e. then-long ∙ to (sym now-long ∙ e), λ e. now-long ∙ from (sym then-long ∙ e));
    }
