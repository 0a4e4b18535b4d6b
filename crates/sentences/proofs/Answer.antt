-- The answer is what follows the record's own (specs/Answer.antt); so a text is written exactly for a granted record
-- whose text fits (specs/Promises.antt, `WrittenExactly`). Assumes nothing.
use Prim.Native.Nat.{ℕ, ◌≤◌}
use native.Mathlib.Omega.{arith}
use mathlib.Core.Bool.{Bool, true, false, true≢false}
use mathlib.Core.Path.{◌≡◌, refl, sym, ap, ◌∙◌}
use mathlib.Core.Logic.{◌↔◌}
use mathlib.Core.List.{List, [], ◌∷◌}
use lib.ListN.{length}
use lib.Dec.{ltb}
use Rattle.std.specs.Prelude.{Ok, Err}
use Rattle.basics.specs.Tested.{Tested}
use Rattle.basics.specs.Tested as Outcome
use Rattle.basics.specs.Choice.{pick}
use Rattle.basics.specs.Refusals.{Test, test, at0, first_refusal, unless_refused}
use Rattle.basics.proofs.Asked.{not_less}
use Rattle.basics.proofs.Refusals.{joined_refused, joined_passed}
use Rattle.logic.specs.Principals.{Relation, Decides}
use Rattle.record.specs.Verdict.{RecordVerdict}
use Rattle.record.specs.Verdict as Verdict
use Rattle.record.specs.Layout.{signers}
use Rattle.record.specs.Answer as Record
use Rattle.record.specs.Answer.{record_answer}
use Rattle.record.proofs.Granted.{granted_exactly}
use Rattle.sentences.specs.Verdict.{SentencesVerdict, Written, Refused}
use Rattle.sentences.specs.Answer.{record_text, text_short, tests, sentences_answer, after_record, AnswerAfterRecord}
use Rattle.sentences.specs.Promises.{WrittenExactly}
use Rattle.sentences.proofs.Text.{text_of_derivation}

-- ---- after the record's tests

module _ (speaks : ℕ → ℕ → Bool) (file : List ℕ) (room bytes : ℕ) where
  abbrev pub last : Test
  last = test 16 (text_short speaks file bytes)

  abbrev answered : Tested → SentencesVerdict
  answered t = unless_refused t (Written (length (signers file)) (length (record_text speaks file)))

  -- 16 alone
  by_last : (short : Bool) → answered (first_refusal (test 16 (at0 short) ∷ []))
      ≡ pick short (Refused 16 0) (Written (length (signers file)) (length (record_text speaks file)))
  unfolding first_refusal
  by_last true = refl
  by_last false = refl

  after_tests : (t : Tested) → first_refusal (Record.tests speaks file room) ≡ t
      → answered (first_refusal (tests speaks file room bytes))
      ≡ after_record speaks file bytes (unless_refused t (Verdict.Granted (length (signers file))))
  after_tests Outcome.Passed e = ap answered (joined_passed (Record.tests speaks file room) (last ∷ []) e)
      ∙ by_last (ltb bytes (length (record_text speaks file)))
  after_tests (Err r) e = ap answered (joined_refused (Record.tests speaks file room) (last ∷ []) e)

pub answer_after_record : (speaks : ℕ → ℕ → Bool) → AnswerAfterRecord speaks
unfolding sentences_answer record_answer
answer_after_record speaks file room bytes =
    after_tests speaks file room bytes (first_refusal (Record.tests speaks file room)) refl

-- ---- what is written

-- A refusal writes nothing.
pub not_written : {number p count written : ℕ} → Refused number p ≡ Written count written → ⊥
not_written e = let z : ◌≡◌ {A = ℕ} 0 1 = cc in omega arith

-- A record's refusal is no grant.
not_granted : {number p count : ℕ} → Verdict.Refused number p ≡ Verdict.Granted count → ⊥
not_granted e = let z : ◌≡◌ {A = ℕ} 0 1 = cc in omega arith

-- What was written, as two numbers.
abbrev counted : SentencesVerdict → ℕ × ℕ
counted (Ok w) = (w.signers, w.bytes)
counted (Err r) = (0, 0)

-- Written: the record is granted, and its text fits.
module _ (speaks : ℕ → ℕ → Bool) (file : List ℕ) (bytes count written : ℕ) where
  decided : (short : Bool) (n size : ℕ) → pick short (Refused 16 0) (Written n size) ≡ Written count written
      ↔ ((short ≡ false) × (n ≡ count) × (size ≡ written))
  decided true n size = (λ e. absurd (not_written e), λ (e, _, _). absurd (true≢false e))
  decided false n size = (
    λ e. (refl, ap (λ v. (counted v).0) e, ap (λ v. (counted v).1) e),
    λ (_, e, f). ap (λ k. Written k size) e ∙ ap (λ k. Written count k) f,
  )

  writes : (v : RecordVerdict) → after_record speaks file bytes v ≡ Written count written
      ↔ ((v ≡ Verdict.Granted count) × (length (record_text speaks file) ≤ bytes)
      × (written ≡ length (record_text speaks file)))
  writes (Verdict.Granted n) =
      let (to, from) = decided (ltb bytes (length (record_text speaks file))) n (length (record_text speaks file)) in
      let (fits, unfit) = not_less bytes (length (record_text speaks file)) in (
        λ e. let (low, same, size) = to e in (ap Verdict.Granted same, fits low, sym size),
        λ (e, low, size). from (unfit low, (let same : n ≡ count = cc in same), sym size),
      )
  writes (Err r) = (λ e. absurd (not_written e), λ (e, _, _). absurd (not_granted e))

-- So a text that is written fits.
pub text_fits :
    (speaks : ℕ → ℕ → Bool) (file : List ℕ) (room bytes count written : ℕ)
    → sentences_answer speaks file room bytes ≡ Written count written
    → (length (record_text speaks file) ≤ bytes) × (written ≡ length (record_text speaks file))
text_fits speaks file room bytes count written e =
    let (_, fits, size) = (writes speaks file bytes count written (record_answer speaks file room)).0
    (sym (answer_after_record speaks file room bytes) ∙ e) in (fits, size)

pub written_exactly : (speaks : ℕ → ℕ → Bool) (R : Relation) → Decides speaks R → WrittenExactly speaks R
written_exactly speaks R decides file room bytes count written =
    let (to, from) = writes speaks file bytes count written (record_answer speaks file room) in
    let after = answer_after_record speaks file room bytes in
    let (says, grants) = granted_exactly speaks R decides file room count in (
      λ e.
          let (granted, low, size) = to (sym after ∙ e) in
          let grant = says granted in
          let text = ap length (text_of_derivation speaks R decides file grant.keeps grant.is_proof) in
          record { grant = grant; fits = omega (arith, text); counted = size ∙ text },
      λ w.
          let grant = w.grant in
          let low = w.fits in
          let text = ap length (text_of_derivation speaks R decides file grant.keeps grant.is_proof) in
          after ∙ from (grants grant, omega (arith, text), w.counted ∙ sym text),
    )
