-- How large an answer is, and the answer for longer files (specs/Promises.antt, `AnswersSmall`, `LongerFile`). Assumes
-- nothing.
use Prim.Native.Nat.{ℕ, suc, ◌<◌}
use native.Mathlib.Omega.{arith}
use mathlib.Core.Bool.{Bool}
use mathlib.Core.Path.{◌≡◌, refl, sym, ap, subst, ◌∙◌}
use mathlib.Core.List.{List}
use lib.ListN.{length, take}
use lib.Dec.{ltb}
use Rattle.std.specs.Prelude.{Err}
use Rattle.basics.proofs.Asked.{not_less}
use Rattle.basics.proofs.Choice.{pick_cases}
use Rattle.file.proofs.LayoutLaws.{sized_most}
use Rattle.logic.proofs.Principals.{Decided, decided}
use Rattle.record.specs.Verdict.{RecordVerdict}
use Rattle.record.specs.Verdict as Verdict
use Rattle.record.specs.Layout.{record_layout, most_bytes}
use Rattle.record.specs.Answer.{record_answer}
use Rattle.record.specs.Promises as Record
use Rattle.record.proofs.Granted.{granted_exactly}
use Rattle.record.proofs.LayoutIs.{bounded, sized}
use Rattle.record.proofs.Small as RecordSmall
use Rattle.record.proofs.Longer as RecordLonger
use Rattle.sentences.specs.Answer.{record_text, after_record}
use Rattle.sentences.specs.Promises.{Small, AnswersSmall, LongerFile}
use Rattle.sentences.proofs.Answer.{answer_after_record}

small_after : (speaks : ℕ → ℕ → Bool) (file : List ℕ) (bytes : ℕ) (v : RecordVerdict) → Record.Small v
    → Small bytes (after_record speaks file bytes v)
small_after speaks file bytes (Verdict.Granted count) few =
    pick_cases (Small bytes) (ltb bytes (length (record_text speaks file)))
    (λ e. (omega arith, omega arith, omega arith))
    (λ e. (few, (not_less bytes (length (record_text speaks file))).0 e))
small_after speaks file bytes (Err r) (least, most, within) = (least, omega arith, within)

pub answers_small : (speaks : ℕ → ℕ → Bool) → AnswersSmall speaks
answers_small speaks file room bytes =
    subst (Small bytes) (sym (answer_after_record speaks file room bytes))
    (small_after speaks file bytes (record_answer speaks file room) (RecordSmall.answers_small speaks file room))

-- A file that is too long isn't granted, so what follows its record's answer is that of any other file.
not_granted : (speaks : ℕ → ℕ → Bool) (file other : List ℕ) (room bytes : ℕ) → most_bytes < length file
    → (v : RecordVerdict)
    → record_answer speaks file room ≡ v
    → after_record speaks file bytes v ≡ after_record speaks other bytes v
not_granted speaks file other room bytes long (Verdict.Granted count) e =
    let grant = (granted_exactly speaks (Decided speaks) (decided speaks) file room count).0 e in
    let most = sized_most record_layout bounded file ((sized file).1 grant.keeps.sized) in
    absurd (omega arith)
not_granted speaks file other room bytes long (Err r) e = refl

pub longer_file : (speaks : ℕ → ℕ → Bool) → LongerFile speaks
longer_file speaks file room bytes long =
    let front = take (suc most_bytes) file in
    answer_after_record speaks file room bytes
    ∙ not_granted speaks file front room bytes long (record_answer speaks file room) refl
    ∙ ap (after_record speaks front bytes) (RecordLonger.longer_file speaks file room long)
    ∙ sym (answer_after_record speaks front room bytes)
