-- The whole text or line is written (specs/Printed.antt). Assumes nothing.
use Prim.Native.Nat.{ℕ, ◌≤◌}
use native.Mathlib.Omega.{arith}
use mathlib.Core.Bool.{Bool}
use mathlib.Core.Path.{◌≡◌, refl, subst}
use mathlib.Core.List.{List}
use lib.ListN.{length}
use Rattle.std.specs.Prelude.{Err, Ok}
use Rattle.basics.specs.Limits.{most_statements}
use Rattle.line.specs.RecordLine.{most_line}
use Rattle.line.proofs.LineFits.{refused_fits}
use Rattle.line.proofs.Printed.{fits_whole}
use Rattle.sentences.specs.Verdict.{SentencesVerdict, Written, Refused}
use Rattle.sentences.specs.Answer.{sentences_answer}
use Rattle.sentences.specs.Promises.{Small}
use Rattle.sentences.specs.Printed.{printed_for, printed_text, WholeText}
use Rattle.sentences.proofs.Answer.{text_fits}
use Rattle.sentences.proofs.Small.{answers_small}

-- A text that is written fits the bytes that are lent, and a refusal's line fits where there is room for any line.
fits : (speaks : ℕ → ℕ → Bool) (file : List ℕ) (bytes : ℕ) → most_line ≤ bytes → (v : SentencesVerdict)
    → sentences_answer speaks file most_statements bytes ≡ v
    → length (printed_for speaks file v) ≤ bytes
fits speaks file bytes room (Ok w) e = (text_fits speaks file most_statements bytes w.signers w.bytes e).0
fits speaks file bytes room (Err r) e =
    let (least, most, within) = subst (Small bytes) e (answers_small speaks file most_statements bytes) in
    omega (arith, refused_fits r.number r.place (omega arith) within)

pub whole_text : (speaks : ℕ → ℕ → Bool) → WholeText speaks
whole_text speaks file before count after counted is room =
    fits_whole before (printed_text speaks file (length before))
    (fits speaks file (length before) room (sentences_answer speaks file most_statements (length before)) refl) counted is
