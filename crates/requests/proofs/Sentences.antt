-- Job 2 (specs/Sentences.antt): a release's text is written, every other file is refused. Assumes nothing.
use Prim.Native.Nat.{ℕ, ◌≤◌}
use native.Mathlib.Omega.{arith}
use mathlib.Core.Bool.{Bool}
use mathlib.Core.Path.{◌≡◌, refl, sym, ap, ◌∙◌}
use mathlib.Core.List.{List, ◌++◌}
use lib.ListN.{length, drop}
use Rattle.std.specs.Prelude.{Err, Ok}
use Rattle.basics.specs.Order.{FirstReason}
use Rattle.logic.specs.Principals.{Relation, Decides}
use Rattle.record.specs.Layout.{signers}
use Rattle.record.specs.Promises.{GrantSays}
use Rattle.sentences.specs.Verdict.{SentencesVerdict, Written, Refused}
use Rattle.sentences.specs.Answer.{sentences_answer, signers_after, text_after}
use Rattle.sentences.specs.Promises.{proof_text, sentences_order, SentencesReason}
use Rattle.sentences.proofs.Text.{text_of_derivation}
use Rattle.sentences.proofs.Answer.{written_exactly}
use Rattle.sentences.proofs.Refused.{refused_exactly}
use Rattle.demands.specs.Release.{Release}
use Rattle.demands.proofs.Release.{has_signers, are_signers}
use Rattle.requests.specs.Sentences.{Call, ReleaseWritten, ElseRefused}

pub release_written : (speaks : ℕ → ℕ → Bool) (R : Relation) → Decides speaks R → ReleaseWritten speaks R
release_written speaks R decides file list list' text text' answer call r fits =
    let names = are_signers speaks R decides r.keeps r.is_proof r.signers in
    let count = ap length names in
    let room = r.fits in
    let size : ℕ = length (proof_text r.is_proof) in
    let grant : GrantSays R file (length list) (length r.names) = record
    { keeps = r.keeps; is_proof = r.is_proof; fits = omega arith; counted = count } in
    let is = call.answered
    ∙ (written_exactly speaks R decides file (length list) (length text) (length r.names) size).1
    (record { grant = grant; fits = fits; counted = refl }) in
    let same = text_of_derivation speaks R decides file r.keeps r.is_proof in (
      is,
      call.list_after ∙ ap (λ (v : SentencesVerdict). signers_after file v list) is
          ∙ ap (λ (l : List ℕ). l ++ drop (length r.names) list) (sym names),
      call.text_after ∙ ap (λ (v : SentencesVerdict). text_after speaks file v text) is
          ∙ ap (λ (t : List ℕ). t ++ drop size text) same,
    )

-- A text that is written is a release's, and fits.
written_release :
    (speaks : ℕ → ℕ → Bool) (R : Relation) → Decides speaks R → (file : List ℕ) (room bytes count written : ℕ)
    → sentences_answer speaks file room bytes
    ≡ Written count written
    → (r : Release R file room) × (length (proof_text r.is_proof) ≤ bytes)
written_release speaks R decides file room bytes count written e =
    let w = (written_exactly speaks R decides file room bytes count written).0 e in
    let g = w.grant in (
      record {
        keeps = g.keeps;
        is_proof = g.is_proof;
        names = signers file;
        signers = has_signers speaks R decides g.keeps g.is_proof;
        fits = g.fits;
      },
      w.fits,
    )

-- What is refused stays as it was.
module _ (speaks : ℕ → ℕ → Bool) (R : Relation) (decides : Decides speaks R)
    (file list list' text text' : List ℕ) (answer : SentencesVerdict)
    (call : Call speaks file list list' text text' answer) where
  refused_as : (number p : ℕ) → sentences_answer speaks file (length list) (length text) ≡ Refused number p
      → (answer ≡ Refused number p) × (list' ≡ list) × (text' ≡ text)
  refused_as number p e =
      let is = call.answered ∙ e in (
        is,
        call.list_after ∙ ap (λ (v : SentencesVerdict). signers_after file v list) is,
        call.text_after ∙ ap (λ (v : SentencesVerdict). text_after speaks file v text) is,
      )

  else :
      ¬ ((r : Release R file (length list)) × (length (proof_text r.is_proof) ≤ length text))
      → (v : SentencesVerdict) → sentences_answer speaks file (length list) (length text) ≡ v
      → (number : ℕ) × (place : ℕ)
      × FirstReason sentences_order (SentencesReason speaks R file (length list) (length text)) number place
      × (answer ≡ Refused number place)
      × (list' ≡ list)
      × (text' ≡ text)
  else none (Ok w) e =
      absurd (none (written_release speaks R decides file (length list) (length text) w.signers w.bytes e))
  else none (Err r) e =
      let (is, same, also) = refused_as r.number r.place e in
      (r.number, r.place, (refused_exactly speaks R decides file (length list) (length text) r.number r.place).0 e, is, same, also)

pub else_refused : (speaks : ℕ → ℕ → Bool) (R : Relation) → Decides speaks R → ElseRefused speaks R
else_refused speaks R decides file list list' text text' answer call none =
    else speaks R decides file list list' text text' answer call none
    (sentences_answer speaks file (length list) (length text)) refl
