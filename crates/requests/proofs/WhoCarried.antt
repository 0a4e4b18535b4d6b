-- Job 3 (specs/WhoCarried.antt). Assumes nothing.
use Prim.Native.Nat.{ℕ, ◌<◌}
use native.Mathlib.Omega.{arith}
use mathlib.Core.Bool.{Bool, true, false}
use mathlib.Core.Path.{◌≡◌, refl, sym, subst, ◌∙◌}
use mathlib.Core.Logic.{◌↔◌}
use mathlib.Core.List.{List}
use lib.ListN.{length}
use lib.Dec.{ltb}
use Rattle.std.specs.Prelude.{Err}
use Rattle.basics.specs.Choice.{pick}
use Rattle.basics.proofs.Refusals.{same_refusal}
use Rattle.logic.specs.Principals.{Relation, Decides}
use Rattle.record.specs.Verdict.{RecordVerdict, Granted, Refused}
use Rattle.record.specs.Layout.{signers}
use Rattle.record.specs.Answer.{record_answer}
use Rattle.record.proofs.Answered.{not_granted}
use Rattle.record.proofs.Eight.{eight_exactly}
use Rattle.sentences.specs.Verdict as Sentences
use Rattle.sentences.specs.Answer.{record_text, after_record}
use Rattle.sentences.proofs.Answer.{not_written, answer_after_record}
use Rattle.demands.proofs.Release.{has_signers, are_signers}
use Rattle.requests.specs.WhoCarried.{EightCounts, EightOfSentences, EightStands}

pub eight_counts : (speaks : ℕ → ℕ → Bool) (R : Relation) → Decides speaks R → EightCounts speaks R
eight_counts speaks R decides file before answer is p =
    let (to, from) = eight_exactly speaks R decides file (length before) p in (
      λ e.
          let (z, keeps, proof, short) = to (sym is ∙ e) in (
            z,
            record {
              keeps = keeps;
              is_proof = proof;
              names = signers file;
              signers = has_signers speaks R decides keeps proof;
              short = short;
            },
          ),
      λ (z, s).
          let same = are_signers speaks R decides s.keeps s.is_proof s.signers in
          is ∙ from
          (z, s.keeps, s.is_proof, subst (λ (l : List ℕ). length before < length l) same s.short),
    )

-- What follows a record's answer is 8 exactly where that is: a grant leads to 16 or to the text.
after_record_lem : (speaks : ℕ → ℕ → Bool) (file : List ℕ) (bytes p : ℕ) (v : RecordVerdict)
    → after_record speaks file bytes v ≡ Sentences.Refused 8 p ↔ v ≡ Refused 8 p
after_record_lem speaks file bytes p (Err r) = (λ e. cc, λ e. cc)
after_record_lem speaks file bytes p (Granted count) = (
  λ e. absurd (by (ltb bytes (length (record_text speaks file))) e),
  λ e. absurd (not_granted (sym e)),
)
  where
    by : (short : Bool)
        → ¬ (pick short (Sentences.Refused 16 0) (Sentences.Written count (length (record_text speaks file)))
        ≡ Sentences.Refused 8 p)
    by true e = let (same, _) = same_refusal e in omega arith
    by false e = not_written (sym e)

pub eight_of_sentences : (speaks : ℕ → ℕ → Bool) (R : Relation) → Decides speaks R → EightOfSentences speaks R
eight_of_sentences speaks R decides file list text answer is p =
    let (to, from) = after_record_lem speaks file (length text) p (record_answer speaks file (length list)) in
    let (too_short, eight) = eight_counts speaks R decides file list (record_answer speaks file (length list)) refl p in
    let after = answer_after_record speaks file (length list) (length text) in
    (λ e. too_short (to (sym after ∙ sym is ∙ e)), λ s. is ∙ after ∙ from (eight s))

pub eight_stands : EightStands
eight_stands = refl
