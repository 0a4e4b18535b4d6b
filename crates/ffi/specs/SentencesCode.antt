-- The answer of a call that writes sentences, for callers in C and Rust: as one number the count of signers, or a
-- refusal as `refusal_code` has it; and the count of bytes in words that are lent for it. Proved in
-- proofs/SentencesTells.antt. Assumes nothing.
use Rattle.std.specs.Prelude.{ℕ, ◌≤◌, ◌/◌, ◌%◌, ◌≡◌, List, [], ◌∷◌, set, Err, Ok}
use Rattle.basics.specs.Limits.{most_steps}
use Rattle.sentences.specs.Verdict.{SentencesVerdict, Written, Refused}
use Rattle.sentences.specs.Promises.{Small}
use Rattle.ffi.specs.RefusalCode.{half, refusal_code, RefusalHalves}

unfoldable pub sentences_code : SentencesVerdict → ℕ
sentences_code (Ok counts) = counts.signers
sentences_code (Err refusal) = refusal_code refusal.number refusal.place

-- What is in the words lent for the count of bytes: it stands in the first, where there is one. "A refusal .. changes
-- nothing that is lent." (01)
abbrev pub count_after : SentencesVerdict → List ℕ → List ℕ
count_after (Ok counts) before = set before 0 counts.bytes
count_after (Err refusal) before = before

-- what `sentences_code` asks of its caller
abbrev pub PlaceWithin : SentencesVerdict → Type 0
PlaceWithin (Ok counts) = Unit
PlaceWithin (Err refusal) = refusal.place ≤ most_steps

-- What the two halves of the number are: 0 and the count of signers, the number and the place of a refusal.
abbrev pub SentencesHalves : SentencesVerdict → ℕ → ℕ → Type 0
SentencesHalves (Ok counts) high low = (high ≡ 0) × (low ≡ counts.signers)
SentencesHalves (Err refusal) high low = RefusalHalves refusal.number refusal.place high low

abbrev pub SentencesCodeHalves : Type 0
SentencesCodeHalves =
    (room : ℕ) (v : SentencesVerdict) → Small room v
    → SentencesHalves v (sentences_code v / half) (sentences_code v % half)

-- Record A's answer, one signer and 117 bytes: 1, and 117 in the first of two words.
abbrev pub CodeOfA : Type 0
CodeOfA = (sentences_code (Written 1 117) ≡ 1) × (count_after (Written 1 117) (0 ∷ 9 ∷ []) ≡ 117 ∷ 9 ∷ [])

-- Two answers within their bounds that have the same number and leave the same in a word lent for the count of bytes
-- are the same answer.
abbrev pub SentencesCodeTells : Type 0
SentencesCodeTells =
    (room : ℕ) (v w : SentencesVerdict) → Small room v → Small room w
    → sentences_code v ≡ sentences_code w → count_after v (0 ∷ []) ≡ count_after w (0 ∷ []) → v ≡ w
