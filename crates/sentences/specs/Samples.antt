-- Samples of texts. Proved in proofs/Samples.antt, by computation. Assumes nothing.
use Rattle.std.specs.Prelude.{ℕ, ◌≡◌, List, [], ◌∷◌, map, replicate}
use Prim.Native.String.{String, ◌++◌ as ◌then◌}
use Rattle.text.specs.Ascii.{ascii}
use Rattle.file.specs.Words.{file_of}
use Rattle.record.specs.Samples.{over_t, bytes_of_a}
use Rattle.sentences.specs.Verdict.{SentencesVerdict, Written, Refused}
use Rattle.sentences.specs.Answer.{signers_after}
use Rattle.sentences.specs.Figure1.{record_text, sentences_answer, text_after}

-- "Record A gives `0 says right for (p7 says a0)`, `1 says left (p7 says a0) for p7 affirms a0`, `2 affirm for p7
-- affirms a0`, `3 init a0 for a0`, each ended by a line feed." (02)
abbrev pub text_of_a : String
text_of_a =
    "0 says right for (p7 says a0)\n"
    then "1 says left (p7 says a0) for p7 affirms a0\n"
    then "2 affirm for p7 affirms a0\n"
    then "3 init a0 for a0\n"

abbrev pub TextOfA : Type 0
TextOfA = record_text bytes_of_a ≡ ascii text_of_a

-- "whichever numbers the tables use": A's proof over the table atom 5, atom 0, 7 says entry 1, which has A's text
abbrev pub OtherNumbers : Type 0
OtherNumbers =
    record_text (file_of (3 ∷ 1 ∷ 4 ∷ 2 ∷ 5 ∷ 0 ∷ 20487 ∷ 0 ∷ 0 ∷ 1 ∷ 2 ∷ 40960 ∷ 45058 ∷ 4096 ∷ 1 ∷ []))
    ≡ ascii text_of_a

-- Every rule, under its name; the atoms are such that no two operands, no two premises and no two names can change
-- places. Statement: (p7 says (a1 implies a4)).
abbrev pub every_rule : List ℕ
every_rule =
    file_of
    (15 ∷ 1 ∷ 14 ∷ 14
    ∷ 0 ∷ 1 ∷ 2 ∷ 3 ∷ 4 ∷ 4096 ∷ 16385 ∷ 12288 ∷ 16384 ∷ 16387 ∷ 20487 ∷ 12296 ∷ 8193 ∷ 20487 ∷ 8199
    ∷ 0 ∷ 0 ∷ 0 ∷ 0 ∷ 0 ∷ 0 ∷ 5 ∷ 6 ∷ 2 ∷ 1 ∷ 9 ∷ 10 ∷ 4 ∷ 12 ∷ 11
    ∷ 13
    ∷ 8192 ∷ 24583 ∷ 20480 ∷ 28672 ∷ 0 ∷ 40960 ∷ 45069 ∷ 4096 ∷ 36870 ∷ 12300 ∷ 1 ∷ 32768 ∷ 1 ∷ 16389 ∷ [])

abbrev pub text_of_every_rule : String
text_of_every_rule =
    "0 implies right for ((a0 and (a1 or false)) implies ((a0 or a2) and (p7 says (a3 or a1))))\n"
    then "1 and left (a0 and (a1 or false)) for ((a0 or a2) and (p7 says (a3 or a1)))\n"
    then "2 and right for ((a0 or a2) and (p7 says (a3 or a1)))\n"
    then "3 or right first for (a0 or a2)\n"
    then "4 init a0 for a0\n"
    then "5 says right for (p7 says (a3 or a1))\n"
    then "6 says left (p7 says (a1 implies a4)) for p7 affirms (a3 or a1)\n"
    then "7 affirm for p7 affirms (a3 or a1)\n"
    then "8 or left (a1 or false) for (a3 or a1)\n"
    then "9 implies left (a1 implies a4) for (a3 or a1)\n"
    then "10 init a1 for a1\n"
    then "11 or right second for (a3 or a1)\n"
    then "12 init a1 for a1\n"
    then "13 false left false for (a3 or a1)\n"

abbrev pub TextOfEveryRule : Type 0
TextOfEveryRule = record_text every_rule ≡ ascii text_of_every_rule

-- 16 comes last: A with room for all of its 117 bytes and for one less; with no room for the signer either, 8; and D
-- with no room at all, 14, and A with a step too many, 15.
abbrev pub Answers : Type 0
Answers =
    (map (sentences_answer bytes_of_a 256) (117 ∷ 116 ∷ 0 ∷ []) ≡ Written 1 117 ∷ Refused 16 0 ∷ Refused 16 0 ∷ [])
    × (map (λ bytes. sentences_answer bytes_of_a 0 bytes) (117 ∷ 116 ∷ []) ≡ Refused 8 0 ∷ Refused 8 0 ∷ [])
    × (sentences_answer (file_of (over_t (2 ∷ []) 1 (40960 ∷ 45058 ∷ []))) 0 0 ≡ Refused 14 1)
    × (sentences_answer (file_of (over_t (1 ∷ []) 1 (40960 ∷ 45057 ∷ 4096 ∷ 0 ∷ 0 ∷ []))) 0 0 ≡ Refused 15 4)

-- A's signer and text stand at the start of what is lent, and what follows stays; after a refusal all stays.
abbrev pub LentAfter : Type 0
LentAfter =
    (signers_after bytes_of_a (Written 1 117) (9 ∷ 8 ∷ []) ≡ 7 ∷ 8 ∷ [])
    × (text_after bytes_of_a (Written 1 117) (replicate 119 46) ≡ ascii (text_of_a then ".."))
    × (signers_after bytes_of_a (Refused 16 0) (9 ∷ 8 ∷ []) ≡ 9 ∷ 8 ∷ [])
    × (text_after bytes_of_a (Refused 16 0) (46 ∷ 46 ∷ []) ≡ 46 ∷ 46 ∷ [])
