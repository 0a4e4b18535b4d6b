-- The answer that 01 alone gave, before 02's job 3, and what became of it. "Records in the archive keep their granted
-- or refused, save that a short list may now suffice." (02, job 3) It is about Figure 1 alone: no record was ever
-- answered with another test on principals. Proved in proofs/Former.antt. Assumes nothing.
use Rattle.std.specs.Prelude.{ℕ, ◌≤◌, ◌<◌, ◌≡◌, ◌↔◌, List, [], ◌∷◌, ◌++◌, map, length, ltb}
use Rattle.basics.specs.Membership.{◌∈◌, ◌⊆◌}
use Rattle.basics.specs.Refusals.{Test, test, at0, first_refusal, unless_refused}
use Rattle.file.specs.Words.{file_of}
use Rattle.steps.specs.Run.{walked}
use Rattle.signers.specs.Signers.{principals}
use Rattle.signers.specs.Each.{SaysSome}
use Rattle.record.specs.Verdict.{RecordVerdict, Granted, Refused}
use Rattle.record.specs.Layout.{statements, table, signers}
use Rattle.record.specs.Answer.{tests_to7}
use Rattle.record.specs.Proof.{Keeps}
use Rattle.record.specs.Figure1.{step_verdict, record_answer}
use Rattle.record.specs.Samples.{over_t}

-- "The signers of a record are the principals K of its statements of the form K says A, each once" (01): unused papers
-- made signers too.
abbrev pub former_signers : List ℕ → List ℕ
former_signers file = principals (table file) (statements file)

-- Over propositions: each K of whom a statement spells K says A, for some A.
abbrev pub FormerSignersSpelled : Type 0
FormerSignersSpelled =
    (file : List ℕ) → Keeps file → (K : ℕ) → K ∈ former_signers file ↔ SaysSome (table file) (statements file) K

-- 8 stood between 7 and 9.
abbrev pub former_tests : List ℕ → ℕ → List Test
former_tests file room =
    tests_to7 file ++ (test 8 (at0 (ltb room (length (former_signers file)))) ∷ walked (step_verdict file) ∷ [])

unfoldable pub former_answer : List ℕ → ℕ → RecordVerdict
former_answer file room =
    unless_refused (first_refusal (former_tests file room)) (Granted (length (former_signers file)))

-- So exactly a file that keeps the layout was refused by 8 for a short list, whatever its steps are.
abbrev pub FormerEight : Type 0
FormerEight =
    (file : List ℕ) (room p : ℕ)
    → former_answer file room ≡ Refused 8 p ↔ ((p ≡ 0) × Keeps file × (room < length (former_signers file)))

-- What became of the answer for a file and a list of so many words.
pub record Archived (file : List ℕ) (room : ℕ) : Type 0 where
  -- granted before is granted now, with no larger count,
  pub granted :
      (before : ℕ) → former_answer file room ≡ Granted before
      → (count : ℕ) × (record_answer file room ≡ Granted count) × (count ≤ before)
  -- and each of its signers was one before;
  pub were_signers : signers file ⊆ former_signers file
  -- refused now was refused before;
  pub refused :
      (number p : ℕ) → record_answer file room ≡ Refused number p
      → (former : ℕ) × (q : ℕ) × (former_answer file room ≡ Refused former q)
  -- granted now and refused before was refused by 8;
  pub short_list :
      (count number p : ℕ) → record_answer file room ≡ Granted count → former_answer file room ≡ Refused number p
      → (number ≡ 8) × (p ≡ 0)
  -- refusals by 1 to 7 agree in number and place;
  pub same_to_seven :
      (number p : ℕ) → number ≤ 7 → record_answer file room ≡ Refused number p ↔ former_answer file room ≡ Refused number p
  -- and with room for the principals of all papers all refusals do.
  pub same_refusals :
      length (former_signers file) ≤ room
      → (number p : ℕ) → record_answer file room ≡ Refused number p ↔ former_answer file room ≡ Refused number p

abbrev pub ArchiveKept : Type 0
ArchiveKept = (file : List ℕ) (room : ℕ) → Archived file room

-- Over table T, with papers of 7 and 8, 7's twice, an order, and A's goal. A's steps open the paper of 7 alone: room for
-- both, for one, and for none. A wrong step: room for both, and for one, where 8 stood before it. And a statement
-- without an entry.
abbrev pub FormerSamples : Type 0
FormerSamples =
    let a : List ℕ = file_of (over_t (1 ∷ 2 ∷ 1 ∷ 0 ∷ []) 1 (40960 ∷ 45057 ∷ 4096 ∷ 0 ∷ [])) in
    let wrong : List ℕ = file_of (over_t (1 ∷ 2 ∷ 1 ∷ 0 ∷ []) 1 (40960 ∷ 45058 ∷ [])) in
    let outside : List ℕ = file_of (over_t (1 ∷ 3 ∷ []) 1 (40960 ∷ 45058 ∷ [])) in
    (map (former_answer a) (2 ∷ 1 ∷ 0 ∷ []) ≡ Granted 2 ∷ Refused 8 0 ∷ Refused 8 0 ∷ [])
    × (map (record_answer a) (2 ∷ 1 ∷ 0 ∷ []) ≡ Granted 1 ∷ Granted 1 ∷ Refused 8 0 ∷ [])
    × (map (former_answer wrong) (2 ∷ 1 ∷ []) ≡ Refused 14 1 ∷ Refused 8 0 ∷ [])
    × (map (record_answer wrong) (2 ∷ 1 ∷ []) ≡ Refused 14 1 ∷ Refused 14 1 ∷ [])
    × (former_answer outside 0 ≡ Refused 7 1)
