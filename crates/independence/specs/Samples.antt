-- Samples of the test, on propositions and as whole files, and of what is taken out and exchanged. Proved in
-- proofs/Samples.antt, those of answers by computation. Assumes nothing.
use Rattle.std.specs.Prelude.{ℕ, Bool, true, false, ◌≡◌, List, [], ◌∷◌, map, leb}
use Rattle.file.specs.Words.{file_of}
use Rattle.logic.specs.Proposition.{Proposition, atom, false as falsum, ◌implies◌, ◌and◌, ◌or◌, ◌says◌}
use Rattle.logic.specs.Principals.{Relation}
use Rattle.logic.specs.Force.{HasProof}
use Rattle.logic.specs.Sides.{seven}
use Rattle.logic.specs.Figure1 as Figure1
use Rattle.steps.specs.Figure1.{same}
use Rattle.record.specs.Samples.{over_t, bytes_of_a}
use Rattle.record.specs.Proof.{stated_by, goal_of}
use Rattle.independence.specs.Verdict.{IndependenceVerdict, Independent, NotIndependent, Refused}
use Rattle.independence.specs.Test.{is_independent}
use Rattle.independence.specs.SameProofs.{HasOthers}
use Rattle.independence.specs.Promises.{SameButFor}
use Rattle.independence.specs.Figure1.{independence_answer}

-- ---- sides

-- What principal 8 says; what 7 says is `seven`.
abbrev pub eight : Proposition
eight = 8 says atom 0

-- A row: a goal and the statements, and whether the goal is independent of 7.
pub record Row : Type 0 where
  pub goal : Proposition
  pub statements : List Proposition
  pub independent : Bool

abbrev pub row : Proposition → List Proposition → Bool → Row
row goal statements independent = record { goal = goal; statements = statements; independent = independent }

-- What 7 says as the goal, and what 8 says. Then 7's in a goal, on either side of each kind: the left of an implies
-- takes the other side, and the left of that gives the first one back; inside what 8 says the side is kept, and what 7
-- says counts itself.
abbrev pub goal_rows : List Row
goal_rows =
    row seven [] false
    ∷ row eight [] true
    ∷ row (seven implies atom 1) [] true
    ∷ row (atom 1 implies seven) [] false
    ∷ row ((seven implies atom 1) implies atom 2) [] false
    ∷ row ((atom 1 implies seven) implies atom 2) [] true
    ∷ row (seven and atom 1) [] false
    ∷ row (atom 1 and seven) [] false
    ∷ row ((seven implies atom 1) and (seven implies atom 1)) [] true
    ∷ row (seven or falsum) [] false
    ∷ row (falsum or seven) [] false
    ∷ row ((seven implies atom 1) or (seven implies atom 1)) [] true
    ∷ row (8 says seven) [] false
    ∷ row (8 says (seven implies atom 1)) [] true
    ∷ row (7 says (seven implies atom 1)) [] false
    ∷ []

-- The same in a statement, which stands on the given side. 7's own paper is left out with all inside it; a paper of 8
-- is not. What stands on both sides counts, and so does what stands in the last of three statements.
abbrev pub statement_rows : List Row
statement_rows =
    row (atom 2) (seven ∷ []) true
    ∷ row (atom 2) (seven implies atom 1 ∷ []) false
    ∷ row (atom 2) (atom 1 implies seven ∷ []) true
    ∷ row (atom 2) ((seven implies atom 1) implies atom 2 ∷ []) true
    ∷ row (atom 2) ((atom 1 implies seven) implies atom 2 ∷ []) false
    ∷ row (atom 2) (seven and seven ∷ []) true
    ∷ row (atom 2) ((seven implies atom 1) and atom 1 ∷ []) false
    ∷ row (atom 2) (atom 1 and (seven implies atom 1) ∷ []) false
    ∷ row (atom 2) (seven or seven ∷ []) true
    ∷ row (atom 2) ((seven implies atom 1) or atom 1 ∷ []) false
    ∷ row (atom 2) (atom 1 or (seven implies atom 1) ∷ []) false
    ∷ row (atom 2) (8 says seven ∷ []) true
    ∷ row (atom 2) (8 says (seven implies atom 1) ∷ []) false
    ∷ row (atom 2) (7 says (seven implies atom 1) ∷ []) true
    ∷ row (atom 2) (seven and (seven implies atom 1) ∷ []) false
    ∷ row (atom 2) (eight implies atom 1 ∷ []) true
    ∷ row (atom 2) (7 says (seven implies atom 1) ∷ atom 1 ∷ seven implies atom 2 ∷ []) false
    ∷ []

-- Each row has its answer, where `speaks` compares principals.
abbrev pub AnsweredBy : (ℕ → ℕ → Bool) → List Row → Type 0
AnsweredBy speaks rows =
    map (λ r. is_independent speaks 7 r.statements r.goal) rows ≡ map (λ r. r.independent) rows

abbrev pub InGoals : Type 0
InGoals = AnsweredBy same goal_rows

abbrev pub InStatements : Type 0
InStatements = AnsweredBy same statement_rows

-- Where each principal speaks for himself and for those with a higher number (02, job 14), 7 for 8 and not for 6: what
-- 8 says counts as what 7 says does, and what 6 says doesn't. A paper of 8 is not left out.
abbrev pub WithDeputies : Type 0
WithDeputies = AnsweredBy leb
    (row seven [] false
    ∷ row eight [] false
    ∷ row (6 says atom 0) [] true
    ∷ row (atom 2) (eight ∷ []) true
    ∷ row (atom 2) (8 says (seven implies atom 1) ∷ []) false
    ∷ row (atom 2) (7 says (eight implies atom 1) ∷ []) true
    ∷ [])

-- ---- whole files

-- The answer for a record of these words, where principal K is asked about.
abbrev pub answer_to : List ℕ → ℕ → IndependenceVerdict
answer_to words K = independence_answer (file_of words) K

-- Record A of 01, whose goal is what 7 says: of 7, of 8, and of the last principal; one past him is 17.
abbrev pub OfA : Type 0
OfA =
    map (independence_answer bytes_of_a) (7 ∷ 8 ∷ 4095 ∷ 4096 ∷ 65535 ∷ [])
    ≡ NotIndependent ∷ Independent ∷ Independent ∷ Refused 17 0 ∷ Refused 17 0 ∷ []

-- "The test reads a record but not its steps": over table T, with steps of no rule the answer is the same; with none it
-- is 2.
abbrev pub AnySteps : Type 0
AnySteps =
    map (λ steps. answer_to (over_t (1 ∷ []) 1 steps) 8) ((65535 ∷ 65535 ∷ []) ∷ [] ∷ [])
    ≡ Independent ∷ Refused 2 0 ∷ []

-- "17, after 7": with principal 65,535 no byte at all is 1, no formula 2, a word too many 3, a wrong entry 4, a
-- repeated one 5, a goal of F or more 6, and a statement of F or more 7.
abbrev pub Order : Type 0
Order =
    map (λ words. answer_to words 65535)
    ([]
    ∷ (0 ∷ 0 ∷ 1 ∷ 0 ∷ [])
    ∷ (1 ∷ 0 ∷ 1 ∷ 0 ∷ 0 ∷ 0 ∷ 0 ∷ 0 ∷ [])
    ∷ (1 ∷ 0 ∷ 1 ∷ 0 ∷ 20487 ∷ 0 ∷ 0 ∷ [])
    ∷ (2 ∷ 0 ∷ 1 ∷ 0 ∷ 0 ∷ 0 ∷ 0 ∷ 0 ∷ 0 ∷ [])
    ∷ over_t (3 ∷ []) 3 (0 ∷ [])
    ∷ over_t (0 ∷ 3 ∷ []) 0 (0 ∷ [])
    ∷ [])
    ≡ Refused 1 0 ∷ Refused 2 0 ∷ Refused 3 0 ∷ Refused 4 0 ∷ Refused 5 1 ∷ Refused 6 0 ∷ Refused 7 1 ∷ []

-- ---- what is taken out and exchanged

-- Beside an order 7's paper is taken out, or exchanged for another of his. The order is not, nor is a paper of 8.
pub record OthersAre : Type 0 where
  pub taken_out : HasOthers 7 (seven ∷ atom 2 ∷ []) (atom 2 ∷ [])
  pub exchanged : HasOthers 7 (seven ∷ atom 2 ∷ []) (7 says atom 1 ∷ atom 2 ∷ [])
  pub order_stays : ¬ HasOthers 7 (seven ∷ atom 2 ∷ []) (seven ∷ [])
  pub other_paper_stays : ¬ HasOthers 7 (eight ∷ []) []

-- Over table T, atom 0 from atom 0 and the paper of 7: it is independent of 7, and the record without that paper is the
-- same but for 7's statements; and the other way round.
abbrev pub with_paper : List ℕ
with_paper = file_of (over_t (1 ∷ 0 ∷ []) 0 (0 ∷ []))

abbrev pub without_paper : List ℕ
without_paper = file_of (over_t (0 ∷ []) 0 (0 ∷ []))

abbrev pub WithoutPaper : Type 0
WithoutPaper =
    (independence_answer with_paper 7 ≡ Independent)
    × SameButFor 7 with_paper without_paper
    × SameButFor 7 without_paper with_paper

-- ---- what not independent does not say

-- It says that K's papers may matter, not that they do. Record A is not independent of 7: its goal has a proof with his
-- paper, and without it none.
abbrev pub Matters : Type 0
Matters =
    (independence_answer bytes_of_a 7 ≡ NotIndependent)
    × Figure1.HasProof (stated_by bytes_of_a) (goal_of bytes_of_a)
    × (¬ Figure1.HasProof [] (goal_of bytes_of_a))

-- Record B is not independent of 7 either, and its goal has a proof whatever papers of his there are, none too.
abbrev pub bytes_of_b : List ℕ
bytes_of_b = file_of (over_t (0 ∷ []) 1 (40960 ∷ 4096 ∷ 0 ∷ []))

abbrev pub NeedNotMatter : Relation → Type 0
NeedNotMatter R =
    (independence_answer bytes_of_b 7 ≡ NotIndependent)
    × ((Δ : List Proposition) → HasOthers 7 (stated_by bytes_of_b) Δ → HasProof R Δ (goal_of bytes_of_b))
