-- Records that are refused because there is nothing to be found: one table of the samples whose goal has no proof from
-- their statements, each with a model in which all statements are true and the goal is false. For Figure 1. Proved in
-- proofs/NoSteps.antt, by computation and by `NoProof` (logic/specs/Figure1.antt). Assumes nothing.
use Rattle.std.specs.Prelude.{ℕ, ◌≡◌, List, [], ◌∷◌, map}
use Prim.Native.String.{String}
use Rattle.std.proofs.Math.Bool as Bool
use Rattle.basics.specs.Membership.{◌∈◌, ◌⊆◌}
use Rattle.text.specs.Ascii.{ascii}
use Rattle.file.specs.Words.{file_of}
use Rattle.logic.specs.Proposition.{Proposition, atom, false, ◌implies◌, ◌and◌, ◌or◌, ◌says◌}
use Rattle.logic.specs.Figure1.{HasProof}
use Rattle.logic.specs.Countermodels.{Supposition, suppose, refutes}
use Rattle.record.specs.Verdict.{Granted}
use Rattle.record.specs.Proof.{stated_by, goal_of}
use Rattle.record.specs.Figure1.{record_answer}
use Rattle.demands.specs.Samples.{line_of, a_record}

-- a sample's name, its line and its words, and what its statements and its goal spell
pub record Row : Type 0 where
  pub name : String
  pub line : String
  pub words : List ℕ
  pub statements : List Proposition
  pub goal : Proposition

abbrev pub row : String → String → List ℕ → List Proposition → Proposition → Row
row name line words statements goal =
    record { name = name; line = line; words = words; statements = statements; goal = goal }

-- and the model that refutes it
pub record Refuted : Type 0 where
  pub row : Row
  pub model : Supposition

abbrev pub ◌by◌ : Row → Supposition → Refuted
◌by◌ r m = record { row = r; model = m }

infix 75 ◌by◌
-- Grouped and numbered as in docs/CLASSES.md.
abbrev pub refuted : List Refuted
refuted =
    -- 1. What is said is true: the lab's paper alone, beside an order that asks for a0, and as an implies from nothing.
    row "lab-says-sound-init.record" "refused 13 place 0\n"
    (5 ∷ 1 ∷ 1 ∷ 0 ∷ 0 ∷ 1 ∷ 20487 ∷ 8192 ∷ 8194 ∷ 0 ∷ 0 ∷ 0 ∷ 1 ∷ 1 ∷ 2 ∷ 2 ∷ [])
    (7 says atom 0 ∷ []) (atom 0)
    by suppose [] (7 ∷ [])
    ∷ row "lab-says-sound.record" "refused 12 place 1\n"
    (5 ∷ 2 ∷ 3 ∷ 1 ∷ 0 ∷ 1 ∷ 20487 ∷ 8192 ∷ 8194 ∷ 0 ∷ 0 ∷ 0 ∷ 1 ∷ 1 ∷ 2 ∷ 3 ∷ 12291 ∷ 0 ∷ 1 ∷ [])
    (7 says atom 0 ∷ (atom 0 implies atom 1) ∷ []) (atom 1)
    by suppose [] (7 ∷ [])
    ∷ row "said-is-not-true.record" "refused 14 place 1\n"
    (3 ∷ 0 ∷ 3 ∷ 2 ∷ 0 ∷ 20487 ∷ 8193 ∷ 0 ∷ 0 ∷ 0 ∷ 8192 ∷ 45057 ∷ 0 ∷ [])
    [] (7 says atom 0 implies atom 0)
    by suppose [] (7 ∷ [])
    -- 2. One foreman's word serves another.
    ∷ row "D.record" "refused 14 place 1\n"
    (3 ∷ 1 ∷ 2 ∷ 1 ∷ 0 ∷ 20487 ∷ 20488 ∷ 0 ∷ 0 ∷ 0 ∷ 2 ∷ 40960 ∷ 45058 ∷ [])
    (8 says atom 0 ∷ []) (7 says atom 0)
    by suppose [] (8 ∷ [])
    ∷ row "another-foremans-word.record" "refused 14 place 2\n"
    (7 ∷ 2 ∷ 6 ∷ 1 ∷ 0 ∷ 1 ∷ 20487 ∷ 20488 ∷ 8195 ∷ 12290 ∷ 8197 ∷ 0 ∷ 0 ∷ 0 ∷ 0 ∷ 1 ∷ 3 ∷ 1 ∷ 2 ∷ 4 ∷ 12292
    ∷ 40960 ∷ 45058 ∷ 4096 ∷ 0 ∷ 1 ∷ [])
    (7 says atom 0 ∷ (8 says atom 0 implies atom 1) ∷ []) (atom 1)
    by suppose [] (7 ∷ [])
    ∷ row "said-is-not-said-by-another.record" "refused 14 place 2\n"
    (4 ∷ 0 ∷ 5 ∷ 3 ∷ 0 ∷ 20487 ∷ 20488 ∷ 8193 ∷ 0 ∷ 0 ∷ 0 ∷ 2 ∷ 8192 ∷ 40960 ∷ 45057 ∷ 4096 ∷ 0 ∷ [])
    [] (7 says atom 0 implies 8 says atom 0)
    by suppose [] (7 ∷ [])
    -- 3. False frees all.
    ∷ row "false-said-by-another.record" "refused 14 place 1\n"
    (6 ∷ 1 ∷ 3 ∷ 4 ∷ 0 ∷ 4096 ∷ 20487 ∷ 20487 ∷ 20488 ∷ 20488 ∷ 0 ∷ 0 ∷ 1 ∷ 0 ∷ 0 ∷ 3 ∷ 2 ∷ 40960 ∷ 45058 ∷ 16385
    ∷ [])
    (7 says false ∷ []) (8 says atom 0)
    by suppose [] (7 ∷ [])
    ∷ row "false-said-is-not-false.record" "refused 12 place 0\n"
    (6 ∷ 1 ∷ 1 ∷ 0 ∷ 0 ∷ 4096 ∷ 20487 ∷ 20487 ∷ 20488 ∷ 20488 ∷ 0 ∷ 0 ∷ 1 ∷ 0 ∷ 0 ∷ 3 ∷ 2 ∷ 16385 ∷ [])
    (7 says false ∷ []) (atom 0)
    by suppose [] (7 ∷ [])
    ∷ row "said-false-is-not-false.record" "refused 14 place 1\n"
    (3 ∷ 0 ∷ 3 ∷ 2 ∷ 4096 ∷ 20487 ∷ 8193 ∷ 0 ∷ 0 ∷ 0 ∷ 8192 ∷ 45057 ∷ 16384 ∷ [])
    [] (7 says false implies false)
    by suppose [] (7 ∷ [])
    -- 4. Two copies weigh double.
    ∷ row "one-paper-for-both.record" "refused 14 place 7\n"
    (7 ∷ 3 ∷ 11 ∷ 1 ∷ 0 ∷ 1 ∷ 20487 ∷ 20488 ∷ 8195 ∷ 12290 ∷ 8197 ∷ 0 ∷ 0 ∷ 0 ∷ 0 ∷ 1 ∷ 3 ∷ 1 ∷ 2 ∷ 2 ∷ 6 ∷ 12294
    ∷ 20480 ∷ 40960 ∷ 45058 ∷ 4096 ∷ 0 ∷ 40960 ∷ 45058 ∷ 4096 ∷ 0 ∷ 1 ∷ [])
    (7 says atom 0 ∷ 7 says atom 0 ∷ ((7 says atom 0 and 8 says atom 0) implies atom 1) ∷ []) (atom 1)
    by suppose [] (7 ∷ [])
    -- 5. Code 11 on a truth.
    ∷ row "C.record" "refused 14 place 0\n"
    (3 ∷ 1 ∷ 1 ∷ 0 ∷ 0 ∷ 20487 ∷ 20488 ∷ 0 ∷ 0 ∷ 0 ∷ 1 ∷ 45057 ∷ [])
    (7 says atom 0 ∷ []) (atom 0)
    by suppose [] (7 ∷ [])
    ∷ row "says-left-on-truth.record" "refused 14 place 0\n"
    (2 ∷ 1 ∷ 2 ∷ 0 ∷ 0 ∷ 20487 ∷ 0 ∷ 0 ∷ 1 ∷ 45057 ∷ 0 ∷ [])
    (7 says atom 0 ∷ []) (atom 0)
    by suppose [] (7 ∷ [])
    -- 9. What one premise adds the next has; and a0 from nothing, or from a1.
    ∷ row "and-right-carried.record" "refused 12 place 3\n"
    (3 ∷ 0 ∷ 4 ∷ 2 ∷ 0 ∷ 8192 ∷ 12289 ∷ 0 ∷ 0 ∷ 0 ∷ 20480 ∷ 8192 ∷ 0 ∷ 0 ∷ [])
    [] ((atom 0 implies atom 0) and atom 0)
    by suppose [] []
    ∷ row "or-left-carried.record" "refused 12 place 2\n"
    (4 ∷ 1 ∷ 3 ∷ 0 ∷ 0 ∷ 1 ∷ 16384 ∷ 16385 ∷ 0 ∷ 0 ∷ 1 ∷ 0 ∷ 2 ∷ 36866 ∷ 0 ∷ 0 ∷ [])
    ((atom 0 or atom 1) ∷ []) (atom 0)
    by suppose (1 ∷ []) []
    ∷ row "F.record" "refused 12 place 0\n"
    (3 ∷ 0 ∷ 1 ∷ 0 ∷ 0 ∷ 20487 ∷ 20488 ∷ 0 ∷ 0 ∷ 0 ∷ 0 ∷ [])
    [] (atom 0)
    by suppose [] []
    ∷ row "O.record" "refused 13 place 0\n"
    (2 ∷ 1 ∷ 1 ∷ 0 ∷ 0 ∷ 1 ∷ 0 ∷ 0 ∷ 1 ∷ 1 ∷ [])
    (atom 1 ∷ []) (atom 0)
    by suppose (1 ∷ []) []
    -- 12. Papers of two principals go together.
    ∷ row "says-distributes-another.record" "refused 14 place 1\n"
    (6 ∷ 2 ∷ 7 ∷ 5 ∷ 0 ∷ 1 ∷ 8192 ∷ 20487 ∷ 20488 ∷ 20488 ∷ 0 ∷ 0 ∷ 1 ∷ 2 ∷ 0 ∷ 1 ∷ 3 ∷ 4 ∷ 40960 ∷ 45059 ∷ 45060
    ∷ 12290 ∷ 0 ∷ 4096 ∷ 1 ∷ [])
    (7 says (atom 0 implies atom 1) ∷ 8 says atom 0 ∷ []) (8 says atom 1)
    by suppose (0 ∷ []) (7 ∷ [])
    -- 18. Enough papers need no order.
    ∷ row "all-say-it.record" "refused 14 place 0\n"
    (4 ∷ 3 ∷ 2 ∷ 0 ∷ 0 ∷ 20487 ∷ 20488 ∷ 20489 ∷ 0 ∷ 0 ∷ 0 ∷ 0 ∷ 1 ∷ 2 ∷ 3 ∷ 45057 ∷ 0 ∷ [])
    (7 says atom 0 ∷ 8 says atom 0 ∷ 9 says atom 0 ∷ []) (atom 0)
    by suppose [] (7 ∷ 8 ∷ 9 ∷ [])
    ∷ row "false-from-papers.record" "refused 12 place 0\n"
    (2 ∷ 1 ∷ 1 ∷ 0 ∷ 4096 ∷ 20487 ∷ 0 ∷ 0 ∷ 1 ∷ 16384 ∷ [])
    (7 says false ∷ []) false
    by suppose [] (7 ∷ [])
    ∷ []

-- No model with one world refutes this one; `OrInAPaper` does, with three.
abbrev pub or_in_a_paper : Row
or_in_a_paper =
    row "or-in-a-paper.record" "refused 12 place 7\n"
    (7 ∷ 1 ∷ 8 ∷ 6 ∷ 0 ∷ 1 ∷ 16384 ∷ 20487 ∷ 20487 ∷ 20487 ∷ 16388 ∷ 0 ∷ 0 ∷ 1 ∷ 2 ∷ 0 ∷ 1 ∷ 5 ∷ 3 ∷ 28672
    ∷ 40960 ∷ 45059 ∷ 36866 ∷ 4096 ∷ 0 ∷ 4096 ∷ 0 ∷ [])
    (7 says (atom 0 or atom 1) ∷ []) (7 says atom 0 or 7 says atom 1)

abbrev pub rows : List Row
rows = or_in_a_paper ∷ map (λ r. r.row) refuted

-- The table tells what the program prints for the files, and what they spell,
pub record RowsAre : Type 0 where
  pub lines : map (λ r. line_of (a_record r.words)) rows ≡ map (λ r. ascii r.line) rows
  pub statements : map (λ r. stated_by (file_of r.words)) rows ≡ map (λ r. r.statements) rows
  pub goals : map (λ r. goal_of (file_of r.words)) rows ≡ map (λ r. r.goal) rows

-- and each model refutes its row.
abbrev pub ModelsRefute : Type 0
ModelsRefute = map (λ r. refutes r.model r.row.statements r.row.goal) refuted ≡ map (λ r. Bool.true) refuted

abbrev pub OneWorldWontDo : Type 0
OneWorldWontDo = (m : Supposition) → refutes m or_in_a_paper.statements or_in_a_paper.goal ≡ Bool.false

-- No steps at all: no record with this goal, and with no other statements than these, is granted, whatever its table
-- and its steps are and however long the list lent is.
abbrev pub NeverGranted : List Proposition → Proposition → Type 0
NeverGranted Γ A =
    (file : List ℕ) → stated_by file ⊆ Γ → goal_of file ≡ A
    → (room count : ℕ) → ¬ (record_answer file room ≡ Granted count)

abbrev pub NoStepsAtAll : Type 0
NoStepsAtAll =
    (r : Row) → r ∈ rows → (¬ HasProof r.statements r.goal) × NeverGranted r.statements r.goal
