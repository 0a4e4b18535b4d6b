-- The steps of the samples of document 01 over the machine, as one table, and what its order of tests means where
-- several apply. The whole records and exchanges come with their own crates. Proved in proofs/Samples.antt, by
-- computation. Assumes nothing.
use Rattle.std.specs.Prelude.{ℕ, ◌≡◌, List, [], ◌∷◌, ◌++◌, map, replicate}
use Rattle.std.proofs.Math.Option.{none, some}
use Rattle.logic.specs.Proposition.{atom, ◌says◌}
use Rattle.logic.specs.Judgment.{truth, ◌affirms◌}
use Rattle.table.specs.declared.entry.Entry.{Entry}
use Rattle.table.specs.Tests.{entries}
use Rattle.steps.specs.Verdict.{WalkVerdict, Closed, Refused}
use Rattle.steps.specs.Obligation.{Obligation, obligation}
use Rattle.steps.specs.Trace.{Line, line}
use Rattle.steps.specs.Figure1.{run, trace}

-- A row of a table of samples: what is to be proved, the step words, and the verdict. (01's "granted" comes with the
-- record; here it is closed.)
pub record Sample : Type 0 where
  pub obligations : List Obligation
  pub steps : List ℕ
  pub verdict : WalkVerdict

abbrev pub row : List Obligation → List ℕ → WalkVerdict → Sample
row obligations steps verdict = record { obligations = obligations; steps = steps; verdict = verdict }

abbrev pub sample : List ℕ → ℕ → List ℕ → WalkVerdict → Sample
sample statements goal steps verdict = row (obligation statements goal ∷ []) steps verdict

-- the machine gives each row's verdict
abbrev pub Hold : List Entry → List Sample → Type 0
Hold es rows = map (λ r. run es r.steps r.obligations) rows ≡ map (λ r. r.verdict) rows

-- "Table T: 0 atom 0; 1 principal 7 says it; 2 principal 8 says it"
abbrev pub T : List Entry
T = entries (0 ∷ 20487 ∷ 20488 ∷ []) (0 ∷ 0 ∷ 0 ∷ [])

-- | | statements | goal | steps | answer |, A to J; and H with one word more left over. (01's record A has entries 0
-- and 1 only.)
abbrev pub table : List Sample
table =
    sample (1 ∷ []) 1 (40960 ∷ 45057 ∷ 4096 ∷ 0 ∷ []) (Closed 4)
    ∷ sample (0 ∷ []) 1 (40960 ∷ 4096 ∷ 0 ∷ []) (Closed 3)
    ∷ sample (1 ∷ []) 0 (45057 ∷ []) (Refused 14 0)
    ∷ sample (2 ∷ []) 1 (40960 ∷ 45058 ∷ []) (Refused 14 1)
    ∷ sample (0 ∷ []) 1 (0 ∷ []) (Refused 13 0)
    ∷ sample [] 0 (0 ∷ []) (Refused 12 0)
    ∷ sample (0 ∷ []) 1 (40960 ∷ 4096 ∷ []) (Refused 9 2)
    ∷ sample (0 ∷ []) 1 (40960 ∷ 4096 ∷ 0 ∷ 0 ∷ []) (Refused 15 3)
    ∷ sample (0 ∷ []) 0 (49152 ∷ []) (Refused 11 0)
    ∷ sample (1 ∷ 1 ∷ []) 1 (40960 ∷ 45057 ∷ 4096 ∷ 0 ∷ []) (Closed 4)
    ∷ sample (0 ∷ []) 1 (40960 ∷ 4096 ∷ 0 ∷ 0 ∷ 0 ∷ []) (Refused 15 3)
    ∷ []

abbrev pub Samples : Type 0
Samples = Hold T table

-- "Tests 9 to 14 run in this order at each step": where two apply, the first counts. In order: 11 before 12 (an unknown
-- code with a part that is not held; a part of F or more in a rule that names nothing), 12 before 13 (init of what is
-- not held, for a says-formula; of a number of F or more, which "never is" a hypothesis, even where a statement has
-- it), 12 before 14, 13 before 14 (says left of an atom, on a truth); init on an affirmation, and of a says-formula;
-- affirm on a truth; says left of what is not held, on an affirmation; the largest word; and a goal of F or more, which
-- is ill-formed.
abbrev pub order : List Sample
order =
    sample [] 0 (49153 ∷ []) (Refused 11 0)
    ∷ sample [] 0 (4195 ∷ []) (Refused 11 0)
    ∷ sample [] 1 (0 ∷ []) (Refused 12 0)
    ∷ sample [] 0 (99 ∷ []) (Refused 12 0)
    ∷ sample (99 ∷ []) 0 (99 ∷ []) (Refused 12 0)
    ∷ sample [] 0 (45057 ∷ []) (Refused 12 0)
    ∷ sample (0 ∷ []) 0 (45056 ∷ []) (Refused 13 0)
    ∷ sample (0 ∷ []) 1 (40960 ∷ 0 ∷ []) (Refused 13 1)
    ∷ sample (1 ∷ []) 1 (1 ∷ []) (Refused 13 0)
    ∷ sample (0 ∷ []) 0 (4096 ∷ []) (Refused 13 0)
    ∷ sample (0 ∷ []) 1 (40960 ∷ 45057 ∷ []) (Refused 12 1)
    ∷ sample [] 0 (65535 ∷ []) (Refused 11 0)
    ∷ sample [] 99 (20480 ∷ []) (Refused 13 0)
    ∷ []

abbrev pub Order : Type 0
Order = Hold T order

-- "Depth 512 passes and 513 is refused 10". The table is atom 0, and atom 0 and atom 0; statement 1, goal 0; and left n
-- times, then the last words. In order: 512 deep; 513 deep; the words end at depth 513, 9 before 10; and an unknown
-- code at depth 513, 10 before 11.
abbrev pub deep : ℕ → List ℕ → WalkVerdict → Sample
deep n last verdict = sample (1 ∷ []) 0 (replicate n 24577 ++ last) verdict

abbrev pub depths : List Sample
depths = deep 511 (0 ∷ []) (Closed 512) ∷ deep 512 (0 ∷ []) (Refused 10 512) ∷ deep 512 [] (Refused 9 512) ∷ deep 512 (49152 ∷ []) (Refused 10 512) ∷ []

abbrev pub Depths : Type 0
Depths = Hold (entries (0 ∷ 12288 ∷ []) (0 ∷ 0 ∷ [])) depths

-- K, the exchange: "table atom 0, atom 1, their and ..: lists [2] and [0, 1], steps 24578 0 24578 1 20480 0 1: equal".
-- Then two empty lists; two proofs of which the words end in the second, or before it; a word too many between them,
-- which is the second's first; a word after the last, and after none; and O, "table atom 0, atom 1, statement 1, goal
-- 0, step 1: refused 13 at 0".
abbrev pub both : List Obligation
both = obligation (2 ∷ []) 0 ∷ obligation (2 ∷ []) 1 ∷ []

abbrev pub exchange : List Sample
exchange =
    row (obligation (2 ∷ []) 0 ∷ obligation (2 ∷ []) 1 ∷ obligation (0 ∷ 1 ∷ []) 2 ∷ []) (24578 ∷ 0 ∷ 24578 ∷ 1 ∷ 20480 ∷ 0 ∷ 1 ∷ []) (Closed 7)
    ∷ row [] [] (Closed 0)
    ∷ row both (24578 ∷ 0 ∷ 24578 ∷ []) (Refused 9 3)
    ∷ row both (24578 ∷ 0 ∷ []) (Refused 9 2)
    ∷ row both (24578 ∷ 0 ∷ 0 ∷ 24578 ∷ 1 ∷ []) (Refused 12 2)
    ∷ row both (24578 ∷ 0 ∷ 24578 ∷ 1 ∷ 0 ∷ []) (Refused 15 4)
    ∷ row [] (0 ∷ []) (Refused 15 0)
    ∷ row (obligation (1 ∷ []) 0 ∷ []) (1 ∷ []) (Refused 13 0)
    ∷ []

abbrev pub Exchange : Type 0
Exchange = Hold (entries (0 ∷ 1 ∷ 12288 ∷ []) (0 ∷ 0 ∷ 1 ∷ [])) exchange

-- The trace of A, of D as far as the step that is refused, and of H as far as the proof.
abbrev pub traces : List (List Line)
traces =
    map (λ r. trace T r.steps r.obligations)
    (sample (1 ∷ []) 1 (40960 ∷ 45057 ∷ 4096 ∷ 0 ∷ []) (Closed 4)
    ∷ sample (2 ∷ []) 1 (40960 ∷ 45058 ∷ []) (Refused 14 1)
    ∷ sample (0 ∷ []) 1 (40960 ∷ 4096 ∷ 0 ∷ 0 ∷ []) (Refused 15 3)
    ∷ [])

abbrev pub Traces : Type 0
Traces =
    traces
    ≡ (line 10 none (truth (7 says atom 0)) ∷ line 11 (some (7 says atom 0)) (7 affirms atom 0) ∷ line 1 none (7 affirms atom 0)
    ∷ line 0 (some (atom 0)) (truth (atom 0)) ∷ [])
    ∷ (line 10 none (truth (7 says atom 0)) ∷ line 11 (some (8 says atom 0)) (7 affirms atom 0) ∷ [])
    ∷ (line 10 none (truth (7 says atom 0)) ∷ line 1 none (7 affirms atom 0) ∷ line 0 (some (atom 0)) (truth (atom 0)) ∷ [])
    ∷ []
