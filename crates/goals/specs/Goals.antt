-- The goal of each step of a proof, found from the table, the goal and the steps once these have passed their tests: no
-- hypotheses are looked up again. Proved in proofs/Trace.antt. Assumes nothing.
use Rattle.std.specs.Prelude.{ℕ, ◌≤◌, true, ◌≡◌, List, [], ◌∷◌, ◌++◌, map, length, get_or, leb}
use Rattle.basics.specs.Choice.{pick}
use Rattle.basics.specs.Limits.{most_depth}
use Rattle.basics.specs.Word.{upper, lower}
use Rattle.basics.specs.Written.{written}
use Rattle.table.specs.declared.entry.Entry.{Entry}
use Rattle.steps.specs.declared.goal.Goal.{Goal}
use Rattle.steps.specs.declared.goal.Goal.TheVariants.{True, Affirms}
use Rattle.steps.specs.declared.opened.Premise.{Premise}
use Rattle.steps.specs.declared.opened.Opened.{Opened}
use Rattle.steps.specs.Verdict.{Closed}
use Rattle.steps.specs.Obligation.{obligation}
use Rattle.steps.specs.Step.{rules, unknown}
use Rattle.steps.specs.Run.{after}
use Rattle.steps.specs.Figure1.{same, run, trace}
use Rattle.rules.specs.Tested.{tested}
use Rattle.goals.specs.declared.kept.Kept.{Kept}
use Rattle.goals.specs.Kept.{goal_at, lines_at}

-- a goal kept in two words (Kept.antt), and the goal that is kept so
abbrev pub kept : ℕ → ℕ → Kept
kept number affirms = record { number = number; affirms = affirms }

abbrev pub goal_kept : List Entry → Kept → Goal
goal_kept es k = goal_at es k.number k.affirms

-- How a premise's goal is kept, where n is the number that its conclusion's goal is kept by. An affirmation is kept by
-- the same number: it is the conclusion's own, or the conclusion is the truth of K says A and it is K affirms A (code
-- 10). So no principal has to be kept.
abbrev pub kept_as : ℕ → Goal → Kept
kept_as n (True f) = kept f.0 0
kept_as n (Affirms k f) = kept n 1

abbrev pub premises_kept : ℕ → List Premise → List Kept
premises_kept n ps = map (λ p. kept_as n p.goal) ps

-- What a step word opens for a goal where every number counts as a hypothesis, F or more too: tests 11, 13 and 14.
abbrev pub opens_freely : List Entry → ℕ → Goal → Opened
opens_freely es w g = tested (get_or (rules same es) (upper w) unknown) true (lower w) g

-- The goal of each step, as it is kept, from the open goals, the next first: as far as the first step that is refused,
-- and as far as no more goals wait behind the next one than a step may be deep, which is what the code has room for.
unfoldable pub goals_from : List Entry → List ℕ → List Kept → List Kept
goals_from es [] ks = []
goals_from es (w ∷ ws) [] = []
goals_from es (w ∷ ws) (k ∷ ks) =
    pick (leb (length ks) most_depth)
    (k
    ∷ after (opens_freely es w (goal_kept es k)) (λ number. [])
    (λ ps. goals_from es ws (premises_kept k.number ps ++ ks)))
    []

-- of a proof of one goal
abbrev pub goals_of : List Entry → List ℕ → ℕ → List Kept
goals_of es ws goal = goals_from es ws (kept goal 0 ∷ [])

-- their numbers, and their second words
abbrev pub numbers_of : List Kept → List ℕ
numbers_of ks = map (λ k. k.number) ks

abbrev pub affirms_of : List Kept → List ℕ
affirms_of ks = map (λ k. k.affirms) ks

-- In a proof that closes there is one for each step,
abbrev pub GoalPerStep : Type 0
GoalPerStep =
    (es : List Entry) (ss : List ℕ) (n : ℕ) (ws : List ℕ) → run es ws (obligation ss n ∷ []) ≡ Closed (length ws)
    → length (goals_of es ws n) ≡ length ws

-- the lines at these goals are the trace,
abbrev pub GoalsOfTrace : Type 0
GoalsOfTrace =
    (es : List Entry) (ss : List ℕ) (n : ℕ) (ws : List ℕ) → run es ws (obligation ss n ∷ []) ≡ Closed (length ws)
    → lines_at es ws (numbers_of (goals_of es ws n)) (affirms_of (goals_of es ws n)) ≡ trace es ws (obligation ss n ∷ [])

-- and so they are where the goals are written over lists with room for them.
abbrev pub GoalsWritten : Type 0
GoalsWritten =
    (es : List Entry) (ss : List ℕ) (n : ℕ) (ws : List ℕ) → run es ws (obligation ss n ∷ []) ≡ Closed (length ws)
    → (numbers affirms : List ℕ) → length ws ≤ length numbers → length ws ≤ length affirms
    → lines_at es ws (written numbers (numbers_of (goals_of es ws n))) (written affirms (affirms_of (goals_of es ws n)))
    ≡ trace es ws (obligation ss n ∷ [])
