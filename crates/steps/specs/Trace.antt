-- The trace of a walk: a line for each word, with propositions as trees and no formula numbers. Proved in
-- proofs/Trace.antt. Assumes nothing.
use Rattle.std.specs.Prelude.{ℕ, ◌≤◌, Bool, ◌≡◌, List, [], ◌∷◌, ◌++◌, map, length, get_or}
use Rattle.std.proofs.Math.Option.{Option, none, some}
use Rattle.basics.specs.Membership.{◌∈◌}
use Rattle.basics.specs.Limits.{most_formulas}
use Rattle.basics.specs.Word.{upper, lower}
use Rattle.logic.specs.Proposition.{Proposition, atom, false, ◌implies◌, ◌and◌, ◌or◌, ◌says◌}
use Rattle.logic.specs.Judgment.{Judgment}
use Rattle.logic.specs.Principals.{Relation}
use Rattle.logic.specs.Derivation.{Derivation, init, affirm, implies_right, implies_left, false_left, and_right, and_left, or_right_first, or_right_second, or_left, says_right, says_left}
use Rattle.table.specs.declared.entry.Entry.{Entry}
use Rattle.table.specs.Laws.{Ordered, Distinct}
use Rattle.table.specs.Spelled.{spell}
use Rattle.steps.specs.Obligation.{Obligation, under}
use Rattle.steps.specs.Step.{Rule, names, plain, unknown, rules, step}
use Rattle.steps.specs.Run.{after}
use Rattle.steps.specs.Carried.{judgment, Carried, InTable}
use Rattle.steps.specs.Runs.{Closes}

-- the code of a rule, the proposition that it names, if any, and its goal
pub record Line : Type 0 where
  pub code : ℕ
  pub named : Option Proposition
  pub goal : Judgment

abbrev pub line : ℕ → Option Proposition → Judgment → Line
line c n γ = record { code = c; named = n; goal = γ }

-- ---- of derivations

-- The lines of a derivation, from 01's table alone, in the order of its words.
module _ {R : Relation} where
  abbrev pub lines : {Γ : List Proposition} {γ : Judgment} → Derivation R Γ γ → List Line
  lines {γ = γ} (init {a = a} m) = line 0 (some (atom a)) γ ∷ []
  lines {γ = γ} (affirm D) = line 1 none γ ∷ lines D
  lines {γ = γ} (implies_right D) = line 2 none γ ∷ lines D
  lines {γ = γ} (implies_left {A = A} {B = B} m D E) = line 3 (some (A implies B)) γ ∷ (lines D ++ lines E)
  lines {γ = γ} (false_left m) = line 4 (some false) γ ∷ []
  lines {γ = γ} (and_right D E) = line 5 none γ ∷ (lines D ++ lines E)
  lines {γ = γ} (and_left {A = A} {B = B} m D) = line 6 (some (A and B)) γ ∷ lines D
  lines {γ = γ} (or_right_first D) = line 7 none γ ∷ lines D
  lines {γ = γ} (or_right_second D) = line 8 none γ ∷ lines D
  lines {γ = γ} (or_left {A = A} {B = B} m D E) = line 9 (some (A or B)) γ ∷ (lines D ++ lines E)
  lines {γ = γ} (says_right D) = line 10 none γ ∷ lines D
  lines {γ = γ} (says_left {K = K} {A = A} m r D) = line 11 (some (K says A)) γ ∷ lines D

-- The lines of derivations for each obligation, one after the other.
abbrev pub lines_of : (R : Relation) (limit : ℕ) (es : List Entry) (os : List Obligation) (ws : List ℕ) → Carried R limit es os ws → List Line
lines_of R limit es [] ws e = []
lines_of R limit es (o ∷ os) ws (rest, (proved, more)) = lines proved.derivation ++ lines_of R limit es os rest more

-- ---- of words

-- The proposition that a rule names by a word's part; what is no rule names none.
abbrev pub named_by : List Entry → Rule → ℕ → Option Proposition
named_by es (names rule) n = some (spell es n)
named_by es (plain rule) n = none
named_by es unknown n = none

-- the line of a word at an obligation
abbrev pub line_of : (ℕ → ℕ → Bool) → List Entry → ℕ → Obligation → Line
line_of speaks es w o = line (upper w) (named_by es (get_or (rules speaks es) (upper w) unknown) (lower w)) (judgment es o.goal)

module _ (speaks : ℕ → ℕ → Bool) (limit : ℕ) (es : List Entry) where
  -- A line for each word while something is open, as far as the first that is refused.
  unfoldable pub trace : List ℕ → List Obligation → List Line
  trace [] os = []
  trace (w ∷ ws) [] = []
  trace (w ∷ ws) (o ∷ os) = line_of speaks es w o ∷ after (step speaks es limit w o) (λ number. []) (λ premises. trace ws (map (under o) premises ++ os))

-- ---- what is proved of them

-- A run that closes has one line for each word.
abbrev pub LinePerWord : (ℕ → ℕ → Bool) → Type 0
LinePerWord speaks =
    (limit : ℕ) (es : List Entry) (os : List Obligation) (ws : List ℕ)
    → Closes speaks limit es os ws → length (trace speaks limit es ws os) ≡ length ws

-- On the words of derivations, the trace is the lines of these derivations.
abbrev pub TraceIsDerivations : (ℕ → ℕ → Bool) → Relation → Type 0
TraceIsDerivations speaks R =
    (limit : ℕ) (es : List Entry) → length es ≤ most_formulas → Ordered es → Distinct es
    → (os : List Obligation) → ((o : Obligation) → o ∈ os → InTable es o)
    → (ws : List ℕ) (carried : Carried R limit es os ws) → trace speaks limit es ws os ≡ lines_of R limit es os ws carried
