-- What the walk of the code stands for: an obligation of the machine, with the hypotheses that the slots show. Assumes
-- nothing.
use Rattle.std.specs.Prelude.{ℕ, ◌+◌, ◌<◌, false, ◌≡◌, List, [], ◌∷◌, length, Err}
use Rattle.basics.specs.Limits.{most_depth}
use Rattle.basics.specs.Word.{radix}
use Rattle.basics.specs.Membership.{holds}
use Rattle.table.specs.declared.entry.Entry.{Entry}
use Rattle.steps.specs.declared.goal.Goal.{Goal}
use Rattle.steps.specs.declared.goal.Goal.TheVariants.{True, Affirms}
use Rattle.steps.specs.Verdict.{WalkVerdict, Closed}
use Rattle.steps.specs.Verdict as Verdicts
use Rattle.steps.specs.Obligation.{Obligation}
use Rattle.steps.specs.Figure1.{same}
use Rattle.steps.specs.Parts.{walk_from}
use Rattle.hypotheses.specs.Slots.{half, shown}
use Rattle.hypotheses.specs.Trail.{Kept, Live}
use Rattle.walk.specs.declared.walk.Walk.{Walk}
use Rattle.walk.specs.declared.walk.Walked.{Walked}
use Rattle.walk.specs.declared.walk.Walked.TheVariants.{Done, Refused}

abbrev pub IsTruth : Goal → Type 0
IsTruth (True f) = Unit
IsTruth (Affirms k f) = ⊥

abbrev pub IsAffirmation : Goal → Type 0
IsAffirmation (True f) = ⊥
IsAffirmation (Affirms k f) = Unit

-- the walk of a premise that begins at a word: one deeper, with so many hypotheses
abbrev pub onward : Walk → Goal → ℕ → ℕ → Walk
onward w g next held = record { goal = g; next = next; depth = w.depth + 1; held = held }

-- what a walk has to prove, with the hypotheses that the slots show
abbrev pub obligation_of : Walk → List ℕ → Obligation
obligation_of w slots = record { hypotheses = shown slots; goal = w.goal; depth = w.depth }

-- the machine's run from a walk's word on
abbrev pub run_from : List Entry → List ℕ → List ℕ → Walk → WalkVerdict
run_from es steps slots w = walk_from same most_depth es steps w.next (obligation_of w slots ∷ [])

-- what a walk comes to, as the machine's verdict
abbrev pub verdict_of : Walked → WalkVerdict
verdict_of (Done v) = Closed v.next
verdict_of (Refused number place) = Verdicts.Refused number place

-- The slots have a mark for each number that a step can name: the lower part of its word, below F,
abbrev pub Marks : List Entry → List ℕ → Type 0
Marks es slots = (n : ℕ) → n < length es → n < radix → n < half slots

-- and a place for each hypothesis.
pub record Ready (es : List Entry) (slots : List ℕ) (held : ℕ) : Type 0 where
  pub marks : Marks es slots
  pub live : Live slots held

-- A walk that is done hands back its depth and its count of hypotheses, and what it held is taken back. Free is the
-- goal that it hands back, and the places past the count; after a refusal all of the slots.
abbrev pub Left : Walk → List ℕ → Walked → List ℕ → Type 0
Left w slots (Done v) after = (v.depth ≡ w.depth) × (v.held ≡ w.held) × Kept w.held slots after
Left w slots (Refused number place) after = Unit

-- The slots show the statements, as far as a step can name them, and are ready for a walk.
pub record Holding (es : List Entry) (statements slots : List ℕ) (held : ℕ) : Type 0 where
  pub ready : Ready es slots held
  pub shows : (n : ℕ) → n < length es → n < radix → holds (shown slots) n ≡ holds statements n

-- A proof that is closed leaves the hypotheses as they were held. After a refusal the slots are free.
abbrev pub LeftHeld : List ℕ → ℕ → WalkVerdict → List ℕ → Type 0
LeftHeld slots held (Closed q) after = Kept held slots after
LeftHeld slots held (Err refusal) after = Unit

-- nothing is held yet
abbrev pub Empty : List ℕ → Type 0
Empty slots = (n : ℕ) → holds (shown slots) n ≡ false
