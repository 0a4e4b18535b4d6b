-- What a text tells: everything that it was made of. Proved in proofs/Told.antt. Assumes nothing.
use Rattle.std.specs.Prelude.{ℕ, ◌<◌, ◌≡◌, List}
use Rattle.basics.specs.Membership.{◌∈◌}
use Rattle.logic.specs.Proposition.{Proposition}
use Rattle.logic.specs.Judgment.{Judgment}
use Rattle.steps.specs.Trace.{Line}
use Rattle.sentences.specs.Formula.{proposition_text, goal_text}
use Rattle.sentences.specs.Sentences.{rule_name, sentences}

-- Two propositions of one text are the same,
abbrev pub PropositionTold : Type 0
PropositionTold = (A B : Proposition) → proposition_text A ≡ proposition_text B → A ≡ B

-- two goals are,
abbrev pub GoalTold : Type 0
GoalTold = (γ δ : Judgment) → goal_text γ ≡ goal_text δ → γ ≡ δ

-- two of the twelve rules are,
abbrev pub RuleTold : Type 0
RuleTold = (c d : ℕ) → c < 12 → d < 12 → rule_name c ≡ rule_name d → c ≡ d

-- and two lists of lines, where each has a rule's code.
abbrev pub Known : List Line → Type 0
Known ls = (l : Line) → l ∈ ls → l.code < 12

abbrev pub SentencesTold : Type 0
SentencesTold = (ls ms : List Line) → Known ls → Known ms → sentences ls ≡ sentences ms → ls ≡ ms
