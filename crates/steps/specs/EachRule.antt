-- Each rule once, over operands that differ in number and in kind, so that no two operands, premises or codes can
-- change places: what the machine opens, and the words of derivations. Proved in proofs/EachRule.antt, by computation.
-- Assumes nothing.
use Rattle.std.specs.Prelude.{ℕ, ◌≡◌, List, [], ◌∷◌, map}
use Rattle.logic.specs.Proposition.{Proposition, atom, false, ◌implies◌, ◌and◌, ◌or◌, ◌says◌}
use Rattle.logic.specs.Judgment.{Judgment, truth, ◌affirms◌}
use Rattle.logic.specs.Figure1.{Derivation}
use Rattle.table.specs.declared.entry.Entry.{Entry}
use Rattle.table.specs.Entry.{formula, principal}
use Rattle.table.specs.Tests.{entries}
use Rattle.table.specs.Number.{number}
use Rattle.table.specs.Samples.{unlike_heads, unlike_seconds}
use Rattle.steps.specs.declared.goal.Goal.{Goal}
use Rattle.steps.specs.declared.goal.Goal.TheVariants.{True, Affirms}
use Rattle.steps.specs.declared.opened.Opened.{Opened}
use Rattle.steps.specs.declared.opened.Opened.TheVariants.{Refused, Closed, One, Two}
use Rattle.steps.specs.Obligation.{alone, adding, adding_both}
use Rattle.steps.specs.Words.{words}
use Rattle.steps.specs.Figure1.{step}

-- The table (`EachKind` of `table`): 0 atom 9; 1 false; 2 is 0 implies 1; 3 is 1 and 2; 4 is 2 or 0; 5 principal 7 says
-- 4.
abbrev pub unlike : List Entry
unlike = entries unlike_heads unlike_seconds

-- ---- the machine

-- a step word, the hypotheses and the goal that it finds, and what it opens
pub record Sample : Type 0 where
  pub word : ℕ
  pub hypotheses : List ℕ
  pub goal : Goal
  pub opened : Opened

abbrev pub sample : ℕ → List ℕ → Goal → Opened → Sample
sample word hypotheses goal opened = record { word = word; hypotheses = hypotheses; goal = goal; opened = opened }

-- the truth of a formula, and principal 7's affirmation of it
abbrev pub is_true : ℕ → Goal
is_true n = True (formula n)

abbrev pub affirmed : ℕ → Goal
affirmed n = Affirms (principal 7) (formula n)

-- Each rule where it applies, in the order of the codes; and implies left on an affirmation, whose first premise "is
-- always a truth".
abbrev pub taken : List Sample
taken =
    sample 0 (0 ∷ []) (is_true 0) Closed
    ∷ sample 4096 [] (affirmed 4) (One (alone (is_true 4)))
    ∷ sample 8192 [] (is_true 2) (One (adding (is_true 1) (formula 0)))
    ∷ sample 12290 (2 ∷ []) (is_true 5) (Two (alone (is_true 0)) (adding (is_true 5) (formula 1)))
    ∷ sample 16385 (1 ∷ []) (is_true 5) Closed
    ∷ sample 20480 [] (is_true 3) (Two (alone (is_true 1)) (alone (is_true 2)))
    ∷ sample 24579 (3 ∷ []) (is_true 5) (One (adding_both (is_true 5) (formula 1) (formula 2)))
    ∷ sample 28672 [] (is_true 4) (One (alone (is_true 2)))
    ∷ sample 32768 [] (is_true 4) (One (alone (is_true 0)))
    ∷ sample 36868 (4 ∷ []) (is_true 5) (Two (adding (is_true 5) (formula 2)) (adding (is_true 5) (formula 0)))
    ∷ sample 40960 [] (is_true 5) (One (alone (affirmed 4)))
    ∷ sample 45061 (5 ∷ []) (affirmed 0) (One (adding (affirmed 0) (formula 4)))
    ∷ sample 12290 (2 ∷ []) (affirmed 5) (Two (alone (is_true 0)) (adding (affirmed 5) (formula 1)))
    ∷ []

-- Where it doesn't, in the same order: a part where the rule names nothing, or one that is not held; then, with that
-- put right, a goal or a named formula of another kind than the rule needs; then, of the rules that need a truth, an
-- affirmation; code 11 on a truth, and on an affirmation by another; and a code that is no rule.
abbrev pub refused : List Sample
refused =
    sample 0 (1 ∷ []) (is_true 0) (Refused 12)
    ∷ sample 4097 (1 ∷ []) (affirmed 4) (Refused 11)
    ∷ sample 8193 (1 ∷ []) (is_true 2) (Refused 11)
    ∷ sample 12290 (1 ∷ []) (is_true 5) (Refused 12)
    ∷ sample 16385 (2 ∷ []) (is_true 5) (Refused 12)
    ∷ sample 20481 (1 ∷ []) (is_true 3) (Refused 11)
    ∷ sample 24579 (4 ∷ []) (is_true 5) (Refused 12)
    ∷ sample 28673 (1 ∷ []) (is_true 4) (Refused 11)
    ∷ sample 32769 (1 ∷ []) (is_true 4) (Refused 11)
    ∷ sample 36868 (3 ∷ []) (is_true 5) (Refused 12)
    ∷ sample 40961 (1 ∷ []) (is_true 5) (Refused 11)
    ∷ sample 45061 (4 ∷ []) (affirmed 0) (Refused 12)
    ∷ sample 0 (0 ∷ []) (is_true 1) (Refused 13)
    ∷ sample 4096 [] (is_true 4) (Refused 13)
    ∷ sample 8192 [] (is_true 3) (Refused 13)
    ∷ sample 12291 (3 ∷ []) (is_true 5) (Refused 13)
    ∷ sample 16384 (0 ∷ []) (is_true 5) (Refused 13)
    ∷ sample 20480 [] (is_true 4) (Refused 13)
    ∷ sample 24580 (4 ∷ []) (is_true 5) (Refused 13)
    ∷ sample 28672 [] (is_true 3) (Refused 13)
    ∷ sample 32768 [] (is_true 3) (Refused 13)
    ∷ sample 36867 (3 ∷ []) (is_true 5) (Refused 13)
    ∷ sample 40960 [] (is_true 4) (Refused 13)
    ∷ sample 45060 (4 ∷ []) (affirmed 0) (Refused 13)
    ∷ sample 0 (0 ∷ []) (affirmed 0) (Refused 13)
    ∷ sample 8192 [] (affirmed 2) (Refused 13)
    ∷ sample 20480 [] (affirmed 3) (Refused 13)
    ∷ sample 28672 [] (affirmed 4) (Refused 13)
    ∷ sample 32768 [] (affirmed 4) (Refused 13)
    ∷ sample 40960 [] (affirmed 5) (Refused 13)
    ∷ sample 45061 (5 ∷ []) (is_true 5) (Refused 14)
    ∷ sample 45061 (5 ∷ []) (Affirms (principal 4) (formula 0)) (Refused 14)
    ∷ sample 49152 (0 ∷ []) (is_true 0) (Refused 11)
    ∷ []

-- the machine opens so
abbrev pub Hold : List Sample → Type 0
Hold samples =
    map (λ r. step unlike r.word (record { hypotheses = r.hypotheses; goal = r.goal; depth = 1 })) samples
    ≡ map (λ r. r.opened) samples

abbrev pub OpensOfEach : Type 0
OpensOfEach = Hold taken

abbrev pub RefusesOfEach : Type 0
RefusesOfEach = Hold refused

-- ---- derivations

-- what the six entries spell
abbrev pub p0 : Proposition
p0 = atom 9

abbrev pub p1 : Proposition
p1 = false

abbrev pub p2 : Proposition
p2 = p0 implies p1

abbrev pub p3 : Proposition
p3 = p1 and p2

abbrev pub p4 : Proposition
p4 = p2 or p0

abbrev pub p5 : Proposition
p5 = 7 says p4

-- these are the words of a derivation of γ from Γ
pub record HasWords (Γ : List Proposition) (γ : Judgment) (ws : List ℕ) : Type 0 where
  pub derivation : Derivation Γ γ
  pub words_are : words (number unlike) derivation ≡ ws

-- In the order of the codes. A premise's words say which it is: 8192 is implies right, 16385 false left, 32768 0 a
-- proof of p4 from p0.
pub record WordsOfEach : Type 0 where
  pub init : HasWords (p0 ∷ []) (truth p0) (0 ∷ [])
  pub affirm : HasWords (p0 ∷ []) (7 affirms p0) (4096 ∷ 0 ∷ [])
  pub implies_right : HasWords [] (truth (p0 implies p4)) (8192 ∷ 32768 ∷ 0 ∷ [])
  pub implies_left : HasWords (p2 ∷ p0 ∷ []) (truth p5) (12290 ∷ 0 ∷ 16385 ∷ [])
  pub false_left : HasWords (p1 ∷ []) (truth p5) (16385 ∷ [])
  pub and_right : HasWords (p1 ∷ []) (truth p3) (20480 ∷ 16385 ∷ 8192 ∷ 16385 ∷ [])
  pub and_left_first : HasWords (p3 ∷ []) (truth p5) (24579 ∷ 16385 ∷ [])
  pub and_left_second : HasWords (p3 ∷ p0 ∷ []) (truth p5) (24579 ∷ 12290 ∷ 0 ∷ 16385 ∷ [])
  pub or_right_first : HasWords (p1 ∷ []) (truth p4) (28672 ∷ 8192 ∷ 16385 ∷ [])
  pub or_right_second : HasWords (p0 ∷ []) (truth p4) (32768 ∷ 0 ∷ [])
  pub or_left : HasWords (p4 ∷ []) (truth p4) (36868 ∷ 28672 ∷ 8192 ∷ 12290 ∷ 0 ∷ 16385 ∷ 32768 ∷ 0 ∷ [])
  pub says_right : HasWords (p0 ∷ []) (truth p5) (40960 ∷ 4096 ∷ 32768 ∷ 0 ∷ [])
  pub says_left :
      HasWords (p5 ∷ []) (7 affirms p4) (45061 ∷ 4096 ∷ 36868 ∷ 28672 ∷ 8192 ∷ 12290 ∷ 0 ∷ 16385 ∷ 32768 ∷ 0 ∷ [])
