-- What a text tells (specs/Told.antt): the reader of Read.antt goes on with a goal, a rule's name, a line. Assumes
-- nothing.
use Prim.Native.Nat.{ℕ, zero, suc, ◌+◌, ◌<◌, ◌≤◌, max}
use native.Mathlib.Omega.{arith}
use mathlib.Core.Path.{◌≡◌, refl, sym, subst, ap, ap₂, ◌∙◌}
use mathlib.Core.Option.{Option, none, some}
use mathlib.Core.List.Memᴰ
use mathlib.Core.List.{List, [], ◌∷◌, ◌++◌, append_assoc, append-nil, map}
use lib.ListN.{length, drop, length-append}
use lib.Dec.{eqb}
use Rattle.basics.specs.Choice.{pick}
use Rattle.text.specs.Ascii.{ascii}
use Rattle.text.specs.Decimal.{decimal}
use Rattle.logic.specs.Proposition.{Proposition, atom, false as falsum, ◌implies◌, ◌and◌, ◌or◌, ◌says◌}
use Rattle.logic.specs.Judgment.{Judgment, truth, ◌affirms◌}
use Rattle.steps.specs.Trace.{Line, line}
use Rattle.sentences.specs.Formula.{principal_text, proposition_text, goal_text}
use Rattle.sentences.specs.Sentences.{rule_names, rule_name, named_text, line_text, sentences_from}
use Rattle.sentences.specs.Told.{PropositionTold, GoalTold, RuleTold, Known, SentencesTold}
use Rattle.sentences.proofs.Read.{Read, first, read_number, read_decimal, read_proposition, height, not_principal, read_proposition_lem}

-- What a reader gives back is the same for two texts that are the same, so what they were made of is.
parts : {A : Type 0} {a b : A} {x y : List ℕ} → ◌≡◌ {A = A × List ℕ} (a, x) (b, y) → (a ≡ b) × (x ≡ y)
parts e = (ap (λ p. p.0) e, ap (λ p. p.1) e)

-- ---- a proposition

pub proposition_told : PropositionTold
proposition_told A B e =
    let k = max (height A) (height B) in
    let read : (C : Proposition) → height C ≤ k → read_proposition k (proposition_text C) ≡ (C, [])
    = λ C l. ap (read_proposition k) (sym (append-nil (proposition_text C))) ∙ read_proposition_lem k C [] l tt in
    (parts (sym (read A (omega arith)) ∙ ap (read_proposition k) e ∙ read B (omega arith))).0

-- ---- a goal, and the line's end

-- p begins an affirmation; " affirms " has nine bytes
read_goal : ℕ → List ℕ → Read Judgment
read_goal k bs =
    pick (eqb (first bs) 112) (
      (read_number 0 (drop 1 bs)).0 affirms (read_proposition k (drop 9 (read_number 0 (drop 1 bs)).1)).0,
      drop 1 (read_proposition k (drop 9 (read_number 0 (drop 1 bs)).1)).1,
    )
    (truth (read_proposition k bs).0, drop 1 (read_proposition k bs).1)

abbrev goal_height : Judgment → ℕ
goal_height (truth A) = height A
goal_height (K affirms A) = height A

read_goal_lem : (k : ℕ) (γ : Judgment) (rest : List ℕ) → goal_height γ ≤ k → read_goal k (goal_text γ ++ (10 ∷ rest))
    ≡ (γ, rest)
unfolding read_goal goal_text ascii
read_goal_lem k (truth A) rest l = rw (not_principal A (10 ∷ rest), read_proposition_lem k A (10 ∷ rest) l refl) refl
read_goal_lem k (K affirms A) rest l =
    ap (read_goal k) (append_assoc (principal_text K) (ascii " affirms " ++ proposition_text A) (10 ∷ rest))
    ∙ rw (
      read_decimal K (ascii " affirms " ++ (proposition_text A ++ (10 ∷ rest))) refl,
      read_proposition_lem k A (10 ∷ rest) l refl,
    ) refl

pub goal_told : GoalTold
goal_told γ δ e =
    let k = max (goal_height γ) (goal_height δ) in
    (parts
    (sym (read_goal_lem k γ [] (omega arith)) ∙ ap (λ (t : List ℕ). read_goal k (t ++ (10 ∷ []))) e
    ∙ read_goal_lem k δ [] (omega arith))).0

-- ---- a rule's name

-- what follows a name, where the bytes begin with it
strip : List ℕ → List ℕ → Option (List ℕ)
strip [] bs = some bs
strip (c ∷ cs) [] = none
strip (c ∷ cs) (b ∷ bs) = pick (eqb c b) (strip cs bs) none

abbrev found_or : ℕ → Option (List ℕ) → Read ℕ → Read ℕ
found_or c none next = next
found_or c (some rest) next = (c, rest)

-- the first of the names that the bytes begin with: none is the beginning of another
read_name : ℕ → List (List ℕ) → List ℕ → Read ℕ
read_name c [] bs = (c, bs)
read_name c (name ∷ names) bs = found_or c (strip name bs) (read_name (suc c) names bs)

abbrev read_rule : List ℕ → Read ℕ
read_rule bs = read_name 0 (map ascii rule_names) bs

abbrev RuleRead : ℕ → Type 0
RuleRead c = (rest : List ℕ) → read_rule (rule_name c ++ rest) ≡ (c, rest)

-- P holds of the n numbers from k on
abbrev Each : (ℕ → Type 0) → ℕ → ℕ → Type 0
Each P k zero = Unit {0}
Each P k (suc n) = P k × Each P (suc k) n

of_each : (P : ℕ → Type 0) (k n : ℕ) → Each P k n → (c : ℕ) → c < n → P (c + k)
of_each P k zero h c l = absurd (omega arith)
of_each P k (suc n) h zero l = subst P (omega arith) h.0
of_each P k (suc n) h (suc c) l = subst P (omega arith) (of_each P (suc k) n h.1 c (omega arith))

each_rule : Each RuleRead 0 12
unfolding rule_name strip read_name ascii
each_rule = (
  λ rest. refl,
  (
    λ rest. refl,
    (
      λ rest. refl,
      (
        λ rest. refl,
        (
          λ rest. refl,
          (
            λ rest. refl,
            (λ rest. refl, (λ rest. refl, (λ rest. refl, (λ rest. refl, (λ rest. refl, (λ rest. refl, tt)))))),
          ),
        ),
      ),
    ),
  ),
)

read_rule_lem : (c : ℕ) → c < 12 → RuleRead c
read_rule_lem c l = subst RuleRead (omega arith) (of_each RuleRead 0 12 each_rule c l)

pub rule_told : RuleTold
rule_told c d lc ld e =
    (parts (sym (read_rule_lem c lc []) ∙ ap (λ (t : List ℕ). read_rule (t ++ [])) e ∙ read_rule_lem d ld [])).0

-- ---- the named formula and the word for

abbrev named_or : Option (List ℕ) → Read Proposition → Read (Option Proposition)
named_or (some rest) r = (none, rest)
named_or none r = (some r.0, drop 5 r.1)

read_named : ℕ → List ℕ → Read (Option Proposition)
read_named k bs = named_or (strip (ascii " for ") bs) (read_proposition k (drop 1 bs))

-- No text of a proposition begins as " for " does: f(alse) has another second byte.
not_for : (A : Proposition) (rest : List ℕ) → strip (ascii " for ") (32 ∷ (proposition_text A ++ rest)) ≡ none
unfolding proposition_text strip ascii
not_for (atom a) rest = refl
not_for falsum rest = refl
not_for (A implies B) rest = refl
not_for (A and B) rest = refl
not_for (A or B) rest = refl
not_for (K says A) rest = refl

abbrev named_height : Option Proposition → ℕ
named_height none = 0
named_height (some A) = height A

read_named_lem : (k : ℕ) (n : Option Proposition) (rest : List ℕ) → named_height n ≤ k
    → read_named k (named_text n ++ (ascii " for " ++ rest)) ≡ (n, rest)
unfolding read_named named_text strip ascii
read_named_lem k none rest l = refl
read_named_lem k (some A) rest l =
    rw (not_for A (ascii " for " ++ rest), read_proposition_lem k A (ascii " for " ++ rest) l refl) refl

-- ---- a line

abbrev rule_of : List ℕ → Read ℕ
rule_of bs = read_rule (drop 1 (read_number 0 bs).1)

abbrev named_of : ℕ → List ℕ → Read (Option Proposition)
named_of k bs = read_named k (rule_of bs).1

abbrev goal_of : ℕ → List ℕ → Read Judgment
goal_of k bs = read_goal k (named_of k bs).1

read_line : ℕ → List ℕ → Read Line
read_line k bs = (line (rule_of bs).0 (named_of k bs).0 (goal_of k bs).0, (goal_of k bs).1)

line_parts : (i : ℕ) (l : Line) (rest : List ℕ)
    → line_text i l ++ rest
    ≡ decimal i ++ (32 ∷ (rule_name
    l.code ++ (named_text l.named ++ (ascii " for " ++ (goal_text l.goal ++ (10 ∷ rest))))))
unfolding line_text ascii
line_parts i l rest = simp append_assoc

abbrev line_height : Line → ℕ
line_height l = max (named_height l.named) (goal_height l.goal)

read_line_lem : (k i : ℕ) (l : Line) (rest : List ℕ) → l.code < 12 → line_height l ≤ k → read_line k (line_text i l ++ rest)
    ≡ (l, rest)
unfolding read_line ascii
read_line_lem k i l rest c h =
    ap (read_line k) (line_parts i l rest)
    ∙ rw (
      read_decimal i
          (32 ∷ (rule_name
          l.code ++ (named_text l.named ++ (ascii " for " ++ (goal_text l.goal ++ (10 ∷ rest)))))) refl,
      read_rule_lem l.code c (named_text l.named ++ (ascii " for " ++ (goal_text l.goal ++ (10 ∷ rest)))),
      read_named_lem k l.named (goal_text l.goal ++ (10 ∷ rest)) (omega arith),
      read_goal_lem k l.goal rest (omega arith),
    ) refl

line_told : (i : ℕ) (l m : Line) (x y : List ℕ) → l.code < 12 → m.code < 12
    → line_text i l ++ x ≡ line_text i m ++ y → (l ≡ m) × (x ≡ y)
line_told i l m x y c d h =
    let k = max (line_height l) (line_height m) in
    parts (sym (read_line_lem k i l x c (omega arith)) ∙ (ap (read_line k) h ∙ read_line_lem k i m y d (omega arith)))

-- ---- the lines

-- No line is empty.
line_some : (i : ℕ) (l : Line) (rest : List ℕ) → ¬ (line_text i l ++ rest ≡ [])
line_some i l rest h =
    let after = rule_name
    l.code ++ (named_text l.named ++ (ascii " for " ++ (goal_text l.goal ++ (10 ∷ rest)))) in
    let e = ap length (sym (line_parts i l rest) ∙ h) in
    let n = length-append (decimal i) (32 ∷ after) in
    omega (arith, e, n)

told_from : (i : ℕ) (ls ms : List Line) → Known ls → Known ms → sentences_from i ls ≡ sentences_from i ms → ls ≡ ms
unfolding sentences_from
told_from i [] [] c d h = refl
told_from i [] (m ∷ ms) c d h = absurd (line_some i m (sentences_from (suc i) ms) (sym h))
told_from i (l ∷ ls) [] c d h = absurd (line_some i l (sentences_from (suc i) ls) h)
told_from i (l ∷ ls) (m ∷ ms) c d h =
    let (same, rest) =
    line_told i l m (sentences_from (suc i) ls) (sentences_from (suc i) ms) (c l (Memᴰ.head refl))
    (d m (Memᴰ.head refl)) h in
    ap₂ {C = List Line} ◌∷◌ same
    (told_from (suc i) ls ms (λ k j. c k (Memᴰ.tail j)) (λ k j. d k (Memᴰ.tail j)) rest)

pub sentences_told : SentencesTold
sentences_told ls ms c d h = told_from 0 ls ms c d h
