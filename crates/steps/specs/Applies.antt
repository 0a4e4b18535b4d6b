-- 01's table of rules as a relation: the rule of a code applies, with a part, to a goal, and has these premises, in
-- order. Above each rule stands its row: code, name, goal below, named hypothesis, premises in order. `entry_at es`
-- gives the entry of a number, hs are the hypotheses, and n is the part. It knows nothing of the machine; that a step
-- opens exactly these premises is `StepOpens` (Steps.antt). Assumes nothing.
--
-- `speaks` compares principals: 01 has "the same K" (Figure1.antt).
use Rattle.std.specs.Prelude.{ℕ, ◌≤◌, ◌<◌, Bool, true, ◌≡◌, List, [], ◌∷◌, length}
use Rattle.basics.specs.Membership.{◌∈◌}
use Rattle.basics.specs.Word.{upper, lower}
use Rattle.table.specs.declared.entry.Atom as A
use Rattle.table.specs.declared.entry.Formula.{Formula}
use Rattle.table.specs.declared.entry.Principal.{Principal}
use Rattle.table.specs.declared.entry.Entry.{Entry}
use Rattle.table.specs.declared.entry.Entry.TheVariants.{Atom, False, Implies, And, Or, Says}
use Rattle.table.specs.Tests.{entry_at}
use Rattle.steps.specs.declared.goal.Goal.{Goal}
use Rattle.steps.specs.declared.goal.Goal.TheVariants.{True, Affirms}
use Rattle.steps.specs.declared.opened.Premise.{Premise}
use Rattle.steps.specs.Obligation.{Obligation, alone, adding, adding_both}

-- n names a hypothesis; "a number of F or more never is" one
pub record Named (es : List Entry) (hs : List ℕ) (n : ℕ) : Type 0 where
  pub in_table : n < length es
  pub is_held : n ∈ hs

module _ (speaks : ℕ → ℕ → Bool) (es : List Entry) (hs : List ℕ) where
  pub data Applies : ℕ → ℕ → Goal → List Premise → Type 0 where
    -- 0 | init | an atom's truth | that atom | none
    init : {f : Formula} {a : A.Atom}
        → Named es hs f.0 → entry_at es f.0 ≡ Atom a → Applies 0 f.0 (True f) []
    -- 1 | affirm | K affirms A | none | A is true
    affirm : {k : Principal} {a : Formula}
        → Applies 1 0 (Affirms k a) (alone (True a) ∷ [])
    -- 2 | implies right | A implies B | none | B, with A added
    implies_right : {f a b : Formula}
        → entry_at es f.0 ≡ Implies a b → Applies 2 0 (True f) (adding (True b) a ∷ [])
    -- 3 | implies left | any | A implies B | A is true; the goal, with B added
    implies_left : {n : ℕ} {g : Goal} {a b : Formula}
        → Named es hs n → entry_at es n ≡ Implies a b → Applies 3 n g (alone (True a) ∷ adding g b ∷ [])
    -- 4 | false left | any | false | none
    false_left : {n : ℕ} {g : Goal}
        → Named es hs n → entry_at es n ≡ False → Applies 4 n g []
    -- 5 | and right | A and B | none | A; B
    and_right : {f a b : Formula}
        → entry_at es f.0 ≡ And a b → Applies 5 0 (True f) (alone (True a) ∷ alone (True b) ∷ [])
    -- 6 | and left | any | A and B | the goal, with A and B added
    and_left : {n : ℕ} {g : Goal} {a b : Formula}
        → Named es hs n → entry_at es n ≡ And a b → Applies 6 n g (adding_both g a b ∷ [])
    -- 7 | or right first | A or B | none | A
    or_right_first : {f a b : Formula}
        → entry_at es f.0 ≡ Or a b → Applies 7 0 (True f) (alone (True a) ∷ [])
    -- 8 | or right second | A or B | none | B
    or_right_second : {f a b : Formula}
        → entry_at es f.0 ≡ Or a b → Applies 8 0 (True f) (alone (True b) ∷ [])
    -- 9 | or left | any | A or B | the goal with A added; the goal with B added
    or_left : {n : ℕ} {g : Goal} {a b : Formula}
        → Named es hs n → entry_at es n ≡ Or a b → Applies 9 n g (adding g a ∷ adding g b ∷ [])
    -- 10 | says right | K says A | none | K affirms A
    says_right : {f a : Formula} {k : Principal}
        → entry_at es f.0 ≡ Says k a → Applies 10 0 (True f) (alone (Affirms k a) ∷ [])
    -- 11 | says left | K affirms C | K says A, the same K | the same goal, with A added
    says_left : {n : ℕ} {k l : Principal} {a c : Formula}
        → Named es hs n → entry_at es n ≡ Says k a → speaks k.0 l.0 ≡ true
        → Applies 11 n (Affirms l c) (adding (Affirms l c) a ∷ [])

-- The word w takes o to these premises: o is no deeper than the limit, and the rule of w's code applies with w's part.
-- "A step word is code × 4,096 + the named formula's number; where the rule names none that part is 0." (01)
pub record Takes (speaks : ℕ → ℕ → Bool) (es : List Entry) (limit w : ℕ) (o : Obligation) (ps : List Premise) : Type 0 where
  pub fits : o.depth ≤ limit
  pub applies : Applies speaks es o.hypotheses (upper w) (lower w) o.goal ps
