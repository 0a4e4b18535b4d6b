-- Why a step is refused: 10 to 14, a case for each clause of 01's list, over entries, goals and hypotheses. It knows
-- nothing of the machine; that a step is refused by exactly the first of these is `StepRefused` (Steps.antt). Assumes
-- nothing.
use Rattle.std.specs.Prelude.{ℕ, ◌≤◌, ◌<◌, Bool, true, ◌≡◌, List, [], ◌∷◌, map, length, get_or}
use Rattle.std.proofs.Math.Option.{Option, none, some}
use Rattle.basics.specs.Membership.{◌∈◌}
use Rattle.basics.specs.Order.{FirstReason, checking_order}
use Rattle.basics.specs.Word.{upper, lower}
use Rattle.table.specs.declared.entry.Formula.{Formula}
use Rattle.table.specs.declared.entry.Principal.{Principal}
use Rattle.table.specs.declared.entry.Entry.{Entry}
use Rattle.table.specs.declared.entry.Entry.TheVariants.{Atom, False, Implies, And, Or, Says, IllFormed}
use Rattle.table.specs.Tests.{entry_at}
use Rattle.steps.specs.declared.goal.Goal.{Goal}
use Rattle.steps.specs.declared.goal.Goal.TheVariants.{True, Affirms}
use Rattle.steps.specs.Obligation.{Obligation}

-- ---- what 01's table asks of a step: the columns "goal below" and "named hypothesis"

-- the kinds, in 01's order; an ill-formed entry has none
pub data Kind : Type 0 where
  atom : Kind
  false : Kind
  implies : Kind
  and : Kind
  or : Kind
  says : Kind

abbrev pub kind_of : Entry → Option Kind
kind_of (Atom a) = some atom
kind_of False = some false
kind_of (Implies f g) = some implies
kind_of (And f g) = some and
kind_of (Or f g) = some or
kind_of (Says k f) = some says
kind_of IllFormed = none

-- the goal below: any, the truth of a formula of this kind, or an affirmation
pub data Below : Type 0 where
  any : Below
  truth_of : Kind → Below
  affirmation : Below

pub record Row : Type 0 where
  pub below : Below
  pub named : Option Kind

abbrev pub row : Below → Option Kind → Row
row b k = record { below = b; named = k }

-- In the order of the codes: init, affirm, implies right, implies left, false left, and right, and left, or right
-- first, or right second, or left, says right, says left ("code 11's goal excepted": it is 14's to test).
abbrev pub rows : List Row
rows =
    row (truth_of atom) (some atom)
    ∷ row affirmation none
    ∷ row (truth_of implies) none
    ∷ row any (some implies)
    ∷ row any (some false)
    ∷ row (truth_of and) none
    ∷ row any (some and)
    ∷ row (truth_of or) none
    ∷ row (truth_of or) none
    ∷ row any (some or)
    ∷ row (truth_of says) none
    ∷ row any (some says)
    ∷ []

-- the row of a code; a code of 12 or more has none
abbrev pub row_of : ℕ → Option Row
row_of code = get_or (map some rows) code none

-- the goal is what the rule needs
abbrev pub GoalFits : List Entry → Below → Goal → Type 0
GoalFits es any g = Unit
GoalFits es (truth_of kind) (True f) = kind_of (entry_at es f.0) ≡ some kind
GoalFits es (truth_of kind) (Affirms k f) = ⊥
GoalFits es affirmation (True f) = ⊥
GoalFits es affirmation (Affirms k f) = Unit

-- the goal is "an affirmation by K", or by one whom K speaks for (`speaks`, as in Applies.antt)
abbrev pub AffirmedBy : (ℕ → ℕ → Bool) → Principal → Goal → Type 0
AffirmedBy speaks k (True f) = ⊥
AffirmedBy speaks k (Affirms l f) = speaks k.0 l.0 ≡ true

-- ---- 10 to 14

-- A reason to refuse a step of this code and part, where this goal is to be proved from these hypotheses at this
-- depth.
module _ (speaks : ℕ → ℕ → Bool) (es : List Entry) (limit depth : ℕ) (hs : List ℕ) (code part : ℕ) (goal : Goal) where
  pub data StepReason (number : ℕ) : Type 0 where
    -- "10. The step's depth is above 512": above the limit given
    too_deep : number ≡ 10 → limit < depth → StepReason number
    -- "11. The code is 12 or more,
    no_rule : number ≡ 11 → 12 ≤ code → StepReason number
    -- or a rule that names nothing has a part other than 0."
    needless_part : {r : Row} → number ≡ 11 → row_of code ≡ some r → r.named ≡ none → ¬ (part ≡ 0) → StepReason number
    -- "12. The named formula isn't a hypothesis here;
    not_held :
        {r : Row} {k : Kind} → number ≡ 12 → row_of code ≡ some r → r.named ≡ some k → ¬ (part ∈ hs) → StepReason number
    -- a number of F or more never is."
    outside :
        {r : Row} {k : Kind} → number ≡ 12 → row_of code ≡ some r → r.named ≡ some k → length es ≤ part
        → StepReason number
    -- "13. The goal isn't what the rule needs (code 11's goal excepted),
    other_goal :
        {r : Row} → number ≡ 13 → row_of code ≡ some r → ¬ GoalFits es r.below goal → StepReason number
    -- the named formula isn't of the kind the rule needs,
    other_kind :
        {r : Row} {k : Kind} → number ≡ 13 → row_of code ≡ some r → r.named ≡ some k
        → ¬ (kind_of (entry_at es part) ≡ some k) → StepReason number
    -- or code 0 names another atom than the goal's." (5 sees to it that another number is another atom.)
    other_atom : {f : Formula} → number ≡ 13 → code ≡ 0 → goal ≡ True f → ¬ (part ≡ f.0) → StepReason number
    -- "14. Code 11 names a says-formula of K and the goal isn't an affirmation by K."
    not_served :
        {k : Principal} {a : Formula} → number ≡ 14 → code ≡ 11 → entry_at es part ≡ Says k a
        → ¬ AffirmedBy speaks k goal → StepReason number

module _ (speaks : ℕ → ℕ → Bool) (limit : ℕ) (es : List Entry) where
  -- a reason to refuse the word w where o is to be proved
  abbrev pub ReasonAt : ℕ → Obligation → ℕ → Type 0
  ReasonAt w o number = StepReason speaks es limit o.depth o.hypotheses (upper w) (lower w) o.goal number

  -- "Tests 9 to 14 run in this order at each step": the first that applies. (All of a step's reasons are at its place.)
  abbrev pub FirstAt : ℕ → Obligation → ℕ → Type 0
  FirstAt w o number = FirstReason checking_order (λ n place. ReasonAt w o n) number 0
