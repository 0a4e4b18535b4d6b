-- An obligation asks for a judgment from hypotheses: all of them propositions that the table has, under their numbers.
-- An obligation in the table asks for what it spells out, and its premises ask for what a rule adds. Assumes nothing.
use Prim.Native.Nat.{ℕ, ◌<◌}
use mathlib.Core.Path.{◌≡◌, refl, sym, ap}
use mathlib.Core.List.Memᴰ
use mathlib.Core.List.{List, [], ◌∷◌, ◌++◌}
use lib.ListN.{length}
use Rattle.basics.specs.Membership.{◌∈◌}
use Rattle.basics.proofs.Membership.{first, second, ⊆_left, ⊆_right, each_of_more}
use Rattle.logic.specs.Proposition.{Proposition}
use Rattle.logic.specs.Judgment.{Judgment, truth, ◌affirms◌}
use Rattle.table.specs.declared.entry.Entry.{Entry}
use Rattle.table.specs.Entry.{formula, principal}
use Rattle.table.specs.Spelled.{spell, spell_all}
use Rattle.table.specs.Number.{number}
use Rattle.steps.specs.declared.goal.Goal.{Goal}
use Rattle.steps.specs.declared.goal.Goal.TheVariants.{True, Affirms}
use Rattle.steps.specs.Obligation.{Obligation, alone, adding, adding_both, under}
use Rattle.steps.specs.Carried.{judgment, goal_formula, InTable}
use Rattle.steps.proofs.Has.{Passed, Has, formula_of, its_number, has}

-- the proposition of a judgment, and its goal
abbrev pub subject : Judgment → Proposition
subject (truth A) = A
subject (K affirms A) = A

abbrev pub goal_of : List Entry → Judgment → Goal
goal_of es (truth A) = True (formula_of es A)
goal_of es (K affirms A) = Affirms (principal K) (formula_of es A)

-- The table has A, and its number is among the hypotheses.
pub record Held (es : List Entry) (hs : List ℕ) (A : Proposition) : Type 0 where
  pub has_it : Has es A
  pub member : number es A ∈ hs

abbrev AllHeld : List Entry → List ℕ → List Proposition → Type 0
AllHeld es hs Γ = (A : Proposition) → A ∈ Γ → Held es hs A

-- o asks for γ from Γ: it holds each of Γ, and its goal is γ's.
pub record Asks (es : List Entry) (o : Obligation) (Γ : List Proposition) (γ : Judgment) : Type 0 where
  pub all_held : AllHeld es o.hypotheses Γ
  pub has_goal : Has es (subject γ)
  pub goal_is : o.goal ≡ goal_of es γ

-- ---- what is spelled out

module _ {es : List Entry} where
  -- The goal of γ spells γ,
  goal_spells : (γ : Judgment) → Has es (subject γ) → judgment es (goal_of es γ) ≡ γ
  goal_spells (truth A) h = ap truth h.spelled
  goal_spells (K affirms A) h = ap (K affirms◌) h.spelled

  -- and so does that of an obligation which asks for γ.
  pub asked : {o : Obligation} {Γ : List Proposition} {γ : Judgment} → Asks es o Γ γ → judgment es o.goal ≡ γ
  asked {γ = γ} q = rw q.goal_is (goal_spells γ q.has_goal)

module _ {es : List Entry} (t : Passed es) where
  -- each hypothesis, and the goal
  spelled_held : (hs : List ℕ) → ((n : ℕ) → n ∈ hs → n < length es) → AllHeld es hs (spell_all es hs)
  spelled_held hs within A m =
      let (n, i, e) = Memᴰ.of_map (spell es) hs m in
      record { has_it = has t (within n i) e; member = rw (its_number t (within n i) e) i }

  spelled_goal : (g : Goal) → goal_formula g < length es → Has es (subject (judgment es g)) × (g ≡ goal_of es (judgment es g))
  spelled_goal (True f) l = (has t l refl, ap (λ n. True (formula n)) (sym (its_number t l refl)))
  spelled_goal (Affirms k f) l = (has t l refl, ap (λ n. Affirms k (formula n)) (sym (its_number t l refl)))

  pub asks_spelled : {o : Obligation} → InTable es o → Asks es o (spell_all es o.hypotheses) (judgment es o.goal)
  asks_spelled {o} i =
      let (h, is) = spelled_goal o.goal i.goal_in in
      record { all_held = spelled_held o.hypotheses i.hypotheses_in; has_goal = h; goal_is = is }

-- ---- premises

module _ {es : List Entry} where
  -- more numbers are held, and one more proposition is asked from
  wider : {hs : List ℕ} {Γ : List Proposition} (ms : List ℕ) → AllHeld es hs Γ → AllHeld es (hs ++ ms) Γ
  wider ms all A m = let h = all A m in record { has_it = h.has_it; member = ⊆_left ms _ h.member }

  more : {hs : List ℕ} {A : Proposition} {Γ : List Proposition} → Has es A → number es A ∈ hs → AllHeld es hs Γ → AllHeld es hs (A ∷ Γ)
  more {hs} a i all = each_of_more (Held es hs) record { has_it = a; member = i } all

  module _ {o : Obligation} {Γ : List Proposition} {γ : Judgment} (q : Asks es o Γ γ) {δ : Judgment} (d : Has es (subject δ)) where
    -- a premise adds nothing, one proposition or two
    pub asks_alone : Asks es (under o (alone (goal_of es δ))) Γ δ
    asks_alone = record { all_held = wider [] q.all_held; has_goal = d; goal_is = refl }

    pub asks_adding : {A : Proposition} → Has es A → Asks es (under o (adding (goal_of es δ) (formula_of es A))) (A ∷ Γ) δ
    asks_adding a = record {
      all_held = more a (⊆_right o.hypotheses _ first) (wider _ q.all_held);
      has_goal = d;
      goal_is = refl;
    }

    pub asks_adding_both : {A B : Proposition} → Has es A → Has es B
        → Asks es (under o (adding_both (goal_of es δ) (formula_of es A) (formula_of es B))) (A ∷ B ∷ Γ) δ
    asks_adding_both a b = record {
      all_held = more a (⊆_right o.hypotheses _ first) (more b (⊆_right o.hypotheses _ second) (wider _ q.all_held));
      has_goal = d;
      goal_is = refl;
    }
