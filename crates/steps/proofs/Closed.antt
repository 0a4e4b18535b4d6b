-- A closed verdict: no step was refused, and no word was left over. Assumes nothing.
use Prim.Native.Nat.{ℕ, suc}
use native.Mathlib.Omega.{arith}
use mathlib.Core.Bool.{Bool}
use mathlib.Core.Path.{◌≡◌, ap, sym, ◌∙◌}
use mathlib.Core.List.{List, [], ◌∷◌, ◌++◌, map}
use lib.ListN.{length}
use lib.Dec.{eqb}
use borrow.Author.Tests.{eqb-true}
use Rattle.std.specs.Prelude.{Err}
use Rattle.basics.proofs.Choice.{pick_cases}
use Rattle.table.specs.declared.entry.Entry.{Entry}
use Rattle.steps.specs.declared.opened.Premise.{Premise}
use Rattle.steps.specs.declared.opened.Opened as O
use Rattle.steps.specs.declared.opened.Opened.TheVariants as Opening
use Rattle.steps.specs.Verdict.{WalkVerdict, Closed, Refused}
use Rattle.steps.specs.Obligation.{Obligation, under}
use Rattle.steps.specs.Applies.{Takes}
use Rattle.steps.specs.Step.{step}
use Rattle.steps.specs.Run.{after, all_used, walk, run}
use Rattle.steps.specs.Runs.{Closes, ClosedUsesAll}
use Rattle.steps.proofs.Cases.{OfPremises}
use Rattle.steps.proofs.Steps.{step_takes}

-- Closed is not refused.
pub refused_not_closed : {number p q : ℕ} → Refused number p ≡ Closed q → ⊥
refused_not_closed e = let z : ◌≡◌ {A = ℕ} 0 1 = cc in omega arith

-- what follows a step that was not refused
after_closed : (P : List Premise → Type 0) (x : O.Opened) (p q : ℕ) (next : List Premise → WalkVerdict)
    → OfPremises P x → after x (λ number. Refused number p) next ≡ Closed q → (ps : List Premise) × P ps × (next ps ≡ Closed q)
after_closed P (Opening.Refused number) p q next h e = absurd (refused_not_closed e)
after_closed P Opening.Closed p q next h e = ([], h, e)
after_closed P (Opening.One a) p q next h e = (a ∷ [], h, e)
after_closed P (Opening.Two a b) p q next h e = (a ∷ b ∷ [], h, e)

-- all of n words were used
all_used_closed : (n q : ℕ) (v : WalkVerdict) → all_used n v ≡ Closed q → (v ≡ Closed n) × (q ≡ n)
all_used_closed n q (Closed p) =
    pick_cases (λ v. v ≡ Closed q → (Closed p ≡ Closed n) × (q ≡ n)) (eqb p n)
    (λ t e. let f : p ≡ q = cc in (ap Closed (eqb-true p n t), sym f ∙ eqb-true p n t))
    (λ t e. absurd (refused_not_closed e))
all_used_closed n q (Err r) = λ e. absurd (refused_not_closed e)

module _ (speaks : ℕ → ℕ → Bool) (limit : ℕ) (es : List Entry) where
  -- A walk that closes takes its first obligation to premises, and closes with them in its place.
  pub walk_closed : (w : ℕ) (ws : List ℕ) (p q : ℕ) (o : Obligation) (os : List Obligation)
      → walk speaks limit es (w ∷ ws) p (o ∷ os) ≡ Closed q
      → (ps : List Premise) × Takes speaks es limit w o ps × (walk speaks limit es ws (suc p) (map (under o) ps ++ os) ≡ Closed q)
  unfolding walk
  walk_closed w ws p q o os = after_closed _ (step speaks es limit w o) p q _ (step_takes speaks limit es w o)

  -- A run that closes is a walk that closes at the end of the words.
  pub run_closed : (os : List Obligation) (ws : List ℕ)
      → Closes speaks limit es os ws → walk speaks limit es ws 0 os ≡ Closed (length ws)
  unfolding run
  run_closed os ws e = (all_used_closed (length ws) (length ws) (walk speaks limit es ws 0 os) e).0

pub closed_uses_all : (speaks : ℕ → ℕ → Bool) → ClosedUsesAll speaks
unfolding run
closed_uses_all speaks limit es os ws q e = (all_used_closed (length ws) q (walk speaks limit es ws 0 os) e).1
