-- The trace: a line for each word of a run that closes, and on the words of derivations the lines of these derivations
-- (specs/Trace.antt). The latter comes with completeness: Uses.antt carries the lines along with the words. Assumes
-- nothing.
use Prim.Native.Nat.{ℕ, suc, ◌+◌}
use native.Mathlib.Omega.{arith}
use mathlib.Core.Bool.{Bool}
use mathlib.Core.Path.{◌≡◌}
use mathlib.Core.List.{List, [], ◌∷◌, ◌++◌, map}
use lib.ListN.{length}
use Rattle.logic.specs.Principals.{Relation, Decides}
use Rattle.table.specs.declared.entry.Entry.{Entry}
use Rattle.steps.specs.declared.opened.Premise.{Premise}
use Rattle.steps.specs.declared.opened.Opened as O
use Rattle.steps.specs.declared.opened.Opened.TheVariants as Opening
use Rattle.steps.specs.Verdict.{WalkVerdict, Closed, Refused}
use Rattle.steps.specs.Obligation.{Obligation, under}
use Rattle.steps.specs.Step.{step}
use Rattle.steps.specs.Run.{after, walk}
use Rattle.steps.specs.Trace.{Line, trace, LinePerWord, TraceIsDerivations}
use Rattle.steps.proofs.Closed.{refused_not_closed, run_closed}
use Rattle.steps.proofs.Uses.{traced}
use Rattle.steps.proofs.Complete.{carried}

-- Where the walk closes after a step, the lines count as they do with its premises.
after_counted : (x : O.Opened) (p q n : ℕ) (next : List Premise → WalkVerdict) (ls : List Premise → List Line)
    → ((ps : List Premise) → next ps ≡ Closed q → n + length (ls ps) ≡ q) → after x (λ number. Refused number p) next ≡ Closed q → n + length (after x (λ number. []) ls) ≡ q
after_counted (Opening.Refused number) p q n next ls h e = absurd (refused_not_closed e)
after_counted Opening.Closed p q n next ls h e = h _ e
after_counted (Opening.One a) p q n next ls h e = h _ e
after_counted (Opening.Two a b) p q n next ls h e = h _ e

module _ (speaks : ℕ → ℕ → Bool) (limit : ℕ) (es : List Entry) where
  -- A walk that closes at q has a line for each word that it uses.
  pub walk_counted : (ws : List ℕ) (p q : ℕ) (os : List Obligation)
      → walk speaks limit es ws p os ≡ Closed q → p + length (trace speaks limit es ws os) ≡ q
  unfolding walk trace
  walk_counted [] p q [] e = let f : p ≡ q = cc in omega arith
  walk_counted [] p q (o ∷ os) e = absurd (refused_not_closed e)
  walk_counted (w ∷ ws) p q [] e = let f : p ≡ q = cc in omega arith
  walk_counted (w ∷ ws) p q (o ∷ os) e =
      let ls : List Premise → List Line = λ ps. trace speaks limit es ws (map (under o) ps ++ os) in
      let counted = after_counted (step speaks es limit w o) p q (suc p) _ ls (λ ps. walk_counted ws (suc p) q (map (under o) ps ++ os)) e in
      omega arith

pub line_per_word : (speaks : ℕ → ℕ → Bool) → LinePerWord speaks
line_per_word speaks limit es os ws e =
    let counted = walk_counted speaks limit es ws 0 (length ws) os (run_closed speaks limit es os ws e) in omega arith

pub trace_is_derivations : (speaks : ℕ → ℕ → Bool) (R : Relation) → Decides speaks R → TraceIsDerivations speaks R
trace_is_derivations speaks R decides limit es few ordered distinct os inside ws c =
    traced (carried speaks R decides limit record { few = few; ordered = ordered; distinct = distinct } os inside ws c)
