-- Each line of a trace by its word (specs/ByWord.antt). Assumes nothing.
use Prim.Native.Nat.{ℕ, zero, suc, ◌+◌, ◌<◌}
use native.Mathlib.Omega.{arith}
use mathlib.Core.Bool.{Bool}
use mathlib.Core.Path.{◌≡◌, refl, ap, ◌∙◌}
use mathlib.Core.Option.{some}
use mathlib.Core.List.{List, [], ◌∷◌, ◌++◌, map}
use lib.ListN.{length, get_or, get_elem?, take}
use Rattle.table.specs.declared.entry.Entry.{Entry}
use Rattle.steps.specs.declared.opened.Premise.{Premise}
use Rattle.steps.specs.Verdict.{Closed}
use Rattle.steps.specs.Obligation.{Obligation, under}
use Rattle.steps.specs.Step.{step}
use Rattle.steps.specs.Run.{walk}
use Rattle.steps.specs.Stops.{LeftToProve}
use Rattle.steps.specs.Trace.{Line, line_of, trace}
use Rattle.steps.specs.ByWord.{LinesByWord}
use Rattle.steps.proofs.Steps.{step_opens}
use Rattle.steps.proofs.Closed.{walk_closed, run_closed}
use Rattle.steps.proofs.Parts.{after_opens}

module _ (speaks : ℕ → ℕ → Bool) (limit : ℕ) (es : List Entry) where
  -- what the words before i leave, and line i
  abbrev ByWord : List ℕ → List Obligation → ℕ → Type 0
  ByWord ws os i =
      (o : Obligation) × (rest : List Obligation)
      × LeftToProve speaks limit es (take i ws) os (o ∷ rest)
      × (get_elem? (trace speaks limit es ws os) i ≡ some (line_of speaks es (get_or ws i 0) o))

  -- A walk that closes after all its words has the line of each.
  by_word : (ws : List ℕ) (p q : ℕ) (os : List Obligation) → walk speaks limit es ws p os ≡ Closed q → q ≡ p + length ws
      → (i : ℕ) → i < length ws → ByWord ws os i
  unfolding walk trace
  by_word [] p q os e all i l = absurd (omega arith)
  by_word (w ∷ ws) p q [] e all i l = let f : p ≡ q = cc in absurd (omega arith)
  by_word (w ∷ ws) p q (o ∷ os) e all zero l = (o, os, refl, refl)
  by_word (w ∷ ws) p q (o ∷ os) e all (suc i) l =
      let (ps, takes, closes) = walk_closed speaks limit es w ws p q o os e in
      let (next, rest, left, is) = by_word ws (suc p) q (map (under o) ps ++ os) closes (omega arith) i (omega arith) in
      let lines : List Premise → List Line = λ ps. trace speaks limit es ws (map (under o) ps ++ os) in
      let opens = (step_opens speaks limit es w o ps).1 takes in
      let on = after_opens (step speaks es limit w o) ps (λ number. []) lines opens in
      (next, rest, (ps, (takes, left)), ap (λ (ls : List Line). get_elem? ls i) on ∙ is)

pub lines_by_word : (speaks : ℕ → ℕ → Bool) → LinesByWord speaks
lines_by_word speaks limit es os ws e i l =
    by_word speaks limit es ws 0 (length ws) os (run_closed speaks limit es os ws e) (omega arith) i l
