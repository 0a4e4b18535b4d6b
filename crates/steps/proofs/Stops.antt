-- Where the machine stops (specs/Stops.antt). In order: a refusal is a stop; the walk goes on with what the words
-- before a place leave to prove, so a stop is a refusal. Assumes nothing.
use Prim.Native.Nat.{ℕ, suc, ◌+◌, ◌≤◌}
use native.Mathlib.Omega.{arith}
use mathlib.Core.Bool.{Bool}
use mathlib.Core.Path.{◌≡◌, refl, sym, ap, ◌∙◌}
use mathlib.Core.List.{List, [], ◌∷◌, ◌++◌, map}
use lib.ListN.{length, take, drop, take-append-drop}
use lib.Seq.{take-length, length-take-le}
use lib.Dec.{eqb}
use borrow.Author.Tests.{ne_eqb, eqb-false}
use Rattle.basics.proofs.Choice.{pick_cases}
use Rattle.table.specs.declared.entry.Entry.{Entry}
use Rattle.basics.proofs.Refusals.{same_refusal}
use Rattle.steps.specs.declared.opened.Premise.{Premise}
use Rattle.steps.specs.declared.opened.Opened as O
use Rattle.steps.specs.declared.opened.Opened.TheVariants as Opening
use Rattle.steps.specs.Verdict.{WalkVerdict, Closed, Refused}
use Rattle.steps.specs.Obligation.{Obligation, under}
use Rattle.steps.specs.Applies.{Takes}
use Rattle.steps.specs.Step.{step}
use Rattle.steps.specs.Run.{after, all_used, walk, run}
use Rattle.steps.specs.Parts.{walk_from}
use Rattle.steps.specs.Stops.{LeftToProve, Stop, ended, refused, left_over, RefusedWhere}
use Rattle.steps.proofs.Cases.{OfPremises}
use Rattle.steps.proofs.Steps.{step_takes, step_refused, step_opens}
use Rattle.steps.proofs.Closed.{refused_not_closed}
use Rattle.steps.proofs.Parts.{after_opens, refused_at, walk_done, walk_ends, walk_steps}

module _ (speaks : ℕ → ℕ → Bool) (limit : ℕ) (es : List Entry) where
  -- ---- a refusal is a stop

  -- A stop k places on from where a walk began.
  abbrev StopFrom : ℕ → List ℕ → List Obligation → ℕ → ℕ → Type 0
  StopFrom k ws os number q = (p : ℕ) × (q ≡ k + p) × Stop speaks limit es ws os number p

  -- Where a step takes o to premises, a stop of the words after it is a stop with it, one place further on.
  further : (k : ℕ) {w : ℕ} {ws : List ℕ} {o : Obligation} {os : List Obligation} (ps : List Premise) {number q : ℕ} → Takes speaks es limit w o ps
      → StopFrom (suc k) ws (map (under o) ps ++ os) number q → StopFrom k (w ∷ ws) (o ∷ os) number q
  further k ps takes (p, f, ended next rest n e l) = (suc p, omega arith, ended next rest n (omega arith) (ps, (takes, l)))
  further k ps takes (p, f, refused next rest b l r) = (suc p, omega arith, refused next rest (omega arith) (ps, (takes, l)) r)
  further k ps takes (p, f, left_over n b l) = (suc p, omega arith, left_over n (omega arith) (ps, (takes, l)))

  -- what follows a step at k
  after_stops : (w : ℕ) (ws : List ℕ) (k : ℕ) (o : Obligation) (os : List Obligation) (n number q : ℕ) (x : O.Opened) (next : List Premise → WalkVerdict)
      → step speaks es limit w o ≡ x
      → ((ps : List Premise) → all_used n (next ps) ≡ Refused number q → StopFrom (suc k) ws (map (under o) ps ++ os) number q)
      → OfPremises (Takes speaks es limit w o) x
      → all_used n (after x (refused_at k) next) ≡ Refused number q → StopFrom k (w ∷ ws) (o ∷ os) number q
  after_stops w ws k o os n number q (Opening.Refused m) next s h t e =
      let (f, g) = same_refusal e in (0, omega arith, refused o os (omega arith) refl ((step_refused speaks limit es w o number).0 (s ∙ ap Opening.Refused f)))
  after_stops w ws k o os n number q Opening.Closed next s h t e = further k _ t (h _ e)
  after_stops w ws k o os n number q (Opening.One a) next s h t e = further k _ t (h _ e)
  after_stops w ws k o os n number q (Opening.Two a b) next s h t e = further k _ t (h _ e)

  stops : (ws : List ℕ) (k n : ℕ) → n ≡ k + length ws → (os : List Obligation) (number q : ℕ)
      → all_used n (walk speaks limit es ws k os) ≡ Refused number q → StopFrom k ws os number q
  unfolding walk
  stops [] k n l [] number q =
      pick_cases (λ v. v ≡ Refused number q → StopFrom k [] [] number q) (eqb k n)
      (λ t e. absurd (refused_not_closed (sym e)))
      (λ t e. absurd (eqb-false k n t (omega arith)))
  stops [] k n l (o ∷ os) number q = λ e. let (f, g) = same_refusal e in (0, omega arith, ended o os (sym f) (omega arith) refl)
  stops (w ∷ ws) k n l [] number q =
      pick_cases (λ v. v ≡ Refused number q → StopFrom k (w ∷ ws) [] number q) (eqb k n)
      (λ t e. absurd (refused_not_closed (sym e)))
      (λ t e. let (f, g) = same_refusal e in (0, omega arith, left_over (sym f) (omega arith) refl))
  stops (w ∷ ws) k n l (o ∷ os) number q =
      after_stops w ws k o os n number q (step speaks es limit w o) (λ ps. walk speaks limit es ws (suc k) (map (under o) ps ++ os)) refl
      (λ ps. stops ws (suc k) n (omega arith) (map (under o) ps ++ os) number q)
      (step_takes speaks limit es w o)

  -- ---- a stop is a refusal

  -- The walk goes on with what the words leave to prove:
  goes_on : (us vs : List ℕ) (k : ℕ) (os rest : List Obligation)
      → LeftToProve speaks limit es us os rest → walk speaks limit es (us ++ vs) k os ≡ walk speaks limit es vs (k + length us) rest
  unfolding walk
  goes_on [] vs k os rest e = let z : k + 0 ≡ k = omega arith in rw (z, e)
  goes_on (u ∷ us) vs k [] rest e = absurd e
  goes_on (u ∷ us) vs k (o ∷ os) rest (ps, (takes, l)) =
      let z : k + suc (length us) ≡ suc k + length us = omega arith in
      after_opens (step speaks es limit u o) ps (refused_at k) _ ((step_opens speaks limit es u o ps).1 takes)
      ∙ (goes_on us vs (suc k) (map (under o) ps ++ os) rest l ∙ ap (λ n. walk speaks limit es vs n rest) (sym z))

  -- from p on, with what the words before p leave.
  reaches : (ws : List ℕ) (p : ℕ) (os rest : List Obligation) → p ≤ length ws
      → LeftToProve speaks limit es (take p ws) os rest → walk speaks limit es ws 0 os ≡ walk_from speaks limit es ws p rest
  reaches ws p os rest l e =
      let z : 0 + p ≡ p = omega arith in
      rw (take-append-drop p ws, length-take-le p ws l, z) at (goes_on (take p ws) (drop p ws) 0 os rest e)

  stopped : (ws : List ℕ) (os : List Obligation) (number p : ℕ) → Stop speaks limit es ws os number p → run speaks limit es ws os ≡ Refused number p
  unfolding run
  stopped ws os number p (ended o rest n e l) =
      rw (n, e, reaches ws (length ws) os (o ∷ rest) (omega arith) (rw (take-length ws) l), walk_ends speaks limit es ws (length ws) o rest (omega arith))
  stopped ws os number p (refused o rest b l r) =
      rw (reaches ws p os (o ∷ rest) (omega arith) l, walk_steps speaks limit es ws p o rest b, (step_refused speaks limit es _ o number).1 r)
  stopped ws os number p (left_over n b l) =
      rw (n, reaches ws p os [] (omega arith) l, walk_done speaks limit es (drop p ws) p, ne_eqb p (length ws) (λ e. omega arith))

  pub refused_where : RefusedWhere speaks limit es
  unfolding run
  refused_where ws os number p = (
    (λ e.
        let (q, f, stop) = stops ws 0 (length ws) (omega arith) os number p e in
        let z : q ≡ p = omega arith in rw z at stop),
    stopped ws os number p,
  )
