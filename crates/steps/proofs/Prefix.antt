-- A walk that closes looks at the words that it uses and no more (specs/Parts.antt: LooksNoFurther). Assumes nothing.
use Prim.Native.Nat.{ℕ, suc, ◌-◌, ◌≤◌}
use native.Mathlib.Omega.{arith}
use mathlib.Core.Bool.{Bool}
use mathlib.Core.Path.{◌≡◌, refl, ap, ◌∙◌}
use mathlib.Core.List.{List, [], ◌∷◌, ◌++◌, map}
use lib.ListN.{length, take, drop, take-append-drop}
use lib.Seq.{take-nil, length-take-le}
use borrow.Author.Tests.{eq-eqb}
use Rattle.table.specs.declared.entry.Entry.{Entry}
use Rattle.steps.specs.declared.opened.Premise.{Premise}
use Rattle.steps.specs.declared.opened.Opened as O
use Rattle.steps.specs.declared.opened.Opened.TheVariants as Opening
use Rattle.steps.specs.Verdict.{WalkVerdict, Closed, Refused}
use Rattle.steps.specs.Obligation.{Obligation, under}
use Rattle.steps.specs.Step.{step}
use Rattle.steps.specs.Run.{after, walk, run}
use Rattle.steps.specs.Parts.{LooksNoFurther}
use Rattle.steps.proofs.Closed.{refused_not_closed, run_closed, closed_uses_all}
use Rattle.steps.proofs.Parts.{refused_at, walk_done, uses_words}

-- Where one way to go on from a step closes, so does another that closes wherever the first does.
after_closes : (x : O.Opened) (p q : ℕ) (next other : List Premise → WalkVerdict) → ((ps : List Premise) → next ps ≡ Closed q → other ps ≡ Closed q)
    → after x (refused_at p) next ≡ Closed q → after x (refused_at p) other ≡ Closed q
after_closes (Opening.Refused n) p q next other f e = absurd (refused_not_closed e)
after_closes Opening.Closed p q next other f e = f _ e
after_closes (Opening.One a) p q next other f e = f _ e
after_closes (Opening.Two a b) p q next other f e = f _ e

module _ (speaks : ℕ → ℕ → Bool) (limit : ℕ) (es : List Entry) where
  -- More words change nothing,
  more_words : (ws more : List ℕ) (p q : ℕ) (os : List Obligation)
      → walk speaks limit es ws p os ≡ Closed q → walk speaks limit es (ws ++ more) p os ≡ Closed q
  unfolding walk
  more_words [] more p q [] e = walk_done speaks limit es more p ∙ e
  more_words [] more p q (o ∷ os) e = absurd (refused_not_closed e)
  more_words (w ∷ ws) more p q [] e = e
  more_words (w ∷ ws) more p q (o ∷ os) e =
      after_closes (step speaks es limit w o) p q (λ ps. walk speaks limit es ws (suc p) (map (under o) ps ++ os))
      (λ ps. walk speaks limit es (ws ++ more) (suc p) (map (under o) ps ++ os))
      (λ ps. more_words ws more (suc p) q (map (under o) ps ++ os)) e

  -- and words that are not used may go.
  used_words : (ws : List ℕ) (p q : ℕ) (os : List Obligation)
      → walk speaks limit es ws p os ≡ Closed q → walk speaks limit es (take (q - p) ws) p os ≡ Closed q
  unfolding walk
  used_words [] p q os e = rw (take-nil (q - p)) e
  used_words (w ∷ ws) p q [] e = walk_done speaks limit es (take (q - p) (w ∷ ws)) p ∙ e
  used_words (w ∷ ws) p q (o ∷ os) e =
      let (least, most) = uses_words speaks limit es (w ∷ ws) p q (o ∷ os) e in
      let f : q - p ≡ suc (q - suc p) = omega arith in
      rw f
      (after_closes (step speaks es limit w o) p q (λ ps. walk speaks limit es ws (suc p) (map (under o) ps ++ os))
      (λ ps. walk speaks limit es (take (q - suc p) ws) (suc p) (map (under o) ps ++ os))
      (λ ps. used_words ws (suc p) q (map (under o) ps ++ os)) e)

  pub looks_no_further : LooksNoFurther speaks limit es
  unfolding run
  looks_no_further ws q os = (
    (λ e.
        let (least, most) = uses_words speaks limit es ws 0 q os e in
        let l : q ≤ length ws = omega arith in
        let z : q - 0 ≡ q = omega arith in
        (l, rw (rw z at (used_words ws 0 q os e), length-take-le q ws l, eq-eqb q q refl))),
    (λ (l, e).
        let closed = run_closed speaks limit es os (take q ws) (e ∙ ap Closed (closed_uses_all speaks limit es os (take q ws) q e)) in
        let back = more_words (take q ws) (drop q ws) 0 (length (take q ws)) os closed in
        rw (take-append-drop q ws, length-take-le q ws l) at back),
  )
