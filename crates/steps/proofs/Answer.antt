-- What closed says of the words (specs/Answer.antt). Assumes nothing.
use Prim.Native.Nat.{ℕ}
use mathlib.Core.Bool.{Bool}
use mathlib.Core.Path.{refl, ap, sym, ◌∙◌}
use mathlib.Core.Logic.{⊎_elim}
use mathlib.Core.List.Memᴰ
use mathlib.Core.List.{List, [], ◌∷◌}
use lib.ListN.{take}
use lib.Seq.{length-take-le}
use Rattle.basics.specs.Membership.{◌∈◌}
use Rattle.basics.specs.Limits.{most_depth}
use Rattle.logic.specs.Principals.{Relation, Decides}
use Rattle.table.specs.Tests.{entries}
use Rattle.steps.specs.Verdict.{Closed}
use Rattle.steps.specs.Obligation.{Obligation, obligation, obligations}
use Rattle.steps.specs.Carried.{InTable}
use Rattle.steps.specs.Answer.{ClosedAreDerivations, ClosedIsDerivation}
use Rattle.steps.proofs.Prefix.{looks_no_further}
use Rattle.steps.proofs.OverTable.{runs_are_derivations}

-- What holds of each goal's proof holds of each of the proofs.
each_owed : (P : Obligation → Type 0) (statements goals : List ℕ)
    → ((goal : ℕ) → goal ∈ goals → P (obligation statements goal)) → (o : Obligation) → o ∈ obligations statements goals → P o
each_owed P statements [] h o m = absurd (Memᴰ.not-nil m)
each_owed P statements (goal ∷ goals) h o m =
    let rest = each_owed P statements goals (λ g i. h g (Memᴰ.tail i)) o in
    ⊎_elim (λ e. rw e (h goal (Memᴰ.head refl))) rest (Memᴰ.cases_cons m)

module _ (speaks : ℕ → ℕ → Bool) (R : Relation) (decides : Decides speaks R) where
  pub closed_are_derivations : ClosedAreDerivations speaks R
  closed_are_derivations heads seconds statements goals steps q passed inside =
      let es = entries heads seconds in
      let os = obligations statements goals in
      let (closes, is) = looks_no_further speaks most_depth es steps q os in
      let (sound, complete) =
      runs_are_derivations speaks R decides heads seconds passed os (each_owed (InTable es) statements goals inside)
      (take q steps) in (
        (λ e. let (l, run) = closes e in (l, sound (run ∙ ap Closed (sym (length-take-le q steps l))))),
        (λ (l, carried). is (l, complete carried ∙ ap Closed (length-take-le q steps l))),
      )

  pub closed_is_derivation : ClosedIsDerivation speaks R
  closed_is_derivation heads seconds statements goal steps q passed inside =
      closed_are_derivations heads seconds statements (goal ∷ []) steps q passed
      (λ g m. rw (Memᴰ.eq_of_singleton m) inside)
