-- The laws behind the loop over the statements, and behind the test of goal and statements. Assumes nothing.
use Prim.Native.Nat.{ℕ}
use mathlib.Core.Bool.{Bool, true, false, not, ◌||◌}
use mathlib.Core.Path.{◌≡◌, refl, sym, ap, ap₂, ◌∙◌}
use mathlib.Core.List.{List, [], ◌∷◌}
use Rattle.std.specs.List.{list_any}
use lib.ListN.{take}
use Rattle.basics.specs.Choice.{both}
use Rattle.basics.proofs.Choice.{both_none}
use Rattle.logic.specs.Proposition.{Proposition}
use Rattle.logic.specs.Sides.{proving, given}
use Rattle.table.specs.declared.entry.Entry.{Entry}
use Rattle.table.specs.Tests.{entry_at}
use Rattle.table.specs.Spelled.{proposition, spelled, spell, spell_all}
use Rattle.table.proofs.Spelled.{made_before}
use Rattle.steps.specs.Figure1.{same}
use Rattle.independence.specs.Test.{is_own, proving_says, in_statement, in_statements}
use Rattle.independence.specs.Figure1.{is_independent}

-- Where the second of two tests holds, the first decides.
not_is_both : (o m : Bool) → m ≡ true → not o ≡ both (not o) m
not_is_both true m e = refl
not_is_both false m e = sym e

module _ (K : ℕ) (es : List Entry) where
  -- ---- one statement

  -- A statement is K's own where its entry is.
  pub own_of : (n : ℕ) {e : Entry} {t : Bool} → e ≡ entry_at es n
      → ((made : List Proposition) → t ≡ is_own K (proposition made e)) → t ≡ is_own K (spell es n)
  own_of n {e} is own =
      own (spelled (take n es))
      ∙ ap (λ (x : Entry). is_own K (proposition (spelled (take n es)) x)) is
      ∙ ap (is_own K) (sym (made_before es n))

  -- A says-formula that counts stands in a statement that has a mark and isn't K's own.
  module _ (n : ℕ) {m : Bool} (marked : m ≡ proving_says same K given (spell es n)) where
    pub in_marked : {o : Bool} → m ≡ true → o ≡ is_own K (spell es n)
        → not o ≡ in_statement same K (spell es n)
    in_marked {o} some owned = not_is_both o m some ∙ ap₂ (λ (x y : Bool). both (not x) y) owned marked

    pub in_unmarked : m ≡ false → m ≡ in_statement same K (spell es n)
    in_unmarked none =
        none
        ∙ sym (both_none (not (is_own K (spell es n))))
        ∙ ap (both (not (is_own K (spell es n)))) (sym none ∙ marked)

  -- ---- all statements

  pub in_any : (ns : List ℕ)
      → list_any (λ n. in_statement same K (spell es n)) ns ≡ in_statements same K (spell_all es ns)
  unfolding in_statements
  in_any [] = refl
  in_any (n ∷ ns) = ap (λ (b : Bool). in_statement same K (spell es n) || b) (in_any ns)

-- ---- goal and statements

module _ (K : ℕ) (Γ : List Proposition) (C : Proposition) {m : Bool} (marked : m ≡ proving_says same K proving C) where
  pub in_goal : m ≡ true → false ≡ is_independent K Γ C
  in_goal is = ap (λ (t : Bool). not (t || in_statements same K Γ)) (sym is ∙ marked)

  pub not_in_goal : {b : Bool} → m ≡ false → b ≡ in_statements same K Γ → not b ≡ is_independent K Γ C
  not_in_goal none e = ap not e ∙ ap (λ (t : Bool). not (t || in_statements same K Γ)) (sym none ∙ marked)
