-- The signers are those who carried the release (specs/Carries.antt): what the words' numbers spell is what the lines
-- of the derivation name, and a formula has one number. Assumes nothing.
use Prim.Native.Nat.{ℕ}
use mathlib.Core.Bool.{Bool}
use mathlib.Core.Path.{◌≡◌, sym, subst, ◌∙◌}
use mathlib.Core.Logic.Iff
use mathlib.Core.Logic.{◌↔◌}
use mathlib.Core.List.Memᴰ
use mathlib.Core.List.{List, [], ◌∷◌}
use Rattle.basics.specs.Membership.{◌∈◌}
use Rattle.basics.specs.Limits.{most_depth}
use Rattle.logic.specs.Proposition.{Proposition}
use Rattle.logic.specs.Judgment.{truth}
use Rattle.logic.specs.Principals.{Relation, Decides}
use Rattle.logic.specs.Named.{says_left_names}
use Rattle.table.specs.Spelled.{spell, spell_all}
use Rattle.table.proofs.Passed.{passed_is_good}
use Rattle.table.proofs.Number.{one_number}
use Rattle.table.proofs.Shapes.{spell_at}
use Rattle.steps.specs.Obligation.{obligation}
use Rattle.steps.specs.Naming.{Names, is_says_left}
use Rattle.steps.specs.Trace.{Line, lines}
use Rattle.steps.proofs.Naming.{named_on_trace, says_left_lines}
use Rattle.signers.specs.Each.{Signs}
use Rattle.signers.proofs.Each.{signers_are, says_entry, says_in_table}
use Rattle.record.specs.Layout.{goal, heads, seconds, statements, steps, table, says_left_numbers}
use Rattle.record.specs.Proof.{Keeps, stated_by, goal_of, IsProof}
use Rattle.record.specs.Carries.{Carries, SignersCarry}
use Rattle.record.proofs.IsProof.{table_passes, closes_on_proof, lines_of_proof}

module _ (speaks : ℕ → ℕ → Bool) (R : Relation) (decides : Decides speaks R) (file : List ℕ) (keeps : Keeps file)
    (p : IsProof R file) where
  -- What the says lefts name, by words and by the derivation.
  named_by_words : (A : Proposition)
      → A ∈ spell_all (table file) (says_left_numbers file) ↔ A ∈ says_left_names p.derivation
  named_by_words A =
      let on-trace = named_on_trace speaks is_says_left most_depth (table file)
      (obligation (statements file) (goal file) ∷ []) (steps file)
      ((closes_on_proof speaks R decides file keeps).1 p) A in
      let on-lines : Names is_says_left (lines p.derivation) A ↔ A ∈ says_left_names p.derivation =
      says_left_lines R (stated_by file) (truth (goal_of file)) p.derivation A in
      Iff.trans (Iff.symm on-trace)
      (subst (λ (ls : List Line). Names is_says_left ls A ↔ A ∈ says_left_names p.derivation)
      (sym (lines_of_proof speaks R decides file keeps p)) on-lines)

  -- A signer's statement spells what he says,
  to_carries : (K : ℕ) → Signs (table file) (statements file) (says_left_numbers file) K → Carries p K
  to_carries K s =
      let spells = spell_at (table file) keeps.ordered s.statement s.is in
      record {
        said = spell (table file) s.said.0;
        stated = Memᴰ.cast (sym spells) (Memᴰ.map (spell (table file)) s.stands);
        named = (named_by_words _).0 (Memᴰ.cast (sym spells) (Memᴰ.map (spell (table file)) s.used));
      }

  -- and the formula that is stated and the one that is named have one number.
  of_carries : (K : ℕ) → Carries p K → Signs (table file) (statements file) (says_left_numbers file) K
  of_carries K c =
      let good = passed_is_good (heads file) (seconds file) (table_passes file keeps) in
      let (n, stands, stated) = Memᴰ.of_map (spell (table file)) (statements file) c.stated in
      let (m, used, named) = Memᴰ.of_map (spell (table file)) (says_left_numbers file) ((named_by_words _).1 c.named) in
      let (f, is) = says_entry (table file) keeps.ordered n K c.said stated in
      let (g, is-named) = says_entry (table file) keeps.ordered m K c.said named in
      let one : n ≡ m =
      one_number (table file) keeps.ordered good.distinct n m (says_in_table (table file) n is)
      (says_in_table (table file) m is-named) (stated ∙ sym named) in
      record { statement = n; stands = stands; used = Memᴰ.cast one used; said = f; is = is }

  pub signs_carry : (K : ℕ) → Signs (table file) (statements file) (says_left_numbers file) K ↔ Carries p K
  signs_carry K = (to_carries K, of_carries K)

pub signers_carry : (speaks : ℕ → ℕ → Bool) (R : Relation) → Decides speaks R → SignersCarry R
signers_carry speaks R decides file keeps p K =
    Iff.trans ((signers_are (table file) (statements file) (says_left_numbers file)).each K)
    (signs_carry speaks R decides file keeps p K)
