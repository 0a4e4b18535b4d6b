-- A granted record of papers alone releases no more than such papers give (specs/Papers.antt): its words are those of a
-- derivation from them, which for an or ends with one of its right rules. Assumes nothing.
use Prim.Native.Nat.{ℕ}
use mathlib.Core.Bool.{Bool}
use mathlib.Core.Path.{◌≡◌, subst, ap, ◌∙◌}
use mathlib.Core.Logic.{◌⊎◌, inl, inr, ⊎_elim}
use mathlib.Core.List.Memᴰ
use mathlib.Core.List.{List}
use Rattle.basics.specs.Word.{word}
use Rattle.logic.specs.Proposition.{Proposition, ◌or◌}
use Rattle.logic.specs.Principals.{Relation, Decides}
use Rattle.logic.specs.Force.{HasProof}
use Rattle.logic.specs.Signed.{SignedBy, Anybody}
use Rattle.logic.proofs.SignedAlone.{by_right_rule, signed_alone, signed_is_says}
use Rattle.table.specs.Spelled.{spell}
use Rattle.table.specs.Number.{number}
use Rattle.table.proofs.Shapes.{spell_at}
use Rattle.steps.specs.Words as Derived
use Rattle.signers.proofs.Each.{says_entry}
use Rattle.record.specs.Layout.{statements, steps, table}
use Rattle.record.specs.Proof.{stated_by}
use Rattle.record.specs.Papers.{OnlyPapers, PapersByEntries, Begins, PapersAlone}
use Rattle.record.proofs.Granted.{granted_exactly}

pub papers_by_entries : PapersByEntries
papers_by_entries file keeps = (
  λ papers n stands.
      let (K, A, says) = (signed_is_says (spell (table file) n)).0 (papers _ (Memᴰ.map (spell (table file)) stands)) in
      let (f, is) = says_entry (table file) keeps.ordered n K A says in
      (K, f, is),
  λ entries A stated.
      let (n, stands, spells) = Memᴰ.of_map (spell (table file)) (statements file) stated in
      let (K, f, is) = entries n stands in
      subst (SignedBy Anybody) spells
      ((signed_is_says (spell (table file) n)).1 (K, _, spell_at (table file) keeps.ordered n is)),
)

module _ (R : Relation) (file : List ℕ) where
  -- a proof of C whose words are the steps
  abbrev Proves : Proposition → Type 0
  Proves C = (D : HasProof R (stated_by file) C) × (steps file ≡ Derived.words (number (table file)) D)

  begins : OnlyPapers file → (A B : Proposition) → Proves (A or B)
      → Begins R file (word 7 0) A ⊎ Begins R file (word 8 0) B
  begins papers A B (D, words) =
      ⊎_elim
      (λ (E, ends). inl record { derivation = E; words = words ∙ ap (Derived.words (number (table file))) ends })
      (λ (E, ends). inr record { derivation = E; words = words ∙ ap (Derived.words (number (table file))) ends })
      (by_right_rule papers D)

pub papers_alone : (speaks : ℕ → ℕ → Bool) (R : Relation) → Decides speaks R → PapersAlone speaks R
papers_alone speaks R decides file room count granted papers =
    let proof = ((granted_exactly speaks R decides file room count).0 granted).is_proof in
    let give = signed_alone R (stated_by file) papers in
    record {
      no_atom = λ a is. give.no_atom a (subst (HasProof R (stated_by file)) is proof.derivation);
      no_false = λ is. give.no_false (subst (HasProof R (stated_by file)) is proof.derivation);
      or_by_a_side = λ A B is. begins R file papers A B (subst (Proves R file) is (proof.derivation, proof.words));
    }
