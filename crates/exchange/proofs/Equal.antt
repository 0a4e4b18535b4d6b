-- A file is found equal exactly when it keeps the layout and its limits and carries all proofs, and so only where its
-- lists are equal in force (specs/Promises.antt). Assumes nothing.
use Prim.Native.Nat.{ℕ}
use mathlib.Core.Bool.{Bool}
use mathlib.Core.Path.{ap, sym, subst, ◌∙◌}
use mathlib.Core.Logic.{⊎_elim}
use mathlib.Core.List.Memᴰ
use mathlib.Core.List.{List, [], ◌∷◌}
use lib.ListN.{length}
use Rattle.basics.specs.Limits.{most_depth}
use Rattle.basics.proofs.Refusals.{passed_by_all}
use Rattle.logic.specs.Principals.{Relation, Decides, Lawful}
use Rattle.logic.specs.Force.{HasProof}
use Rattle.table.specs.declared.entry.Entry.{Entry}
use Rattle.table.specs.Spelled.{spell, spell_all}
use Rattle.steps.specs.Verdict.{Closed}
use Rattle.steps.proofs.Closed.{closed_uses_all}
use Rattle.exchange.specs.Layout.{first_list, second_list, steps, table}
use Rattle.exchange.specs.Answer.{obligations_of, tests}
use Rattle.exchange.specs.Proofs.{ProofOfEach}
use Rattle.exchange.specs.Force.{EachHasProof}
use Rattle.exchange.specs.Promises.{EqualExactly, EqualOnlyInForce}
use Rattle.exchange.proofs.Keeps.{none_applies}
use Rattle.exchange.proofs.Answered.{answer_equal}
use Rattle.exchange.proofs.Carries.{closes_on_proofs}
use Rattle.exchange.proofs.Force.{force_by_statements}

pub equal_exactly : (speaks : ℕ → ℕ → Bool) (R : Relation) → Decides speaks R → EqualExactly speaks R
equal_exactly speaks R decides file =
    let (to, from) = answer_equal speaks file in (
      λ e.
          let (keeps, (q, closes)) = (none_applies speaks file).0 ((passed_by_all (tests speaks file)).0 (to e)) in
          let all = closed_uses_all speaks most_depth (table file) (obligations_of file) (steps file) q closes in
          (keeps, (closes_on_proofs speaks R decides file keeps).0 (closes ∙ ap Closed all)),
      λ (keeps, carries).
          from ((passed_by_all (tests speaks file)).1
          ((none_applies speaks file).1
          (keeps, (length (steps file), (closes_on_proofs speaks R decides file keeps).1 carries)))),
    )

-- A proof within the limits for every position is a proof of any size for each statement.
each_has_proof :
    (R : Relation) (es : List Entry) (goals statements : List ℕ) → ProofOfEach R es statements goals
    → EachHasProof R es goals statements
each_has_proof R es [] statements none n m = absurd (Memᴰ.not-nil m)
each_has_proof R es (k ∷ ks) statements (p, rest) n m =
    ⊎_elim (λ e. subst (λ i. HasProof R (spell_all es statements) (spell es i)) (sym e) p.derivation)
    (each_has_proof R es ks statements rest n)
    (Memᴰ.cases_cons m)

pub equal_only_in_force : (speaks : ℕ → ℕ → Bool) (R : Relation) → Lawful speaks R → EqualOnlyInForce speaks R
equal_only_in_force speaks R lawful file e =
    let (keeps, carries) = (equal_exactly speaks R lawful.decides file).0 e in
    let es = table file in
    (force_by_statements R lawful.reflexive lawful.transitive es (first_list file) (second_list file)).1 (
      each_has_proof R es (first_list file) (second_list file) carries.first_from_second,
      each_has_proof R es (second_list file) (first_list file) carries.second_from_first,
    )
