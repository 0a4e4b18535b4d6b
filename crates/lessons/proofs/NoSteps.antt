-- The table of specs/NoSteps.antt: what it tells, by computation; that no steps at all are a proof, by `no_proof`, and
-- for an or in a paper by `or_in_a_paper_lem`. Assumes nothing.
use native.Mathlib.Omega.{arith}
use mathlib.Core.Bool.{Bool, true, false, not, ◌||◌}
use mathlib.Core.Path.{◌≡◌, refl, sym, subst}
use Rattle.basics.specs.Choice.{both}
use mathlib.Core.Logic.{⊎_elim}
use mathlib.Core.List.Memᴰ
use mathlib.Core.List.{List}
use Rattle.basics.specs.First.{first}
use Rattle.basics.specs.Membership.{◌∈◌, holds}
use Rattle.basics.specs.Refusals.{first_refusal}
use Rattle.text.specs.Ascii.{ascii}
use Rattle.text.specs.Decimal.{digits, decimal}
use Rattle.file.specs.Words.{file_words, file_of}
use Rattle.logic.specs.Proposition.{Proposition}
use Rattle.logic.specs.Countermodels.{refutes}
use Rattle.logic.specs.Figure1.{Same, HasProof}
use Rattle.logic.proofs.Structural.{weaken}
use Rattle.logic.proofs.SignedAlone.{or_in_a_paper_lem}
use Rattle.logic.proofs.Figure1.{no_proof}
use Rattle.table.specs.Entry.{entry}
use Rattle.table.specs.Spelled.{spelled_after, spelled}
use Rattle.table.specs.Tests.{entries, wrong_entry, repeated_entry}
use Rattle.steps.specs.Step.{opens, step}
use Rattle.steps.specs.Run.{walk, run}
use Rattle.steps.specs.Figure1.{same}
use Rattle.steps.proofs.Figure1.{same_lawful}
use Rattle.record.specs.Answer.{record_answer}
use Rattle.record.proofs.Granted.{granted_exactly}
use Rattle.line.specs.RefusedLine.{refused_line}
use Rattle.line.specs.RecordLine.{record_line}
use Rattle.lessons.specs.NoSteps.{Row, Refuted, refuted, rows, RowsAre, ModelsRefute, OneWorldWontDo, NeverGranted, NoStepsAtAll}
use Rattle.lessons.proofs.Each.{of_each}

-- ---- by computation

pub rows_are : RowsAre
unfolding record_line refused_line ascii decimal digits record_answer file_words file_of first_refusal wrong_entry
    repeated_entry first run walk step opens holds entries entry spelled_after spelled
rows_are = record { lines = refl; statements = refl; goals = refl }

pub models_refute : ModelsRefute
unfolding holds
models_refute = refl

-- The paper is true where somebody makes it so, p, or a side is; and then so is the goal.
one_world_lem : (p a b : Bool) → both (both (p || (a || b)) true) (not ((p || a) || (p || b))) ≡ false
one_world_lem true a b = refl
one_world_lem false true b = refl
one_world_lem false false true = refl
one_world_lem false false false = refl

pub one_world_wont_do : OneWorldWontDo
one_world_wont_do m = one_world_lem (holds m.principals 7) (holds m.atoms 0) (holds m.atoms 1)

-- ---- no steps at all

-- A granted record has a derivation, and so its goal has a proof from every list that holds its statements.
never_granted : (Γ : List Proposition) (A : Proposition) → ¬ HasProof Γ A → NeverGranted Γ A
never_granted Γ A none file within is room count e =
    let says = (granted_exactly same Same same_lawful.decides file room count).0 e in
    none (subst (HasProof Γ) is (weaken within says.is_proof.derivation))

abbrev HasNone : Row → Type 0
HasNone r = ¬ HasProof r.statements r.goal

has_none : (r : Row) → r ∈ rows → HasNone r
has_none r m =
    ⊎_elim (λ e. subst HasNone (sym e) (or_in_a_paper_lem Same 7 7 7 0 1 (omega arith)))
    (λ i.
    let (x, stands, is) = Memᴰ.of_map (λ r. r.row) refuted i in
    let isRefuted : Refuted → Bool = λ r. refutes r.model r.row.statements r.row.goal in
    subst HasNone is
    (no_proof x.model x.row.statements x.row.goal (of_each isRefuted refuted models_refute x stands)))
    (Memᴰ.cases_cons m)

pub no_steps_at_all : NoStepsAtAll
no_steps_at_all r m = let none = has_none r m in (none, never_granted r.statements r.goal none)
