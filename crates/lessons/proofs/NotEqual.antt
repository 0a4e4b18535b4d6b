-- The table of specs/NotEqual.antt: what it tells, by computation; that nothing is to be found, by `no_proof`. Assumes
-- nothing.
use mathlib.Core.Bool.{Bool}
use mathlib.Core.Path.{refl}
use mathlib.Core.Logic.{⊎_elim}
use mathlib.Core.List.{List}
use Rattle.basics.specs.First.{first}
use Rattle.basics.specs.Membership.{◌∈◌, holds}
use Rattle.basics.specs.Refusals.{first_refusal}
use Rattle.basics.proofs.Membership as In
use Rattle.basics.proofs.Membership.{each_of_none, each_of_more}
use Rattle.text.specs.Ascii.{ascii}
use Rattle.text.specs.Decimal.{digits, decimal}
use Rattle.file.specs.Words.{file_words, file_of}
use Rattle.logic.specs.Proposition.{Proposition}
use Rattle.logic.specs.Countermodels.{refutes}
use Rattle.logic.specs.Figure1.{Same, HasProof, EqualInForce}
use Rattle.logic.proofs.Structural.{weaken}
use Rattle.logic.proofs.Figure1.{figure1, no_proof}
use Rattle.table.specs.Entry.{entry}
use Rattle.table.specs.Spelled.{spelled_after, spelled}
use Rattle.table.specs.Tests.{entries, wrong_entry, repeated_entry}
use Rattle.steps.specs.Step.{opens, step}
use Rattle.steps.specs.Run.{walk, run}
use Rattle.steps.specs.Figure1.{same}
use Rattle.steps.proofs.Figure1.{same_lawful}
use Rattle.exchange.specs.Answer.{exchange_answer}
use Rattle.exchange.proofs.Equal.{equal_only_in_force}
use Rattle.line.specs.RefusedLine.{refused_line}
use Rattle.line.specs.ExchangeLine.{exchange_line}
use Rattle.lessons.specs.NotEqual.{Direction, forth, back, Lists, from, stands_in, RefutedLists, refuted_lists, ListsAre, StandsThere, ModelsRefuteLists, NeverEqual, NeverInForce}
use Rattle.lessons.proofs.Each.{of_each}

-- ---- by computation

pub lists_are : ListsAre
unfolding refused_line exchange_line ascii decimal digits exchange_answer file_words file_of first_refusal wrong_entry
    repeated_entry first run walk step opens holds entries entry spelled_after spelled
lists_are = record { lines = refl; first = refl; second = refl }

pub models_refute_lists : ModelsRefuteLists
unfolding holds
models_refute_lists = refl

abbrev Stands : RefutedLists → Type 0
Stands x = x.lists.missing ∈ stands_in x.lists.direction x.lists

pub stands_there : StandsThere
stands_there =
    each_of_more Stands In.first
    (each_of_more Stands In.first
    (each_of_more Stands In.first
    (each_of_more Stands In.first
    (each_of_more Stands In.first
    (each_of_more Stands In.second
    (each_of_more Stands In.first
    (each_of_more Stands In.first
    (each_of_more Stands In.second
    (each_of_more Stands In.second
    (each_of_more Stands (In.at_place _ 7 refl) (each_of_none Stands)))))))))))

-- ---- nothing to be found

-- In lists of equal force each statement of the one has a proof from the other.
never_equal : (Γ : List Proposition) (A : Proposition) → ¬ HasProof Γ A → NeverEqual Γ A
never_equal Γ A none file lists e =
    let force = equal_only_in_force same Same same_lawful file e in
    ⊎_elim (λ (within, stands). none (weaken within ((force A).1 (figure1.identity _ A stands))))
    (λ (within, stands). none (weaken within ((force A).0 (figure1.identity _ A stands)))) lists

not_in_force : (d : Direction) (x : Lists) (A : Proposition) → A ∈ stands_in d x → ¬ HasProof (from d x) A
    → ¬ EqualInForce x.first x.second
not_in_force forth x A stands none force = none ((force A).1 (figure1.identity _ A stands))
not_in_force back x A stands none force = none ((force A).0 (figure1.identity _ A stands))

pub never_in_force : NeverInForce
never_in_force p m =
    let x = p.lists in
    let isRefuted : RefutedLists → Bool =
    λ p. refutes p.model (from p.lists.direction p.lists) p.lists.missing in
    let none = no_proof p.model (from x.direction x) x.missing (of_each isRefuted refuted_lists models_refute_lists p m) in
    record {
      no_proof = none;
      not_in_force = not_in_force x.direction x x.missing (stands_there p m) none;
      never_equal = never_equal (from x.direction x) x.missing none;
    }
