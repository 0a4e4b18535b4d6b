-- The machine closes on the steps of a file that keeps the layout exactly when the file carries all proofs. Assumes
-- nothing.
use Prim.Native.Nat.{ℕ, ◌<◌}
use native.Mathlib.Omega.{arith}
use mathlib.Core.Bool.{Bool}
use mathlib.Core.Path.{◌≡◌, refl, sym, ap, subst, ◌∙◌}
use mathlib.Core.Logic.{◌↔◌, ⊎_elim}
use mathlib.Core.List.Memᴰ
use mathlib.Core.List.{List, [], ◌∷◌, ◌++◌, append-nil, append_assoc}
use lib.ListN.{length}
use Rattle.basics.specs.Membership.{◌∈◌}
use Rattle.basics.specs.Tested.{Passed}
use Rattle.basics.specs.Limits.{most_depth}
use Rattle.logic.specs.Principals.{Relation, Decides}
use Rattle.table.specs.declared.entry.Entry.{Entry}
use Rattle.table.specs.Number.{number}
use Rattle.table.specs.Tests.{table_tests}
use Rattle.table.proofs.Answers.{passed}
use Rattle.table.proofs.Ordered.{no_fault_ordered}
use Rattle.table.proofs.Unlike.{not_repeated}
use Rattle.steps.specs.Verdict.{Closed}
use Rattle.steps.specs.Obligation.{Obligation, obligation, obligations}
use Rattle.steps.specs.Words.{words}
use Rattle.steps.specs.Carried.{Carried, InTable}
use Rattle.steps.proofs.OverTable.{runs_are_derivations}
use Rattle.exchange.specs.Layout.{formulas, heads, seconds, first_list, second_list, steps, table}
use Rattle.exchange.specs.Answer.{obligations_of, step_verdict}
use Rattle.exchange.specs.Proofs.{Keeps, ProofOfEach, words_of_each, CarriesAll}
use Rattle.exchange.proofs.Lengths.{length_table, sized_table_lem}

module _ (R : Relation) (es : List Entry) (statements : List ℕ) where
  -- The words begin with those of a proof for each position, and the rest carries what is owed after them.
  abbrev Begins : List ℕ → List Obligation → List ℕ → Type 0
  Begins goals os ws =
      (proofs : ProofOfEach R es statements goals)
      × ((rest : List ℕ) × ((ws ≡ words_of_each R es statements goals proofs ++ rest) × Carried R most_depth es os rest))

  to_each : (goals : List ℕ) (os : List Obligation) (ws : List ℕ)
      → Carried R most_depth es (obligations statements goals ++ os) ws → Begins goals os ws
  to_each [] os ws carried = (tt, (ws, (refl, carried)))
  to_each (n ∷ ns) os ws (later, (proved, carried)) =
      let (proofs, (rest, (e, follows))) = to_each ns os later carried in
      let first = words (number es) proved.derivation in (
        (record { derivation = proved.derivation; within = proved.within }, proofs),
        (
          rest,
          (
            proved.begins ∙ ap (λ (z : List ℕ). first ++ z) e
                ∙ sym (append_assoc first (words_of_each R es statements ns proofs) rest),
            follows,
          ),
        ),
      )

  from_each : (goals : List ℕ) (os : List Obligation) (ws : List ℕ) → Begins goals os ws
      → Carried R most_depth es (obligations statements goals ++ os) ws
  from_each [] os ws (proofs, (rest, (e, follows))) = subst (Carried R most_depth es os) (sym e) follows
  from_each (n ∷ ns) os ws ((p, proofs), (rest, (e, follows))) =
      let first = words (number es) p.derivation in
      let after = words_of_each R es statements ns proofs ++ rest in (
        after,
        (
          record {
            derivation = p.derivation;
            within = p.within;
            begins = e ∙ append_assoc first (words_of_each R es statements ns proofs) rest;
          },
          from_each ns os after (proofs, (rest, (refl, follows))),
        ),
      )

module _ (R : Relation) (file : List ℕ) where
  -- What is carried is a proof for each position of both lists, and nothing after them.
  carries_all : Carried R most_depth (table file) (obligations_of file) (steps file) ↔ CarriesAll R file
  carries_all =
      let es = table file in
      let first = first_list file in
      let second = second_list file in
      let back = obligations second first in (
        λ carried.
            let (forth-proofs, (rest, (e, follows))) = to_each R es first second back (steps file) carried in
            let (back-proofs, (none, (f, end))) =
            to_each R es second first [] rest
            (subst (λ os. Carried R most_depth es os rest) (sym (append-nil back)) follows) in
            let last : rest ≡ words_of_each R es second first back-proofs =
            f ∙ ap (λ (z : List ℕ). words_of_each R es second first back-proofs ++ z) end ∙ append-nil _ in
            record {
              second_from_first = forth-proofs;
              first_from_second = back-proofs;
              words = e ∙ ap (λ (z : List ℕ). words_of_each R es first second forth-proofs ++ z) last;
            },
        λ c.
            let rest = words_of_each R es second first c.first_from_second in
            let follows = from_each R es second first [] rest
            (c.first_from_second, ([], (sym (append-nil rest), refl))) in
            from_each R es first second back (steps file) (
              c.second_from_first,
              (rest, (c.words, subst (λ os. Carried R most_depth es os rest) (append-nil back) follows)),
            ),
      )

module _ (file : List ℕ) (keeps : Keeps file) where
  -- The table passes 2, 4 and 5,
  table_passes : table_tests (heads file) (seconds file) ≡ Passed
  table_passes =
      passed (heads file) (seconds file) (sized_table_lem file keeps.sized)
      ((no_fault_ordered (table file)).1 keeps.ordered)
      ((not_repeated (heads file) (seconds file)).1 keeps.none_repeated)

  -- a number below F is in it,
  below : (n : ℕ) → n < formulas file → n < length (table file)
  below n less = let sized = length_table file keeps.sized in omega arith

  in_table_each :
      (first second : List ℕ) → ((n : ℕ) → n ∈ first → n < formulas file) → ((n : ℕ) → n ∈ second → n < formulas file)
      → (o : Obligation) → o ∈ obligations first second → InTable (table file) o
  in_table_each first second first_in second_in o m =
      let (n, stands, is) = Memᴰ.of_map (obligation first) second m in
      subst (InTable (table file)) is record {
        hypotheses_in = λ k held. below k (first_in k held);
        goal_in = below n (second_in n stands);
      }

  -- and so are all numbers of what is owed.
  in_table : (o : Obligation) → o ∈ obligations_of file → InTable (table file) o
  in_table o m =
      ⊎_elim (in_table_each (first_list file) (second_list file) keeps.first_in keeps.second_in o)
      (in_table_each (second_list file) (first_list file) keeps.second_in keeps.first_in o)
      (Memᴰ.append_cases (obligations (first_list file) (second_list file)) m)

module _ (speaks : ℕ → ℕ → Bool) (R : Relation) (decides : Decides speaks R) (file : List ℕ) (keeps : Keeps file) where
  pub closes_on_proofs : step_verdict speaks file ≡ Closed (length (steps file)) ↔ CarriesAll R file
  closes_on_proofs =
      let (to, from) = runs_are_derivations speaks R decides (heads file) (seconds file) (table_passes file keeps)
      (obligations_of file) (in_table file keeps) (steps file) in
      (λ e. (carries_all R file).0 (to e), λ c. from ((carries_all R file).1 c))
