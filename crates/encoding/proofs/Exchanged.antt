-- Lists that have a file which is found equal have proofs of each other within the limits, and only they
-- (specs/Exchange.antt, `ExchangedExactly`). Assumes nothing.
use Prim.Native.Nat.{ℕ, ◌<◌, ◌≤◌}
use native.Mathlib.Omega.{arith}
use mathlib.Core.Bool.{Bool}
use mathlib.Core.Path.{◌≡◌, sym, ap, ap₂, subst, ◌∙◌}
use mathlib.Core.Logic.{⊎_elim}
use mathlib.Core.List.Memᴰ
use mathlib.Core.List.{List, ◌++◌, map-append}
use lib.ListN.{length, length-map}
use Rattle.basics.specs.Membership.{◌∈◌}
use Rattle.basics.specs.Limits.{most_formulas}
use Rattle.logic.specs.Proposition.{Proposition}
use Rattle.logic.specs.Principals.{Relation, Decides}
use Rattle.table.specs.Spelled.{spell, spell_all}
use Rattle.table.specs.Number.{number}
use Rattle.file.proofs.LayoutLaws.{part_most}
use Rattle.exchange.specs.Layout.{exchange_layout, heads, seconds, first_list, second_list, steps, table}
use Rattle.exchange.specs.Proofs.{Keeps, CarriesAll}
use Rattle.exchange.proofs.Lengths.{length_table}
use Rattle.exchange.proofs.Equal.{equal_exactly}
use Rattle.encoding.specs.Bounds.{FewFormulas, NotDeep}
use Rattle.encoding.specs.Exchange.{Exchange, exchange_words, exchange_depths, WithinExchange, Exchanged, ExchangedExactly}
use Rattle.encoding.proofs.Position.{member_of}
use Rattle.encoding.proofs.Steps.{Steps}
use Rattle.encoding.proofs.Spelt as Spelt
use Rattle.encoding.proofs.Spelt.{number_most}
use Rattle.encoding.proofs.Each.{exchange_steps, RenamedExchange, renamed_exchange, deep_both, of_proofs, of_words, not_deep}
use Rattle.encoding.proofs.Exchange.{every_exchange_has_a_file}

module _ (speaks : ℕ → ℕ → Bool) (R : Relation) (decides : Decides speaks R) where
  module _ {left right : List Proposition} (given : Exchanged speaks left right) where
    abbrev file : List ℕ
    file = given.file

    found : Keeps file × CarriesAll R file
    found = (equal_exactly speaks R decides file).0 given.equal

    keeps : Keeps file
    keeps = found.0

    carries : CarriesAll R file
    carries = found.1

    -- all numbers are below F
    below : (n : ℕ) → n ∈ first_list file ++ second_list file → n < length (table file)
    below n m =
        let sized = length_table file keeps.sized in
        ⊎_elim (λ i. omega (arith, keeps.first_in n i)) (λ i. omega (arith, keeps.second_in n i))
        (Memᴰ.append_cases (first_list file) m)

    few : length (table file) ≤ most_formulas
    few = let few = keeps.sized.in_range.few_formulas in omega (arith, length_table file keeps.sized)

    few_formulas : FewFormulas (left ++ right)
    few_formulas =
        subst FewFormulas
        (map-append (spell (table file)) (first_list file) (second_list file)
        ∙ ap₂ ◌++◌ given.first_is given.second_is)
        (Spelt.few_formulas (heads file) (seconds file) keeps.ordered few (first_list file ++ second_list file) below)

    -- the derivations that it carries
    own : Exchange R (spell_all (table file) (first_list file)) (spell_all (table file) (second_list file))
    own = record {
      second_from_first = of_proofs R (table file) (first_list file) (second_list file) carries.second_from_first;
      first_from_second = of_proofs R (table file) (second_list file) (first_list file) carries.first_from_second;
    }

    own_steps : Steps (exchange_depths own) (exchange_words own (number (table file)))
    own_steps = exchange_steps R (number (table file)) (number_most (table file) few) own

    own_words : steps file ≡ exchange_words own (number (table file))
    unfolding own
    own_words =
        carries.words
        ∙ sym (ap₂ ◌++◌ (of_words R (table file) (first_list file) (second_list file) carries.second_from_first)
        (of_words R (table file) (second_list file) (first_list file) carries.first_from_second))

    own_not_deep : NotDeep (exchange_depths own)
    unfolding own
    own_not_deep =
        deep_both _ _ (not_deep R (table file) (first_list file) (second_list file) carries.second_from_first)
        (not_deep R (table file) (second_list file) (first_list file) carries.first_from_second)

    its_exchange : RenamedExchange own left right
    its_exchange = renamed_exchange own given.first_is given.second_is

    is_within : WithinExchange its_exchange.exchange
    is_within =
        let range = keeps.sized.in_range in
        record {
          few_formulas = few_formulas;
          few_first =
              let few = range.few_first in
              let all = ap length given.first_is in
              omega (arith, length-map (first_list file) (spell (table file)), part_most exchange_layout file 2);
          few_second =
              let few = range.few_second in
              let all = ap length given.second_is in
              omega (arith, length-map (second_list file) (spell (table file)), part_most exchange_layout file 3);
          few_steps =
              let few = range.few_steps in
              let same = ap length its_exchange.same_depths in
              let all = ap length own_words in
              omega (arith, own_steps.as_many, part_most exchange_layout file 4);
          not_deep = λ d m. own_not_deep d (member_of its_exchange.same_depths m);
        }

  pub exchanged_exactly : ExchangedExactly speaks R
  exchanged_exactly left right = (
    λ (E, within).
        let (file, is) = every_exchange_has_a_file speaks R decides left right E within in
        record {
          file = file;
          bytes = is.bytes;
          first_is = is.first_is;
          second_is = is.second_is;
          equal = is.equal;
        },
    λ given. ((its_exchange given).exchange, is_within given),
  )
