-- The exchange file of derivations within the limits is found equal (specs/Exchange.antt). In order: the formulas of
-- its table; its parts; the layout and its limits; the proofs; the bytes; the promises. Assumes nothing.
use Prim.Native.Nat.{ℕ, ◌≤◌}
use native.Mathlib.Omega.{arith}
use mathlib.Core.Bool.{Bool}
use mathlib.Core.Path.{◌≡◌, refl, sym, ap, ap₂, subst, ◌∙◌}
use mathlib.Core.List.Memᴰ
use mathlib.Core.List.{List, [], ◌∷◌, ◌++◌, map}
use lib.ListN.{length, length-map}
use Rattle.basics.specs.Membership.{◌∈◌, ◌⊆◌}
use Rattle.basics.specs.Limits.{most_steps}
use Rattle.basics.proofs.Membership.{first, ⊆_refl, ⊆_trans, ⊆_left, ⊆_right}
use Rattle.logic.specs.Proposition.{Proposition, atom}
use Rattle.logic.specs.Principals.{Relation, Decides}
use Rattle.table.specs.Spelled.{spell_all}
use Rattle.table.specs.Number.{position, number}
use Rattle.exchange.specs.Layout as File
use Rattle.exchange.specs.Layout.{exchange_layout}
use Rattle.exchange.specs.Proofs.{InRange, Keeps, CarriesAll}
use Rattle.exchange.proofs.LayoutIs.{bounded}
use Rattle.exchange.proofs.Equal.{equal_exactly}
use Rattle.encoding.specs.Bounds.{NumberFits, operands, FewFormulas, NotDeep}
use Rattle.encoding.specs.Table.{heads_of, seconds_of}
use Rattle.encoding.specs.Laid.{laid_words, LaidOut, AreWords}
use Rattle.encoding.specs.Exchange.{Exchange, depths_of_all, exchange_words, exchange_depths, WithinExchange, or_atom, exchange_formulas, exchange_fields, exchange_parts, encoded_exchange, EncodedIsExchange, EveryExchangeHasAFile}
use Rattle.encoding.proofs.Position.{member_of, position_in}
use Rattle.encoding.proofs.Laid.{laid_out_is, bytes_of_words, no_words, one_word, words_laid}
use Rattle.encoding.proofs.Steps.{Steps}
use Rattle.encoding.proofs.Table.{length_heads, length_seconds}
use Rattle.encoding.proofs.Prepared.{Prepared, prepared, numbers_in, number_most, number_words, ordered, none_repeated, number_is, spells_all}
use Rattle.encoding.proofs.Each.{exchange_steps, RenamedExchange, renamed_exchange, deep_left, deep_right, to_proofs, to_words}

-- ---- the formulas of its table

-- Of two empty lists an atom is all,
atom_alone : FewFormulas (atom 0 ∷ [])
atom_alone = record {
  formulas = atom 0 ∷ [];
  few = omega arith;
  holds = ⊆_refl;
  has_operands =
      λ B C m c.
      absurd (Memᴰ.not-nil (subst (λ (A : Proposition). C ∈ operands A) (Memᴰ.eq_of_singleton m) c));
  numbered = λ B m. subst NumberFits (sym (Memᴰ.eq_of_singleton m)) (omega arith);
}

-- and else nothing is added.
few_or_atom : (As : List Proposition) → FewFormulas As → FewFormulas (or_atom As)
few_or_atom [] room = atom_alone
few_or_atom (A ∷ As) room = room

held_or_atom : (As : List Proposition) → As ⊆ or_atom As
held_or_atom [] A m = absurd (Memᴰ.not-nil m)
held_or_atom (B ∷ As) A m = m

some_or_atom : (As : List Proposition) → (A : Proposition) × (A ∈ or_atom As)
some_or_atom [] = (atom 0, first)
some_or_atom (A ∷ As) = (A, first)

module _ {R : Relation} {left right : List Proposition} (E : Exchange R left right) (within : WithinExchange E) where
  abbrev formulas : List Proposition
  formulas = exchange_formulas E

  abbrev file : List ℕ
  file = encoded_exchange E

  its_table : Prepared (or_atom (left ++ right)) formulas
  its_table = prepared (or_atom (left ++ right)) (few_or_atom (left ++ right) within.few_formulas)

  held : left ++ right ⊆ formulas
  held = ⊆_trans (held_or_atom (left ++ right)) its_table.holds

  left_stand : left ⊆ formulas
  left_stand = ⊆_trans (⊆_left right) held

  right_stand : right ⊆ formulas
  right_stand = ⊆_trans (⊆_right left) held

  some_formulas : 1 ≤ length formulas
  some_formulas = let (A, m) = some_or_atom (left ++ right) in omega (arith, position_in (its_table.holds A m))

  word_steps : Steps (exchange_depths E) (exchange_words E (position formulas))
  word_steps = exchange_steps R (position formulas) (number_most its_table) E

  few_steps : length (exchange_words E (position formulas)) ≤ most_steps
  few_steps = let few = within.few_steps in omega (arith, word_steps.as_many)

  -- ---- its parts

  laid_out : LaidOut exchange_layout (exchange_fields E) (exchange_parts E)
  laid_out = laid_out_is exchange_layout bounded (exchange_fields E) (exchange_parts E) record {
    each_field = refl;
    each_part =
        let many-heads = length_heads formulas in
        let many-seconds = length_seconds formulas in
        let many-left : length (map (position formulas) left) ≡ length left = length-map left (position formulas) in
        let many-right : length (map (position formulas) right) ≡ length right = length-map right (position formulas) in
        cc;
  }

  formulas_are : File.formulas file ≡ length formulas
  formulas_are = laid_out.field_is 0 (omega arith)

  heads_are : File.heads file ≡ heads_of formulas
  heads_are = laid_out.part_is 0

  seconds_are : File.seconds file ≡ seconds_of formulas
  seconds_are = laid_out.part_is 1

  left_numbers : File.first_list file ≡ map (position formulas) left
  left_numbers = laid_out.part_is 2

  right_numbers : File.second_list file ≡ map (position formulas) right
  right_numbers = laid_out.part_is 3

  left_spells : spell_all (File.table file) (File.first_list file) ≡ left
  left_spells = rw left_numbers (spells_all its_table heads_are seconds_are left left_stand)

  right_spells : spell_all (File.table file) (File.second_list file) ≡ right
  right_spells = rw right_numbers (spells_all its_table heads_are seconds_are right right_stand)

  steps_are : File.steps file ≡ exchange_words E (number (File.table file))
  steps_are = laid_out.part_is 4 ∙ ap (exchange_words E) (sym (number_is its_table heads_are seconds_are))

  -- ---- the layout and its limits

  in_range : InRange file
  in_range =
      let few = its_table.few in
      let few-left = within.few_first in
      let few-right = within.few_second in
      record {
        some_formulas = omega (arith, formulas_are, some_formulas);
        few_formulas = omega (arith, formulas_are);
        few_first = omega (arith, laid_out.field_is 1 (omega arith));
        few_second = omega (arith, laid_out.field_is 2 (omega arith));
        few_steps = omega (arith, laid_out.field_is 3 (omega arith), few_steps);
      }

  keeps : Keeps file
  keeps = record {
    sized = record { in_range = in_range; length_is = laid_out.length_is };
    ordered = ordered its_table heads_are seconds_are;
    none_repeated = none_repeated its_table heads_are seconds_are;
    first_in = λ n m. omega (arith, formulas_are, numbers_in formulas left_stand n (member_of left_numbers m));
    second_in = λ n m. omega (arith, formulas_are, numbers_in formulas right_stand n (member_of right_numbers m));
  }

  -- ---- the proofs

  its_own :
      RenamedExchange E (spell_all (File.table file) (File.first_list file))
      (spell_all (File.table file) (File.second_list file))
  its_own = renamed_exchange E (sym left_spells) (sym right_spells)

  carries : CarriesAll R file
  carries =
      let es = File.table file in
      let first = File.first_list file in
      let second = File.second_list file in
      let own = its_own.exchange in
      let deep : NotDeep (exchange_depths own) = λ d m. within.not_deep d (member_of its_own.same_depths m) in
      let forth = deep_left _ (depths_of_all R (spell_all es second) (spell_all es first) own.first_from_second) deep in
      let back = deep_right (depths_of_all R (spell_all es first) (spell_all es second) own.second_from_first) _ deep in
      record {
        second_from_first = to_proofs R es first second own.second_from_first forth;
        first_from_second = to_proofs R es second first own.first_from_second back;
        words =
            steps_are
            ∙ sym (its_own.same_words (number es))
            ∙ sym (ap₂ ◌++◌ (to_words R es first second own.second_from_first forth)
            (to_words R es second first own.first_from_second back));
      }

  -- ---- the bytes

  its_words : AreWords (laid_words (exchange_fields E) (exchange_parts E))
  its_words =
      let few = its_table.few in
      let few-left = within.few_first in
      let few-right = within.few_second in
      words_laid (exchange_fields E) (exchange_parts E)
      (one_word (omega arith)
      (one_word (omega arith) (one_word (omega arith) (one_word (omega (arith, few_steps)) no_words)))) (
        its_table.head_words,
        (
          its_table.second_words,
          (number_words its_table left_stand, (number_words its_table right_stand, (word_steps.are_words, tt))),
        ),
      )

-- ---- the promises

module _ (speaks : ℕ → ℕ → Bool) (R : Relation) (decides : Decides speaks R) where
  pub encoded_is_exchange : EncodedIsExchange speaks R
  encoded_is_exchange left right E within = record {
    bytes = bytes_of_words (laid_words (exchange_fields E) (exchange_parts E)) (its_words E within);
    first_is = left_spells E within;
    second_is = right_spells E within;
    steps_are = steps_are E within;
    equal = (equal_exactly speaks R decides (encoded_exchange E)).1 (keeps E within, carries E within);
  }

  pub every_exchange_has_a_file : EveryExchangeHasAFile speaks R
  every_exchange_has_a_file left right E within = (encoded_exchange E, encoded_is_exchange left right E within)
