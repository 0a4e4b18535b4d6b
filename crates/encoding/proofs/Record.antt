-- The record of a derivation within the limits is granted, and its signers are those who carried (specs/Record.antt).
-- In order: its parts; the layout and its limits; the proof; the bytes; the promises. Assumes nothing.
use Prim.Native.Nat.{ℕ, ◌≤◌}
use native.Mathlib.Omega.{arith}
use mathlib.Core.Bool.{Bool}
use mathlib.Core.Path.{◌≡◌, refl, sym, ap, subst, ◌∙◌}
use mathlib.Core.Logic.Iff
use mathlib.Core.Logic.{◌↔◌}
use mathlib.Core.List.{List, ◌∷◌, map}
use lib.ListN.{length, length-map}
use Rattle.basics.specs.Membership.{◌∈◌, ◌⊆◌}
use Rattle.basics.specs.Limits.{most_steps}
use Rattle.basics.proofs.Membership.{first, added}
use Rattle.logic.specs.Proposition.{Proposition}
use Rattle.logic.specs.Judgment.{truth}
use Rattle.logic.specs.Principals.{Relation, Decides}
use Rattle.logic.specs.Derivation.{Derivation}
use Rattle.logic.specs.Depth.{step_depths}
use Rattle.table.specs.Number.{position, number}
use Rattle.steps.specs.Words.{words}
use Rattle.signers.proofs.Each.{signers_are}
use Rattle.record.specs.Verdict.{Granted}
use Rattle.record.specs.Layout as File
use Rattle.record.specs.Layout.{record_layout, signers}
use Rattle.record.specs.Answer.{record_answer}
use Rattle.record.specs.Proof.{InRange, Keeps, stated_by, goal_of, IsProof}
use Rattle.record.specs.Carries.{Carries}
use Rattle.record.specs.Promises.{Small}
use Rattle.record.proofs.LayoutIs.{bounded}
use Rattle.record.proofs.Granted.{granted_exactly}
use Rattle.record.proofs.Carries.{signers_carry}
use Rattle.record.proofs.Small.{answers_small}
use Rattle.encoding.specs.Table.{heads_of, seconds_of}
use Rattle.encoding.specs.Laid.{laid_words, LaidOut, AreWords}
use Rattle.encoding.specs.Record.{Within, CarriedBy, record_formulas, record_fields, record_parts, encoded_record, EncodedIsRecord, EveryProofHasARecord}
use Rattle.encoding.proofs.Laid.{laid_out_is, bytes_of_words, no_words, one_word, words_laid}
use Rattle.encoding.proofs.Steps.{Steps, steps, some_step}
use Rattle.encoding.proofs.Renamed.{Renamed, renamed}
use Rattle.encoding.proofs.Table.{length_heads, length_seconds}
use Rattle.encoding.proofs.Prepared.{Prepared, prepared, numbers_in, number_most, number_words, ordered, none_repeated, number_is, spells_one, spells_all}
use Rattle.encoding.proofs.Position.{member_of, position_in}

module _ {R : Relation} {Γ : List Proposition} {A : Proposition} (D : Derivation R Γ (truth A))
    (within : Within D) where
  abbrev formulas : List Proposition
  formulas = record_formulas D

  abbrev file : List ℕ
  file = encoded_record D

  its_table : Prepared (A ∷ Γ) formulas
  its_table = prepared (A ∷ Γ) within.few_formulas

  goal_stands : A ∈ formulas
  goal_stands = its_table.holds A first

  statements_stand : Γ ⊆ formulas
  statements_stand B m = its_table.holds B (added A B m)

  word_steps : Steps (step_depths 1 D) (words (position formulas) D)
  word_steps = steps (position formulas) (number_most its_table) 1 D

  few_steps : length (words (position formulas) D) ≤ most_steps
  few_steps = let few = within.few_steps in omega (arith, word_steps.as_many)

  -- ---- its parts

  laid_out : LaidOut record_layout (record_fields D) (record_parts D)
  laid_out = laid_out_is record_layout bounded (record_fields D) (record_parts D) record {
    each_field = refl;
    each_part =
        let many-heads = length_heads formulas in
        let many-seconds = length_seconds formulas in
        let many-numbers : length (map (position formulas) Γ) ≡ length Γ = length-map Γ (position formulas) in
        cc;
  }

  formulas_are : File.formulas file ≡ length formulas
  formulas_are = laid_out.field_is 0 (omega arith)

  statement_count_is : File.statement_count file ≡ length Γ
  statement_count_is = laid_out.field_is 1 (omega arith)

  step_count_is : File.step_count file ≡ length (words (position formulas) D)
  step_count_is = laid_out.field_is 2 (omega arith)

  goal_number : File.goal file ≡ position formulas A
  goal_number = laid_out.field_is 3 (omega arith)

  heads_are : File.heads file ≡ heads_of formulas
  heads_are = laid_out.part_is 0

  seconds_are : File.seconds file ≡ seconds_of formulas
  seconds_are = laid_out.part_is 1

  numbers_are : File.statements file ≡ map (position formulas) Γ
  numbers_are = laid_out.part_is 2

  goal_spells : goal_of file ≡ A
  goal_spells = rw goal_number (spells_one its_table heads_are seconds_are goal_stands)

  statements_spell : stated_by file ≡ Γ
  statements_spell = rw numbers_are (spells_all its_table heads_are seconds_are Γ statements_stand)

  steps_are : File.steps file ≡ words (number (File.table file)) D
  steps_are =
      let same_numbers = number_is its_table heads_are seconds_are in
      laid_out.part_is 3 ∙ ap (λ (n : Proposition → ℕ). words n D) (sym same_numbers)

  -- ---- the layout and its limits

  in_range : InRange file
  in_range =
      let few = its_table.few in
      let stands = position_in goal_stands in
      record {
        some_formulas = omega (arith, formulas_are);
        few_formulas = omega (arith, formulas_are);
        few_statements = let few = within.few_statements in omega (arith, statement_count_is);
        some_steps = omega (arith, step_count_is, word_steps.as_many, some_step D);
        few_steps = omega (arith, step_count_is, few_steps);
      }

  keeps : Keeps file
  keeps = record {
    sized = record { in_range = in_range; length_is = laid_out.length_is };
    ordered = ordered its_table heads_are seconds_are;
    none_repeated = none_repeated its_table heads_are seconds_are;
    goal_in = omega (arith, position_in goal_stands, formulas_are, goal_number);
    statements_in =
        λ n m. omega (arith, formulas_are, numbers_in formulas statements_stand n (member_of numbers_are m));
  }

  -- ---- the proof

  its_own : Renamed D (stated_by file) (goal_of file)
  its_own = renamed D (sym statements_spell) (sym goal_spells)

  is_proof : IsProof R file
  is_proof = record {
    derivation = its_own.derivation;
    within = λ d m. within.not_deep d (member_of its_own.same_depths m);
    words = steps_are ∙ sym (its_own.same_words (number (File.table file)));
  }

  carried : (K : ℕ) → Carries is_proof K ↔ CarriedBy D K
  unfolding is_proof
  carried K = (
    λ c. record {
      said = c.said;
      stated = member_of statements_spell c.stated;
      named = member_of its_own.same_names c.named;
    },
    λ c. record {
      said = c.said;
      stated = member_of (sym statements_spell) c.stated;
      named = member_of (sym its_own.same_names) c.named;
    },
  )

  -- ---- the bytes

  its_words : AreWords (laid_words (record_fields D) (record_parts D))
  its_words =
      let few = its_table.few in
      let few_statements = within.few_statements in
      words_laid (record_fields D) (record_parts D)
      (one_word (omega arith)
      (one_word (omega arith)
      (one_word (omega (arith, few_steps)) (one_word (omega (arith, position_in goal_stands)) no_words)))) (
        its_table.head_words,
        (its_table.second_words, (number_words its_table statements_stand, (word_steps.are_words, tt))),
      )

-- ---- the promises

module _ (speaks : ℕ → ℕ → Bool) (R : Relation) (decides : Decides speaks R) where
  pub encoded_is_record : EncodedIsRecord speaks R
  encoded_is_record Γ A D within =
      let file = encoded_record D in
      let count : ℕ = length (signers file) in
      let carries = signers_carry speaks R decides file (keeps D within) (is_proof D within) in
      let granted : (room : ℕ) → count ≤ room → record_answer speaks file room ≡ Granted count =
      λ room room_for. (granted_exactly speaks R decides file room count).1 record {
        keeps = keeps D within;
        is_proof = is_proof D within;
        fits = room_for;
        counted = refl;
      } in
      record {
        bytes = bytes_of_words (laid_words (record_fields D) (record_parts D)) (its_words D within);
        goal_is = goal_spells D within;
        statements_are = statements_spell D within;
        steps_are = steps_are D within;
        signed = λ K. Iff.trans (carries K) (carried D within K);
        rising = (signers_are (File.table file) (File.statements file) (File.says_left_numbers file)).rising;
        few_signers = subst Small (granted count (omega arith)) (answers_small speaks file count);
        granted = granted;
      }

  pub every_proof_has_a_record : EveryProofHasARecord speaks R
  every_proof_has_a_record Γ A D within = (encoded_record D, encoded_is_record Γ A D within)
