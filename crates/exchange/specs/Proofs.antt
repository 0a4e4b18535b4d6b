-- "An exchange file carries all these proofs when its step words are, word for word, those of derivations for every
-- position in the order above, with nothing between them and nothing after. It is within the limits when 1 to 5 and 7,
-- read for its layout, don't apply and no step of these proofs is deeper than 10 allows." (01) Assumes nothing.
use Rattle.std.specs.Prelude.{ℕ, ◌≤◌, ◌<◌, ◌≡◌, ◌↔◌, List, [], ◌∷◌, ◌++◌, length}
use Rattle.basics.specs.Membership.{◌∈◌}
use Rattle.basics.specs.Limits.{most_formulas, most_statements, most_steps, most_depth}
use Rattle.file.specs.Layout.{AllFit}
use Rattle.logic.specs.Judgment.{truth}
use Rattle.logic.specs.Principals.{Relation}
use Rattle.logic.specs.Derivation.{Derivation}
use Rattle.logic.specs.Depth.{step_depths}
use Rattle.table.specs.declared.entry.Entry.{Entry}
use Rattle.table.specs.Laws.{Ordered, NoneRepeated}
use Rattle.table.specs.Spelled.{spell, spell_all}
use Rattle.table.specs.Number.{number}
use Rattle.steps.specs.Words as Derived
use Rattle.exchange.specs.Layout.{exchange_layout, formulas, first_count, second_count, step_count, heads, seconds, first_list, second_list, steps, size, table}

-- "F formulas (1 to 4,096)"; "here N may be 0 to 16,384 and each list 0 to 256"
pub record InRange (file : List ℕ) : Type 0 where
  pub some_formulas : 1 ≤ formulas file
  pub few_formulas : formulas file ≤ most_formulas
  pub few_first : first_count file ≤ most_statements
  pub few_second : second_count file ≤ most_statements
  pub few_steps : step_count file ≤ most_steps

-- These are the layout's ranges. Proved in proofs/LayoutIs.antt.
abbrev pub RangesAre : Type 0
RangesAre = (file : List ℕ) → AllFit exchange_layout.fields file 0 ↔ InRange file

-- The sizes are in their ranges, and the length is theirs: 1 to 3 don't apply.
pub record Sized (file : List ℕ) : Type 0 where
  pub in_range : InRange file
  pub length_is : length file ≡ size file

-- 1 to 5 and 7 don't apply
pub record Keeps (file : List ℕ) : Type 0 where
  pub sized : Sized file
  pub ordered : Ordered (table file)
  pub none_repeated : NoneRepeated (heads file) (seconds file)
  pub first_in : (n : ℕ) → n ∈ first_list file → n < formulas file
  pub second_in : (n : ℕ) → n ∈ second_list file → n < formulas file

-- A proof of what a number spells from what these numbers spell: a derivation, and no step of it is deeper than 512.
-- "A proof is a derivation in Figure 1" (demand 2): there R is equality (Figure1.antt).
pub record Proof (R : Relation) (es : List Entry) (statements : List ℕ) (goal : ℕ) : Type 0 where
  pub derivation : Derivation R (spell_all es statements) (truth (spell es goal))
  pub within : (d : ℕ) → d ∈ step_depths 1 derivation → d ≤ most_depth

module _ (R : Relation) where
  -- a proof for every position of a list, in order
  abbrev pub ProofOfEach : List Entry → List ℕ → List ℕ → Type 0
  ProofOfEach es statements [] = Unit
  ProofOfEach es statements (n ∷ ns) = Proof R es statements n × ProofOfEach es statements ns

  -- their words, one after the other
  abbrev pub words_of_each : (es : List Entry) (statements goals : List ℕ) → ProofOfEach es statements goals → List ℕ
  words_of_each es statements [] none = []
  words_of_each es statements (n ∷ ns) (p, rest) =
      Derived.words (number es) p.derivation ++ words_of_each es statements ns rest

-- "a proof of each statement of the second list from the first, in order, then of each of the first from the second":
-- the step words are theirs
pub record CarriesAll (R : Relation) (file : List ℕ) : Type 0 where
  pub second_from_first : ProofOfEach R (table file) (first_list file) (second_list file)
  pub first_from_second : ProofOfEach R (table file) (second_list file) (first_list file)
  pub words :
      steps file
      ≡ words_of_each R (table file) (first_list file) (second_list file) second_from_first
      ++ words_of_each R (table file) (second_list file) (first_list file) first_from_second
