-- The same for exchange files: two lists have one that is found equal exactly when each has derivations of the other's
-- statements within the limits. For every test on principals and the relation that it decides; Figure1.antt fixes them.
-- Proved in proofs/Exchange.antt and proofs/Exchanged.antt. Assumes nothing.
use Rattle.std.specs.Prelude.{ℕ, Bool, ◌≡◌, ◌↔◌, List, [], ◌∷◌, ◌++◌, map, length}
use Rattle.logic.specs.Proposition.{Proposition, atom}
use Rattle.logic.specs.Judgment.{truth}
use Rattle.logic.specs.Principals.{Relation}
use Rattle.logic.specs.Derivation.{Derivation}
use Rattle.logic.specs.Depth.{step_depths}
use Rattle.table.specs.Spelled.{spell_all}
use Rattle.table.specs.Number.{position, number}
use Rattle.steps.specs.Words.{words}
use Rattle.exchange.specs.Verdict.{Equal}
use Rattle.exchange.specs.Layout.{first_list, second_list, steps, table}
use Rattle.exchange.specs.Answer.{exchange_answer}
use Rattle.encoding.specs.Bounds.{FewFormulas, FewStatements, FewSteps, NotDeep}
use Rattle.encoding.specs.Subformulas.{subformulas}
use Rattle.encoding.specs.Table.{heads_of, seconds_of}
use Rattle.encoding.specs.Laid.{laid, AreBytes}

-- ---- the derivations

module _ (R : Relation) where
  -- "one for every position, so a statement that stands twice is proved twice" (01): of each of As from Γ
  abbrev pub DerivationOfEach : List Proposition → List Proposition → Type 0
  DerivationOfEach Γ [] = Unit
  DerivationOfEach Γ (A ∷ As) = Derivation R Γ (truth A) × DerivationOfEach Γ As

  -- their words, one after the other
  abbrev pub words_of_all : (Proposition → ℕ) → (Γ As : List Proposition) → DerivationOfEach Γ As → List ℕ
  words_of_all number Γ [] none = []
  words_of_all number Γ (A ∷ As) (D, Ds) = words number D ++ words_of_all number Γ As Ds

  -- the depths of their steps; "depth starts at 1 in each proof"
  abbrev pub depths_of_all : (Γ As : List Proposition) → DerivationOfEach Γ As → List ℕ
  depths_of_all Γ [] none = []
  depths_of_all Γ (A ∷ As) (D, Ds) = step_depths 1 D ++ depths_of_all Γ As Ds

-- "a proof of each statement of the second list from the first, in order, then of each of the first from the second"
pub record Exchange (R : Relation) (first second : List Proposition) : Type 0 where
  pub second_from_first : DerivationOfEach R first second
  pub first_from_second : DerivationOfEach R second first

module _ {R : Relation} {first second : List Proposition} (E : Exchange R first second) where
  -- their words and the depths of their steps, in this order
  abbrev pub exchange_words : (Proposition → ℕ) → List ℕ
  exchange_words number =
      words_of_all R number first second E.second_from_first
      ++ words_of_all R number second first E.first_from_second

  abbrev pub exchange_depths : List ℕ
  exchange_depths =
      depths_of_all R first second E.second_from_first
      ++ depths_of_all R second first E.first_from_second

-- "Sizes F, S1, S2, N; here N may be 0 to 16,384 and each list 0 to 256" (01), and the depth.
pub record WithinExchange {R : Relation} {first second : List Proposition} (E : Exchange R first second) : Type 0 where
  pub few_formulas : FewFormulas (first ++ second)
  pub few_first : FewStatements (length first)
  pub few_second : FewStatements (length second)
  pub few_steps : FewSteps (length (exchange_depths E))
  pub not_deep : NotDeep (exchange_depths E)

-- ---- their file

-- A table has one entry at least: for two empty lists an atom.
abbrev pub or_atom : List Proposition → List Proposition
or_atom [] = atom 0 ∷ []
or_atom (A ∷ As) = A ∷ As

module _ {R : Relation} {first second : List Proposition} (E : Exchange R first second) where
  -- the formulas of its table
  abbrev pub exchange_formulas : List Proposition
  exchange_formulas = subformulas (or_atom (first ++ second))

  -- "Sizes F, S1, S2, N"
  abbrev pub exchange_fields : List ℕ
  exchange_fields =
      length exchange_formulas
      ∷ length first
      ∷ length second
      ∷ length (exchange_words E (position exchange_formulas))
      ∷ []

  -- "Then heads, seconds, the first list, the second list, N step words"
  abbrev pub exchange_parts : List (List ℕ)
  exchange_parts =
      heads_of exchange_formulas
      ∷ seconds_of exchange_formulas
      ∷ map (position exchange_formulas) first
      ∷ map (position exchange_formulas) second
      ∷ exchange_words E (position exchange_formulas)
      ∷ []

  abbrev pub encoded_exchange : List ℕ
  encoded_exchange = laid exchange_fields exchange_parts

-- A file of bytes that has these two lists, whose steps are these derivations, and that is found equal.
pub record ExchangeOf (speaks : ℕ → ℕ → Bool) {R : Relation} {first second : List Proposition}
    (E : Exchange R first second) (file : List ℕ) : Type 0 where
  pub bytes : AreBytes file
  pub first_is : spell_all (table file) (first_list file) ≡ first
  pub second_is : spell_all (table file) (second_list file) ≡ second
  pub steps_are : steps file ≡ exchange_words E (number (table file))
  pub equal : exchange_answer speaks file ≡ Equal

-- An exchange file of these two lists that is found equal.
pub record Exchanged (speaks : ℕ → ℕ → Bool) (first second : List Proposition) : Type 0 where
  pub file : List ℕ
  pub bytes : AreBytes file
  pub first_is : spell_all (table file) (first_list file) ≡ first
  pub second_is : spell_all (table file) (second_list file) ≡ second
  pub equal : exchange_answer speaks file ≡ Equal

-- ---- what is promised

module _ (speaks : ℕ → ℕ → Bool) (R : Relation) where
  -- The file above is an exchange file of these derivations;
  abbrev pub EncodedIsExchange : Type 0
  EncodedIsExchange =
      (first second : List Proposition) (E : Exchange R first second)
      → WithinExchange E → ExchangeOf speaks E (encoded_exchange E)

  -- so every exchange within the limits has one.
  abbrev pub EveryExchangeHasAFile : Type 0
  EveryExchangeHasAFile =
      (first second : List Proposition) (E : Exchange R first second)
      → WithinExchange E → (file : List ℕ) × ExchangeOf speaks E file

  -- Two lists have a file that is found equal exactly when they have such derivations within the limits.
  abbrev pub ExchangedExactly : Type 0
  ExchangedExactly =
      (first second : List Proposition)
      → ((E : Exchange R first second) × WithinExchange E) ↔ Exchanged speaks first second
