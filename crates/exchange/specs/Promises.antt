-- What is promised of the answers: demand 3 for exchange files, for every test on principals and, where a proof is
-- spoken of, the relation that it decides. Each is proved in proofs/ under its name in small letters, and fixed to
-- Figure 1 in Figure1.antt. Assumes nothing.
use Rattle.std.specs.Prelude.{ℕ, suc, ◌+◌, ◌≤◌, ◌<◌, Bool, ◌≡◌, ◌↔◌, List, length, take, Err}
use Rattle.basics.specs.Limits.{most_steps}
use Rattle.basics.specs.Order.{FirstReason, checking_order}
use Rattle.logic.specs.Principals.{Relation}
use Rattle.exchange.specs.Verdict.{ExchangeVerdict, Equal, Refused}
use Rattle.exchange.specs.Layout.{first_count, second_count, step_count, first_list, second_list, most_bytes, table}
use Rattle.exchange.specs.Answer.{exchange_answer}
use Rattle.exchange.specs.Proofs.{Keeps, CarriesAll}
use Rattle.exchange.specs.Force.{EqualInForce}
use Rattle.exchange.specs.Reasons.{Reason}

module _ (speaks : ℕ → ℕ → Bool) (R : Relation) where
  -- "The exchange check says equal exactly for the exchange files within the limits that carry all these proofs,
  abbrev pub EqualExactly : Type 0
  EqualExactly = (file : List ℕ) → exchange_answer speaks file ≡ Equal ↔ (Keeps file × CarriesAll R file)

  -- and so only for lists equal in force." (demand 3) The same lists of numbers as `CarriesAll` has.
  abbrev pub EqualOnlyInForce : Type 0
  EqualOnlyInForce =
      (file : List ℕ) → exchange_answer speaks file ≡ Equal
      → EqualInForce R (table file) (first_list file) (second_list file)

-- How large a refusal can be.
abbrev pub Small : ExchangeVerdict → Type 0
Small Equal = Unit
Small (Err refusal) = (1 ≤ refusal.number) × (refusal.number ≤ 15) × (refusal.place ≤ most_steps)

module _ (speaks : ℕ → ℕ → Bool) where
  -- Every other file, of any bytes and length, is refused by the first reason in the checking order that applies, with
  -- its place.
  abbrev pub RefusedExactly : Type 0
  RefusedExactly =
      (file : List ℕ) (number p : ℕ)
      → exchange_answer speaks file ≡ Refused number p ↔ FirstReason checking_order (Reason speaks file) number p

  -- "a refusal of the list above without 6 and 8" (01)
  abbrev pub NeverSixOrEight : Type 0
  NeverSixOrEight =
      (file : List ℕ) (p : ℕ)
      → (¬ (exchange_answer speaks file ≡ Refused 6 p)) × (¬ (exchange_answer speaks file ≡ Refused 8 p))

  -- "within the limits" is that none of 1 to 5 and 7 applies. (How deep the steps of the proofs are is in
  -- `CarriesAll`.)
  abbrev pub KeepsExactly : Type 0
  KeepsExactly = (file : List ℕ) → Keeps file ↔ ((number p : ℕ) → number ≤ 7 → ¬ Reason speaks file number p)

  -- "Two empty lists with N = 0 are equal." (01)
  abbrev pub EmptyListsEqual : Type 0
  EmptyListsEqual =
      (file : List ℕ) → Keeps file → first_count file ≡ 0 → second_count file ≡ 0 → step_count file ≡ 0
      → exchange_answer speaks file ≡ Equal

  -- "one for every position, so a statement that stands twice is proved twice" (01): `EqualExactly` has a derivation
  -- for every position. Each has a word at least, so a file with fewer steps than positions is never found equal.
  abbrev pub ProvedAtEachPosition : Type 0
  ProvedAtEachPosition =
      (file : List ℕ) → exchange_answer speaks file ≡ Equal → first_count file + second_count file ≤ step_count file

  abbrev pub AnswersSmall : Type 0
  AnswersSmall = (file : List ℕ) → Small (exchange_answer speaks file)

  -- A file longer than the longest exchange file has the answer of its first bytes, one more than the longest has.
  abbrev pub LongerFile : Type 0
  LongerFile =
      (file : List ℕ) → most_bytes < length file
      → exchange_answer speaks file ≡ exchange_answer speaks (take (suc most_bytes) file)
