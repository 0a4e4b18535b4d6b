-- Derivations of each of a list (specs/Exchange.antt): their words and depths; where the lists are equal to others; and
-- as the proofs that a file carries, with the same words. Assumes nothing.
use Prim.Native.Nat.{ℕ, ◌≤◌}
use mathlib.Core.Path.{◌≡◌, refl, ap, subst₂}
use mathlib.Core.Logic.{⊎_elim}
use mathlib.Core.List.Memᴰ
use mathlib.Core.List.{List, [], ◌∷◌, ◌++◌}
use Rattle.basics.specs.Limits.{most_formulas}
use Rattle.basics.proofs.Membership.{⊆_left, ⊆_right}
use Rattle.logic.specs.Proposition.{Proposition}
use Rattle.logic.specs.Principals.{Relation}
use Rattle.logic.specs.Depth.{step_depths}
use Rattle.table.specs.declared.entry.Entry.{Entry}
use Rattle.table.specs.Spelled.{spell_all}
use Rattle.table.specs.Number.{number}
use Rattle.steps.specs.Words.{words}
use Rattle.exchange.specs.Proofs.{ProofOfEach, words_of_each}
use Rattle.encoding.specs.Bounds.{NotDeep}
use Rattle.encoding.specs.Exchange.{DerivationOfEach, words_of_all, depths_of_all, Exchange, exchange_words, exchange_depths}
use Rattle.encoding.proofs.Steps.{Steps, nothing, both, steps}

-- ---- words and depths

module _ (R : Relation) (number : Proposition → ℕ) (most : (A : Proposition) → number A ≤ most_formulas) where
  all_steps : (Γ As : List Proposition) (Ds : DerivationOfEach R Γ As)
      → Steps (depths_of_all R Γ As Ds) (words_of_all R number Γ As Ds)
  all_steps Γ [] none = nothing
  all_steps Γ (A ∷ As) (D, Ds) = both _ _ _ _ (steps number most 1 D) (all_steps Γ As Ds)

  pub exchange_steps : {first second : List Proposition} (E : Exchange R first second)
      → Steps (exchange_depths E) (exchange_words E number)
  exchange_steps {first} {second} E =
      both _ _ _ _ (all_steps first second E.second_from_first) (all_steps second first E.first_from_second)

-- ---- equal lists

module _ {R : Relation} {first second : List Proposition} (E : Exchange R first second) where
  pub record RenamedExchange (first' second' : List Proposition) : Type 0 where
    pub exchange : Exchange R first' second'
    pub same_depths : exchange_depths exchange ≡ exchange_depths E
    pub same_words : (number : Proposition → ℕ) → exchange_words exchange number ≡ exchange_words E number

  pub renamed_exchange : {first' second' : List Proposition} → first ≡ first' → second ≡ second'
      → RenamedExchange first' second'
  renamed_exchange e f =
      subst₂ RenamedExchange e f record { exchange = E; same_depths = refl; same_words = λ number. refl }

-- ---- what a file carries

-- No step of two lists is deep exactly when none of either is.
pub deep_both : (ds es : List ℕ) → NotDeep ds → NotDeep es → NotDeep (ds ++ es)
deep_both ds es left right d m = ⊎_elim (left d) (right d) (Memᴰ.append_cases ds m)

pub deep_left : (ds es : List ℕ) → NotDeep (ds ++ es) → NotDeep ds
deep_left ds es within d m = within d (⊆_left es d m)

pub deep_right : (ds es : List ℕ) → NotDeep (ds ++ es) → NotDeep es
deep_right ds es within d m = within d (⊆_right ds d m)

module _ (R : Relation) (es : List Entry) (statements : List ℕ) where
  -- derivations of what these numbers spell
  abbrev OfEach : List ℕ → Type 0
  OfEach goals = DerivationOfEach R (spell_all es statements) (spell_all es goals)

  -- derivations that aren't deep are proofs
  abbrev pub to_proofs : (goals : List ℕ) (Ds : OfEach goals)
      → NotDeep (depths_of_all R (spell_all es statements) (spell_all es goals) Ds) → ProofOfEach R es statements goals
  to_proofs [] none within = tt
  to_proofs (n ∷ ns) (D, Ds) within = (
    record { derivation = D; within = deep_left (step_depths 1 D) _ within },
    to_proofs ns Ds (deep_right (step_depths 1 D) _ within),
  )

  pub to_words : (goals : List ℕ) (Ds : OfEach goals)
      (within : NotDeep (depths_of_all R (spell_all es statements) (spell_all es goals) Ds))
      → words_of_each R es statements goals (to_proofs goals Ds within)
      ≡ words_of_all R (number es) (spell_all es statements) (spell_all es goals) Ds
  to_words [] none within = refl
  to_words (n ∷ ns) (D, Ds) within = ap (λ (l : List ℕ). words (number es) D ++ l) (to_words ns Ds _)

  -- and proofs are such derivations
  abbrev pub of_proofs : (goals : List ℕ) → ProofOfEach R es statements goals → OfEach goals
  of_proofs [] none = tt
  of_proofs (n ∷ ns) (p, ps) = (p.derivation, of_proofs ns ps)

  pub of_words : (goals : List ℕ) (ps : ProofOfEach R es statements goals)
      → words_of_all R (number es) (spell_all es statements) (spell_all es goals) (of_proofs goals ps)
      ≡ words_of_each R es statements goals ps
  of_words [] none = refl
  of_words (n ∷ ns) (p, ps) = ap (λ (l : List ℕ). words (number es) p.derivation ++ l) (of_words ns ps)

  pub not_deep : (goals : List ℕ) (ps : ProofOfEach R es statements goals)
      → NotDeep (depths_of_all R (spell_all es statements) (spell_all es goals) (of_proofs goals ps))
  not_deep [] none = λ d m. absurd (Memᴰ.not-nil m)
  not_deep (n ∷ ns) (p, ps) = deep_both (step_depths 1 p.derivation) _ p.within (not_deep ns ps)
