-- Demands 1 and 2 for a call on a record (specs/Release.antt and Demands.antt). In order: a release is what `GrantSays`
-- of `record` says, over propositions; a file is a release or has a first reason; what a call answers and leaves.
-- Assumes nothing.
use Prim.Native.Nat.{ℕ, ◌≤◌}
use native.Mathlib.Omega.{arith}
use mathlib.Core.Bool.{Bool}
use mathlib.Core.Path.{◌≡◌, refl, sym, subst, ◌∙◌}
use mathlib.Core.Logic.Iff
use mathlib.Core.Logic.{◌↔◌, ◌⊎◌, inl, inr}
use mathlib.Core.List.{List}
use lib.ListN.{length}
use Rattle.std.specs.Prelude.{Err}
use Rattle.logic.specs.Principals.{Relation, Decides}
use Rattle.signers.specs.Each.{Signs, AreSigners}
use Rattle.signers.proofs.Each.{signers_are, one_list}
use Rattle.basics.proofs.Refusals.{same_refusal}
use Rattle.record.specs.Verdict.{RecordVerdict, Granted, Refused}
use Rattle.record.specs.Layout.{table, statements, says_left_numbers, signers}
use Rattle.record.specs.Answer.{record_answer}
use Rattle.record.specs.ListAfter.{list_after}
use Rattle.record.specs.Proof.{Keeps, IsProof}
use Rattle.record.specs.Carries.{Carries}
use Rattle.record.specs.Promises.{GrantSays}
use Rattle.record.proofs.Carries.{signs_carry}
use Rattle.record.proofs.Granted.{granted_exactly}
use Rattle.record.proofs.Reasons.{refused_exactly}
use Rattle.demands.specs.Release.{Signers, Release, GrantedWithSigners, First, RefusedUntouched}

-- ---- a release

module _ (speaks : ℕ → ℕ → Bool) (R : Relation) (decides : Decides speaks R) {file : List ℕ} (keeps : Keeps file)
    (p : IsProof R file) where
  -- Who signs by the words carries by the proof.
  carried : (K : ℕ) → Signs (table file) (statements file) (says_left_numbers file) K
      ↔ ((q : IsProof R file) × Carries q K)
  carried K = (
    λ s. (p, (signs_carry speaks R decides file keeps p K).0 s),
    λ (q, c). (signs_carry speaks R decides file keeps q K).1 c,
  )

  module _ {names : List ℕ} where
    -- The signers over propositions are those of the entries.
    over_proof : AreSigners (table file) (statements file) (says_left_numbers file) names → Signers R file names
    over_proof are = record { each = λ K. Iff.trans (are.each K) (carried K); rising = are.rising }

    over_words : Signers R file names → AreSigners (table file) (statements file) (says_left_numbers file) names
    over_words are = record { each = λ K. Iff.trans (are.each K) (Iff.symm (carried K)); rising = are.rising }

  -- A record has its signers,
  pub has_signers : Signers R file (signers file)
  has_signers = over_proof (signers_are (table file) (statements file) (says_left_numbers file))

  -- and no others.
  pub are_signers : {names : List ℕ} → Signers R file names → names ≡ signers file
  are_signers {names} are = one_list (table file) (statements file) (says_left_numbers file) names (over_words are)

module _ (speaks : ℕ → ℕ → Bool) (R : Relation) (decides : Decides speaks R) (file : List ℕ) (room : ℕ) where
  release : {count : ℕ} → GrantSays R file room count → Release R file room
  release r = record {
    keeps = r.keeps;
    is_proof = r.is_proof;
    names = signers file;
    signers = has_signers speaks R decides r.keeps r.is_proof;
    fits = r.fits;
  }

  releases : Release R file room → GrantSays R file room (length (signers file))
  releases r = record {
    keeps = r.keeps;
    is_proof = r.is_proof;
    fits = subst (λ names. length names ≤ room) (are_signers speaks R decides r.keeps r.is_proof r.signers)
        r.fits;
    counted = refl;
  }

  -- a grant's, and a refusal's
  of_grant : {count : ℕ} → record_answer speaks file room ≡ Granted count → Release R file room
  of_grant e = release ((granted_exactly speaks R decides file room _).0 e)

  of_refusal : {number p : ℕ} → record_answer speaks file room ≡ Refused number p → First speaks file room number p
  of_refusal e = (refused_exactly speaks file room _ _).0 e

  -- ---- one or the other

  decided : (v : RecordVerdict) → record_answer speaks file room ≡ v → Release R file room
      ⊎ ((number : ℕ) × (p : ℕ) × First speaks file room number p)
  decided (Granted count) e = inl (of_grant e)
  decided (Err r) e = inr (r.number, r.place, of_refusal e)

  pub either : Release R file room ⊎ ((number : ℕ) × (p : ℕ) × First speaks file room number p)
  either = decided (record_answer speaks file room) refl

  pub never_both : (number p : ℕ) → Release R file room → ¬ First speaks file room number p
  never_both number p r first =
      let e : Granted (length (signers file)) ≡ Refused number p =
      sym ((granted_exactly speaks R decides file room _).1 (releases r))
      ∙ (refused_exactly speaks file room number p).1 first in
      let z : ◌≡◌ {A = ℕ} 0 1 = cc in omega arith

  pub one_first : (number p other q : ℕ) → First speaks file room number p → First speaks file room other q
      → (number ≡ other) × (p ≡ q)
  one_first number p other q first second =
      same_refusal (sym ((refused_exactly speaks file room number p).1 first) ∙ (refused_exactly speaks file room other q).1 second)

-- ---- calls

module _ (speaks : ℕ → ℕ → Bool) (R : Relation) (decides : Decides speaks R) (file before after : List ℕ) where
  -- what is written where the answer is a grant
  granted_list : Keeps file → IsProof R file → after ≡ list_after file (Granted (length (signers file))) before
      → GrantedWithSigners R file (Granted (length (signers file))) before after
  granted_list keeps p l = record {
    names = signers file;
    signers = has_signers speaks R decides keeps p;
    granted = refl;
    written = l;
  }

  pub granted : (answer : RecordVerdict) → answer ≡ record_answer speaks file (length before)
      → after ≡ list_after file answer before
      → Release R file (length before) → GrantedWithSigners R file answer before after
  granted answer e l r =
      let is : answer ≡ Granted (length (signers file)) =
      e ∙ (granted_exactly speaks R decides file (length before) _).1
      (releases speaks R decides file (length before) r) in
      subst (λ v. after ≡ list_after file v before → GrantedWithSigners R file v before after) (sym is)
      (granted_list r.keeps r.is_proof) l

  pub refused : (answer : RecordVerdict) → answer ≡ record_answer speaks file (length before)
      → after ≡ list_after file answer before
      → ¬ Release R file (length before) → RefusedUntouched speaks file answer before after
  refused (Granted count) e l none = absurd (none (of_grant speaks R decides file (length before) (sym e)))
  refused (Err r) e l none = record {
    number = r.number;
    place = r.place;
    first = of_refusal speaks R decides file (length before) (sym e);
    refused = refl;
    untouched = l;
  }

pub nothing_else :
    (speaks : ℕ → ℕ → Bool) (R : Relation) → Decides speaks R
    → (file : List ℕ) (room count : ℕ) (answer : RecordVerdict)
    → answer ≡ record_answer speaks file room → answer ≡ Granted count → Release R file room
nothing_else speaks R decides file room count answer e is = of_grant speaks R decides file room (sym e ∙ is)
