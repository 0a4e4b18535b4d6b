-- A's grant and C's refusal (specs/ReleaseSamples.antt). Assumes nothing.
use Prim.Native.Nat.{ℕ}
use mathlib.Core.Path.{◌≡◌, refl, sym, ap, subst, ◌∙◌}
use mathlib.Core.List.Memᴰ
use mathlib.Core.List.{List, [], ◌∷◌, ◌++◌}
use lib.ListN.{length, drop}
use Rattle.basics.specs.First.{first as first_place}
use Rattle.basics.specs.Membership.{◌∈◌, holds}
use Rattle.basics.specs.Rising.{Rising, into}
use Rattle.basics.proofs.Rising.{one_rising}
use Rattle.basics.specs.Refusals.{first_refusal}
use Rattle.basics.proofs.Membership.{first}
use Rattle.logic.specs.Proposition.{Proposition, atom, ◌says◌}
use Rattle.file.specs.Words.{file_words, file_of}
use Rattle.table.specs.Entry.{entry}
use Rattle.table.specs.Tests.{entries, wrong_entry, repeated_entry}
use Rattle.table.specs.Spelled.{spelled, spelled_after}
use Rattle.steps.specs.Step.{opens, step}
use Rattle.steps.specs.Run.{walk, run}
use Rattle.steps.specs.Naming.{is_naming, named_numbers}
use Rattle.signers.specs.Signers.{principals, used}
use Rattle.record.specs.Verdict.{Granted, Refused}
use Rattle.record.specs.Layout.{signers}
use Rattle.record.specs.Answer as Every
use Rattle.record.specs.Proof.{stated_by}
use Rattle.record.specs.Carries.{Carries}
use Rattle.record.specs.Figure1.{record_answer, IsProof}
use Rattle.record.specs.Samples.{over_t, bytes_of_a}
use Rattle.record.proofs.Figure1.{granted_exactly, refused_exactly, signers_carry}
use Rattle.demands.specs.ReleaseSamples.{GrantOfA, RefusalOfC}

-- ---- A

stated_by_A : stated_by bytes_of_a ≡ 7 says atom 0 ∷ []
unfolding file_words entries entry spelled spelled_after
stated_by_A = refl

-- It is granted, so there is a proof, and 7 carries it;
granted_A : record_answer bytes_of_a 1 ≡ Granted 1
unfolding Every.record_answer file_words first_refusal wrong_entry repeated_entry first_place into principals used named_numbers
    is_naming run walk step opens holds entries entry
granted_A = refl

seven_listed : 7 ∈ signers bytes_of_a
unfolding file_words into principals used named_numbers is_naming holds entries entry
seven_listed = first

seven_carries : (p : IsProof bytes_of_a) × Carries p 7
seven_carries =
    let g = (granted_exactly bytes_of_a 1 1).0 granted_A in
    (g.is_proof, (signers_carry bytes_of_a g.keeps g.is_proof 7).0 seven_listed)

-- and nobody else has a paper.
only_seven : (K : ℕ) → (p : IsProof bytes_of_a) × Carries p K → K ≡ 7
only_seven K (p, c) =
    let here : (K says c.said) ∈ (7 says atom 0 ∷ []) =
    subst (λ (l : List Proposition). (K says c.said) ∈ l) stated_by_A c.stated in
    let e : K says c.said ≡ 7 says atom 0 = Memᴰ.eq_of_singleton here in cc

-- A rising list of 7 alone has one 7.
one_seven : (names : List ℕ) → ((K : ℕ) → K ∈ names → K ≡ 7) → 7 ∈ names → Rising names → names ≡ 7 ∷ []
one_seven names all m rising =
    one_rising names (7 ∷ []) rising (λ n i. absurd (Memᴰ.not-nil i), tt)
    (λ n. (λ i. Memᴰ.head (all n i), λ i. Memᴰ.cast (Memᴰ.eq_of_singleton i) m))

pub grant_of_a : GrantOfA
grant_of_a answer before after g =
    let each = g.signers.each in
    let e : g.names ≡ 7 ∷ [] = one_seven g.names (λ K m. only_seven K ((each K).0 m)) ((each 7).1 seven_carries)
    g.signers.rising in (
      g.granted ∙ ap (λ (l : List ℕ). Granted (length l)) e,
      g.written ∙ ap (λ (l : List ℕ). l ++ drop (length l) before) e,
    )

-- ---- C

answer_to_C : record_answer (file_of (over_t (1 ∷ []) 0 (45057 ∷ []))) 1 ≡ Refused 14 0
unfolding Every.record_answer file_words file_of first_refusal wrong_entry repeated_entry first_place into principals used
    named_numbers is_naming run walk step opens holds entries entry
answer_to_C = refl

pub refusal_of_c : RefusalOfC
refusal_of_c answer after r =
    (r.refused ∙ (sym ((refused_exactly _ 1 r.number r.place).1 r.first) ∙ answer_to_C), r.untouched)
