-- Folding in parts, for every reel, and with a record's own papers (specs/Folding.antt). Assumes nothing.
use Prim.Native.Nat.{ℕ}
use mathlib.Core.Bool.{Bool}
use mathlib.Core.Path.{refl, sym, subst}
use mathlib.Core.Logic.Iff
use mathlib.Core.Logic.{⊎_elim}
use mathlib.Core.List.Memᴰ
use mathlib.Core.List.{List, [], ◌∷◌}
use Rattle.basics.specs.First.{first}
use Rattle.basics.specs.Membership.{◌∈◌, holds}
use Rattle.basics.specs.Rising.{into}
use Rattle.basics.specs.Refusals.{first_refusal}
use Rattle.basics.proofs.Membership as In
use Rattle.basics.proofs.Membership.{each_of_none, each_of_more, ⊆_right}
use Rattle.text.specs.Ascii.{ascii}
use Rattle.text.specs.Decimal.{digits, decimal}
use Rattle.file.specs.Words.{file_words, file_of}
use Rattle.logic.specs.Proposition.{Proposition, Atom, Principal, atom, false, ◌implies◌, ◌and◌, ◌or◌, ◌says◌}
use Rattle.logic.specs.Principals.{Relation, Reflexive, Transitive, Lawful}
use Rattle.logic.specs.Force.{EqualInForce}
use Rattle.logic.specs.Signed.{SignedBy, Anybody}
use Rattle.logic.specs.Substitution.{put}
use Rattle.logic.proofs.Promises as Logic
use Rattle.table.specs.Entry.{entry}
use Rattle.table.specs.Spelled.{spelled_after, spelled}
use Rattle.table.specs.Tests.{entries, wrong_entry, repeated_entry}
use Rattle.steps.specs.Step.{opens, step}
use Rattle.steps.specs.Run.{walk, run}
use Rattle.steps.specs.Naming.{is_naming, named_numbers}
use Rattle.signers.specs.Signers.{principals, used}
use Rattle.record.specs.Answer.{record_answer}
use Rattle.record.specs.Proof.{stated_by}
use Rattle.exchange.specs.Answer.{exchange_answer}
use Rattle.exchange.proofs.Equal.{equal_only_in_force}
use Rattle.line.specs.RefusedLine.{refused_line}
use Rattle.line.specs.RecordLine.{listed, record_line}
use Rattle.line.specs.ExchangeLine.{exchange_line}
use Rattle.demands.specs.OldReleases.{papers_of}
use Rattle.demands.proofs.OldReleases.{kept_by_force, orders_and_papers, papers_are}
use Rattle.lessons.specs.Folding.{both_lists, ListsOfK, ExchangedInParts, OwnPapersByForce, OnlyOrders, OnlyOrdersAre, PapersKept, NobodyNewSigns, OrdersThatSign, for_reel, EqualForEveryReel, EqualForAllReels, KeptForEveryReel, OrdersStay, OrdersNeedNotStay}

-- ---- in parts

pub lists_of_k : ListsOfK
unfolding file_words file_of entries entry spelled_after spelled
lists_of_k = refl

pub exchanged_in_parts : (speaks : ℕ → ℕ → Bool) (R : Relation) → Lawful speaks R → ExchangedInParts speaks R
exchanged_in_parts speaks R lawful exchanges each =
    (Logic.for_every_relation R lawful.reflexive lawful.transitive).force_in_parts _ (λ p i.
    let (x, stands, is) = Memᴰ.of_map both_lists exchanges i in
    subst (λ q. EqualInForce R q.first q.second) is (equal_only_in_force speaks R lawful x (each x stands)))

-- ---- with the record's own papers

pub own_papers_by_force : (R : Relation) → Reflexive R → Transitive R → OwnPapersByForce R
own_papers_by_force R reflexive transitive old new force file room release among =
    let stated = stated_by file in
    kept_by_force R reflexive transitive old new (papers_of stated) force file room release
    (orders_and_papers stated old among)

pub papers_kept : PapersKept
papers_kept new stated only K A =
    let (paper, papers) = papers_are stated (K says A) in (
      λ m. ⊎_elim (λ i. absurd (only (K says A) i tt)) (λ i. (paper i).0) (Memᴰ.append_cases new m),
      λ m. ⊆_right new (K says A) (papers (m, tt)),
    )

-- one order more, of a form that isn't what somebody says
no_paper : {A : Proposition} {Γ : List Proposition} → ¬ SignedBy Anybody A
    → ((B : Proposition) → B ∈ Γ → ¬ SignedBy Anybody B) → (B : Proposition) → B ∈ A ∷ Γ → ¬ SignedBy Anybody B
no_paper = each_of_more (λ A. ¬ SignedBy Anybody A)

none_at_all : (B : Proposition) → B ∈ [] → ¬ SignedBy Anybody B
none_at_all = each_of_none (λ A. ¬ SignedBy Anybody A)

pub only_orders_are : OnlyOrdersAre
only_orders_are = (
  no_paper (λ s. s) (no_paper (λ s. s) (no_paper (λ s. s) (no_paper (λ s. s) none_at_all))),
  λ only. only (7 says atom 0) In.second tt,
)

pub nobody_new_signs : (R : Relation) → NobodyNewSigns R
nobody_new_signs R new only old file room release within K m =
    let (p, carries) = (release.signers.each K).0 m in
    let A = carries.said in
    (A, (papers_kept new (stated_by old) only K A).0 (within (K says A) carries.stated))

pub orders_that_sign_lem : OrdersThatSign
unfolding listed record_line refused_line exchange_line ascii decimal digits record_answer exchange_answer file_words
    file_of first_refusal wrong_entry repeated_entry first into principals used named_numbers is_naming run walk step
    opens holds entries entry
orders_that_sign_lem = refl

-- ---- for every reel

pub equal_for_every_reel : (speaks : ℕ → ℕ → Bool) (R : Relation) → Lawful speaks R → EqualForEveryReel speaks R
equal_for_every_reel speaks R lawful exchange equal r respects =
    (Logic.for_every_relation R lawful.reflexive lawful.transitive).force_substituted r.atoms r.principals
    respects _ _ (equal_only_in_force speaks R lawful exchange equal)

pub equal_for_all_reels : (speaks : ℕ → ℕ → Bool) (R : Relation) → Lawful speaks R → EqualForAllReels speaks R
equal_for_all_reels speaks R lawful exchange equal reels respects =
    (Logic.for_every_relation R lawful.reflexive lawful.transitive).force_in_parts _ (λ p i.
    let (r, stands, is) = Memᴰ.of_map (for_reel (both_lists exchange)) reels i in
    subst (λ q. EqualInForce R q.first q.second) is
    (equal_for_every_reel speaks R lawful exchange equal r (respects r stands)))

pub kept_for_every_reel : (speaks : ℕ → ℕ → Bool) (R : Relation) → Lawful speaks R → KeptForEveryReel speaks R
kept_for_every_reel speaks R lawful exchange equal r respects file room release =
    let force = equal_for_every_reel speaks R lawful exchange equal r respects in
    let kept = own_papers_by_force R lawful.reflexive lawful.transitive in (
      λ among. kept _ _ force file room release among,
      λ among. kept _ _ (λ A. Iff.symm (force A)) file room release among,
    )

module _ (atoms : Atom → Atom) (principals : Principal → Principal) where
  -- What becomes a says-formula was one.
  was_signed : (A : Proposition) → SignedBy Anybody (put (λ a. atom (atoms a)) principals A) → SignedBy Anybody A
  was_signed (atom a) s = s
  was_signed false s = s
  was_signed (A implies B) s = s
  was_signed (A and B) s = s
  was_signed (A or B) s = s
  was_signed (K says A) s = tt

pub orders_stay : OrdersStay
orders_stay atoms principals Γ only A m signed =
    let (B, stands, is) = Memᴰ.of_map (put (λ a. atom (atoms a)) principals) Γ m in
    only B stands (was_signed atoms principals B (subst (SignedBy Anybody) (sym is) signed))

pub orders_need_not_stay : OrdersNeedNotStay
orders_need_not_stay = (no_paper (λ s. s) none_at_all, λ only. only (7 says atom 1) In.first tt)
