-- Old releases keep their goals (specs/OldReleases.antt): a release has a derivation, and equal says that the lists are
-- equal in force. Assumes nothing.
use Prim.Native.Nat.{ℕ}
use mathlib.Core.Bool.{Bool}
use mathlib.Core.Path.{◌≡◌, refl, sym, subst}
use mathlib.Core.Logic.Iff
use mathlib.Core.Logic.{◌⊎◌, inl, inr, ⊎_elim}
use mathlib.Core.List.Memᴰ
use mathlib.Core.List.{List, [], ◌∷◌, ◌++◌}
use Rattle.basics.specs.Membership.{◌∈◌, ◌⊆◌}
use Rattle.basics.proofs.Membership.{⊆_left, ⊆_right}
use Rattle.logic.specs.Proposition.{Proposition, atom, false, ◌implies◌, ◌and◌, ◌or◌, ◌says◌}
use Rattle.logic.specs.Signed.{SignedBy, Anybody}
use Rattle.logic.specs.Principals.{Relation, Reflexive, Transitive, Lawful}
use Rattle.logic.specs.Force.{HasProof}
use Rattle.logic.proofs.Promises.{for_every_relation}
use Rattle.record.specs.Proof.{stated_by, goal_of}
use Rattle.exchange.specs.Layout.{first_list, second_list}
use Rattle.exchange.proofs.Equal.{equal_only_in_force}
use Rattle.demands.specs.Release.{Release}
use Rattle.demands.specs.OldReleases.{spelled_in, KeptByForce, KeptByExchange, paper, papers_of, PapersAre, OrdersAmong, OrdersOfSamples, OldReleasesKept}

-- A release has a proof of its goal from its statements.
proved : (R : Relation) (file : List ℕ) (room : ℕ) → Release R file room → HasProof R (stated_by file) (goal_of file)
proved R file room release = release.is_proof.derivation

pub kept_by_force : (R : Relation) → Reflexive R → Transitive R → KeptByForce R
kept_by_force R reflexive transitive old new papers force file room release among =
    (for_every_relation R reflexive transitive).any_release_kept old new papers (stated_by file) (goal_of file) force among
    (proved R file room release)

pub kept_by_exchange : (speaks : ℕ → ℕ → Bool) (R : Relation) → Lawful speaks R → KeptByExchange speaks R
kept_by_exchange speaks R lawful exchange equal papers file room release =
    let force = equal_only_in_force speaks R lawful exchange equal in
    let first = spelled_in exchange (first_list exchange) in
    let second = spelled_in exchange (second_list exchange) in
    let kept = kept_by_force R lawful.reflexive lawful.transitive in (
      kept first second papers force file room release,
      kept second first papers (λ A. Iff.symm (force A)) file room release,
    )

-- A statement is a signed paper, or a standing order.
signed_or_not : (A : Proposition) → (A ∈ paper A) ⊎ (¬ SignedBy Anybody A)
signed_or_not (atom a) = inr (λ none. none)
signed_or_not false = inr (λ none. none)
signed_or_not (A implies B) = inr (λ none. none)
signed_or_not (A and B) = inr (λ none. none)
signed_or_not (A or B) = inr (λ none. none)
signed_or_not (K says A) = inl (Memᴰ.head refl)

-- A statement's paper is among the papers.
paper_among : (Γ : List Proposition) (A : Proposition) → A ∈ Γ → paper A ⊆ papers_of Γ
paper_among [] A m C i = absurd (Memᴰ.not-nil m)
paper_among (B ∷ Γ) A m C i =
    ⊎_elim (λ e. ⊆_left (papers_of Γ) C (subst (λ B. C ∈ paper B) e i)) (λ n. ⊆_right (paper B) C (paper_among Γ A n C i)) (Memᴰ.cases_cons m)

-- Statements whose orders are among these are among them and the papers.
pub orders_and_papers : (statements orders : List Proposition) → OrdersAmong statements orders → statements ⊆ orders ++ papers_of statements
orders_and_papers statements orders among A m =
    ⊎_elim (λ i. ⊆_right orders A (paper_among statements A m A i)) (λ unsigned. ⊆_left (papers_of statements) A (among A m unsigned)) (signed_or_not A)

pub old_releases_kept : (speaks : ℕ → ℕ → Bool) (R : Relation) → Lawful speaks R → OldReleasesKept speaks R
old_releases_kept speaks R lawful exchange equal file room release =
    let stated = stated_by file in
    let (forth, back) = kept_by_exchange speaks R lawful exchange equal (papers_of stated) file room release in (
      λ among. forth (orders_and_papers stated (spelled_in exchange (first_list exchange)) among),
      λ among. back (orders_and_papers stated (spelled_in exchange (second_list exchange)) among),
    )

-- ---- papers and orders

-- A statement's paper is that statement, and signed.
paper_is : (B A : Proposition) → A ∈ paper B → (A ≡ B) × SignedBy Anybody A
paper_is (atom a) A m = absurd (Memᴰ.not-nil m)
paper_is false A m = absurd (Memᴰ.not-nil m)
paper_is (B implies C) A m = absurd (Memᴰ.not-nil m)
paper_is (B and C) A m = absurd (Memᴰ.not-nil m)
paper_is (B or C) A m = absurd (Memᴰ.not-nil m)
paper_is (K says B) A m =
    ⊎_elim (λ e. (e, subst (SignedBy Anybody) (sym e) tt)) (λ n. absurd (Memᴰ.not-nil n)) (Memᴰ.cases_cons m)

-- Papers are statements, and signed.
papers_signed : (Γ : List Proposition) (A : Proposition) → A ∈ papers_of Γ → (A ∈ Γ) × SignedBy Anybody A
papers_signed [] A m = absurd (Memᴰ.not-nil m)
papers_signed (B ∷ Γ) A m =
    ⊎_elim (λ i. let (e, signed) = paper_is B A i in (Memᴰ.head e, signed))
    (λ i. let (stands, signed) = papers_signed Γ A i in (Memᴰ.tail stands, signed))
    (Memᴰ.append_cases (paper B) m)

pub papers_are : PapersAre
papers_are Γ A = (
  papers_signed Γ A,
  λ (stands, signed). ⊎_elim (paper_among Γ A stands A) (λ unsigned. absurd (unsigned signed)) (signed_or_not A),
)

pub orders_of_samples : OrdersOfSamples
orders_of_samples = (
  λ A m unsigned. ⊎_elim (λ e. absurd (unsigned (subst (SignedBy Anybody) (sym e) tt))) (λ n. n) (Memᴰ.cases_cons m),
  λ among. Memᴰ.not-nil (among (atom 0) (Memᴰ.head refl) (λ signed. signed)),
)
