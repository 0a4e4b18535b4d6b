-- The samples hold (specs/Samples.antt), those of answers by computation. Assumes nothing.
use Prim.Native.Nat.{ℕ}
use native.Mathlib.Omega.{arith}
use mathlib.Core.Path.{◌≡◌, refl, sym, subst}
use mathlib.Core.Logic.{⊎_elim}
use mathlib.Core.List.Memᴰ
use mathlib.Core.List.{List, [], ◌∷◌}
use Rattle.basics.specs.First.{first}
use Rattle.basics.specs.Membership.{◌∈◌}
use Rattle.basics.specs.Refusals.{first_refusal}
use Rattle.file.specs.Words.{file_words, file_of}
use Rattle.logic.specs.Proposition.{Proposition, atom}
use Rattle.logic.specs.Principals.{Relation}
use Rattle.logic.specs.Derivation.{init, affirm, says_right, says_left}
use Rattle.logic.specs.Signed.{SignedBy, Himself, OtherThan}
use Rattle.logic.specs.Sides.{seven}
use Rattle.logic.specs.Figure1.{Same}
use Rattle.logic.proofs.FromSigned.{from_signed, none_signed}
use Rattle.table.specs.Entry.{entry}
use Rattle.table.specs.Spelled.{spelled_after, spelled, spell}
use Rattle.table.specs.Tests.{entries, wrong_entry, repeated_entry}
use Rattle.record.specs.Layout.{table}
use Rattle.independence.specs.Test as Test
use Rattle.independence.specs.Answer.{independence_answer}
use Rattle.independence.specs.Samples.{InGoals, InStatements, WithDeputies, OfA, AnySteps, Order, OthersAre, WithoutPaper, Matters, NeedNotMatter, eight, with_paper}

-- ---- sides

pub in_goals : InGoals
unfolding Test.proving_says Test.in_statements
in_goals = refl

pub in_statements_lem : InStatements
unfolding Test.proving_says Test.in_statements
in_statements_lem = refl

pub with_deputies : WithDeputies
unfolding Test.proving_says Test.in_statements
with_deputies = refl

-- ---- whole files

pub of_a : OfA
unfolding independence_answer Test.proving_says Test.in_statements file_words first_refusal wrong_entry repeated_entry first
    entries entry spelled_after spelled
of_a = refl

pub any_steps : AnySteps
unfolding independence_answer Test.proving_says Test.in_statements file_words file_of first_refusal wrong_entry
    repeated_entry first entries entry spelled_after spelled
any_steps = refl

pub order : Order
unfolding independence_answer file_words file_of first_refusal wrong_entry repeated_entry first entries entry
order = refl

-- ---- what is taken out and exchanged

-- What isn't 7's own stands behind his paper.
behind : (A : Proposition) (Γ : List Proposition) → A ∈ seven ∷ Γ → ¬ SignedBy (Himself 7) A → A ∈ Γ
behind A Γ m other =
    ⊎_elim (λ e. absurd (other (subst (SignedBy (Himself 7)) (sym e) refl))) (λ n. n) (Memᴰ.cases_cons m)

no_paper : atom 2 ≡ seven → ⊥
no_paper e = let z : ◌≡◌ {A = ℕ} 0 1 = cc in omega arith

pub others_are : OthersAre
others_are = record {
  taken_out = λ A m other. behind A _ m other;
  exchanged = λ A m other. Memᴰ.tail (behind A _ m other);
  order_stays = λ has.
      ⊎_elim no_paper Memᴰ.not-nil
      (Memᴰ.cases_cons (has (atom 2) (Memᴰ.tail (Memᴰ.head refl)) (λ s. s)));
  other_paper_stays = λ has. Memᴰ.not-nil (has eight (Memᴰ.head refl) (λ e. omega (arith, e)));
}

pub without_paper_lem : WithoutPaper
unfolding independence_answer Test.proving_says Test.in_statements file_words file_of first_refusal wrong_entry
    repeated_entry first entries entry spelled_after spelled
without_paper_lem = (
  refl,
  record {
    same_rest = record { same_heads = refl; same_seconds = refl; same_goal = refl; same_steps = refl };
    same_others = λ n other. (λ m. order_left n m other, λ m. Memᴰ.tail m);
  },
  record {
    same_rest = record { same_heads = refl; same_seconds = refl; same_goal = refl; same_steps = refl };
    same_others = λ n other. (λ m. Memᴰ.tail m, λ m. order_left n m other);
  },
)
  where
    order_left : (n : ℕ) → n ∈ 1 ∷ 0 ∷ [] → ¬ SignedBy (Himself 7) (spell (table with_paper) n) → n ∈ 0 ∷ []
    order_left n m other = ⊎_elim (λ e. absurd (other (rw e refl))) (λ k. k) (Memᴰ.cases_cons m)

-- ---- what not independent does not say

pub matters : Matters
unfolding independence_answer Test.proving_says Test.in_statements file_words first_refusal wrong_entry repeated_entry first
    entries entry spelled_after spelled
matters = (
  refl,
  says_right (says_left (Memᴰ.head refl) refl (affirm (init (Memᴰ.head refl)))),
  λ D. from_signed Same (OtherThan 7) ⊥ D (none_signed (OtherThan 7)) ((λ M differs. differs), tt),
)

pub need_not_matter : (R : Relation) → NeedNotMatter R
unfolding independence_answer Test.proving_says Test.in_statements file_words file_of first_refusal wrong_entry
    repeated_entry first entries entry spelled_after spelled
need_not_matter R =
    (refl, λ Δ has. says_right (affirm (init (has _ (Memᴰ.head refl) (λ s. s)))))
