-- The statements that are named (specs/Signers.antt). Assumes nothing.
use Prim.Native.Nat.{ℕ, ◌≤◌}
use native.Mathlib.Omega.{arith}
use mathlib.Core.Bool.{Bool, true, false}
use mathlib.Core.Path.{◌≡◌, refl, sym, ap, ◌∙◌}
use mathlib.Core.Logic.{⊎_elim}
use mathlib.Core.List.Memᴰ
use mathlib.Core.List.{List, [], ◌∷◌, ◌++◌}
use lib.ListN.{length}
use Rattle.basics.specs.Choice.{pick}
use Rattle.basics.specs.Membership.{◌∈◌, holds}
use Rattle.basics.proofs.Choice.{pick_cases}
use Rattle.basics.proofs.Membership.{holds_member}
use Rattle.signers.specs.Signers.{used}

module _ (named : List ℕ) where
  -- They are the statements that are among the named.
  pub used_from : (ns : List ℕ) (n : ℕ) → n ∈ used named ns → (n ∈ ns) × (n ∈ named)
  unfolding used
  used_from [] n m = absurd (Memᴰ.not-nil m)
  used_from (a ∷ ns) n m =
      let later : n ∈ used named ns → (n ∈ a ∷ ns) × (n ∈ named) =
      λ i. let (stands, among) = used_from ns n i in (Memᴰ.tail stands, among) in
      pick_cases (λ (l : List ℕ). n ∈ l → (n ∈ a ∷ ns) × (n ∈ named)) (holds named a)
      (λ t i.
      ⊎_elim (λ e. (Memᴰ.head e, Memᴰ.cast e ((holds_member named a).0 t))) later (Memᴰ.cases_cons i))
      (λ t. later)
      m

  pub used_to : {n : ℕ} {ns : List ℕ} → n ∈ ns → n ∈ named → n ∈ used named ns
  unfolding used
  used_to {n = n} (Memᴰ.head {x = a} {xs = ns} e) among =
      rw ((holds_member named a).1 (Memᴰ.cast (sym e) among)) (Memᴰ.head e)
  used_to {n = n} (Memᴰ.tail {x = a} {xs = ns} m) among =
      pick_cases (λ (l : List ℕ). n ∈ l) (holds named a)
      (λ t. Memᴰ.tail (used_to m among))
      (λ t. used_to m among)

  -- one statement more at the end
  pub used_last : (ns : List ℕ) (n : ℕ)
      → used named (ns ++ (n ∷ [])) ≡ pick (holds named n) (used named ns ++ (n ∷ [])) (used named ns)
  unfolding used
  used_last [] n = refl
  used_last (a ∷ ns) n =
      ap (λ (l : List ℕ). pick (holds named a) (a ∷ l) l) (used_last ns n)
      ∙ by (used named ns) (holds named a) (holds named n)
    where
      by : (l : List ℕ) (b c : Bool)
          → pick b (a ∷ pick c (l ++ (n ∷ [])) l) (pick c (l ++ (n ∷ [])) l)
          ≡ pick c (pick b (a ∷ l) l ++ (n ∷ [])) (pick b (a ∷ l) l)
      by l true true = refl
      by l true false = refl
      by l false true = refl
      by l false false = refl

  -- There are no more than statements.
  pub used_length : (ns : List ℕ) → length (used named ns) ≤ length ns
  unfolding used
  used_length [] = omega arith
  used_length (a ∷ ns) =
      let fewer = used_length ns in
      pick_cases (λ (l : List ℕ). length l ≤ length (a ∷ ns)) (holds named a) (λ t. omega arith) (λ t. omega arith)
