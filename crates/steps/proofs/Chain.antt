-- One thing after the other uses up a list of words, as far as a rest. Assumes nothing.
use Prim.Native.Nat.{ℕ}
use mathlib.Core.Path.{◌≡◌, refl}
use mathlib.Core.List.{List, [], ◌∷◌, ◌++◌, map}

-- P a ws rest: a uses ws as far as rest.
abbrev pub Chain : {A : Type 0} → (A → List ℕ → List ℕ → Type 0) → List A → List ℕ → List ℕ → Type 0
Chain P [] ws rest = ws ≡ rest
Chain P (a ∷ l) ws rest = (middle : List ℕ) × P a ws middle × Chain P l middle rest

module _ {A : Type 0} (P : A → List ℕ → List ℕ → Type 0) where
  -- a chain of two lists is two chains
  pub chain_append : (l m : List A) (ws rest : List ℕ)
      → Chain P (l ++ m) ws rest → (middle : List ℕ) × Chain P l ws middle × Chain P m middle rest
  chain_append [] m ws rest c = (ws, refl, c)
  chain_append (a ∷ l) m ws rest (next, p, c) =
      let (middle, d, e) = chain_append l m next rest c in (middle, (next, p, d), e)

  -- the same words for what was made of each
  pub chain_map : {B : Type 0} (Q : B → List ℕ → List ℕ → Type 0) (f : B → A)
      → ((b : B) (ws rest : List ℕ) → P (f b) ws rest → Q b ws rest)
      → (l : List B) (ws rest : List ℕ) → Chain P (map f l) ws rest → Chain Q l ws rest
  chain_map Q f h [] ws rest c = c
  chain_map Q f h (b ∷ l) ws rest (next, p, c) = (next, h b ws next p, chain_map Q f h l next rest c)
