-- Words that begin with certain words, and depths within a limit: what is to be known of a derivation's words and
-- depths, and how it grows with them. Assumes nothing.
use Prim.Native.Nat.{ℕ, ◌≤◌}
use native.Mathlib.Omega.{arith}
use mathlib.Core.Path.{◌≡◌}
use mathlib.Core.Logic.{⊎_elim}
use mathlib.Core.List.Memᴰ
use mathlib.Core.List.{List, [], ◌∷◌, ◌++◌, append_assoc}
use Rattle.basics.specs.Membership.{◌∈◌}

-- No depth of ds is above the limit, and ws begins with vs, after which `rest` follows.
pub record Begins (limit : ℕ) (ds vs ws rest : List ℕ) : Type 0 where
  pub within : (d : ℕ) → d ∈ ds → d ≤ limit
  pub begins : ws ≡ vs ++ rest

module _ {limit : ℕ} where
  -- no word
  pub nothing : {ws rest : List ℕ} → ws ≡ rest → Begins limit [] [] ws rest
  nothing e = record { within = λ d i. absurd (Memᴰ.not-nil i); begins = e }

  -- a word in front
  pub first : {d v w : ℕ} {ds vs ws rest : List ℕ}
      → d ≤ limit → w ≡ v → Begins limit ds vs ws rest → Begins limit (d ∷ ds) (v ∷ vs) (w ∷ ws) rest
  first fits e b = record {
    within = λ d i. ⊎_elim (λ q. omega arith) (b.within d) (Memᴰ.cases_cons i);
    begins = cc;
  }

  -- one after the other
  pub both : {ds es us vs ws middle rest : List ℕ}
      → Begins limit ds us ws middle → Begins limit es vs middle rest → Begins limit (ds ++ es) (us ++ vs) ws rest
  both {ds} b c = record {
    within = λ d i. ⊎_elim (b.within d) (c.within d) (Memᴰ.append_cases ds i);
    begins = rw append_assoc (cc);
  }

  -- nothing in between
  pub ends : {ds vs ws middle rest : List ℕ} → Begins limit ds vs ws middle → middle ≡ rest → Begins limit ds vs ws rest
  ends b e = rw e at b
