-- A list in which each stands once is no longer than one that has its members (specs/Once.antt). Assumes nothing.
use Prim.Native.Nat.{ℕ, suc}
use native.Mathlib.Omega.{arith}
use mathlib.Core.Path.{◌≡◌, refl, sym, ap, ◌∙◌}
use mathlib.Core.Logic.{⊎_elim}
use mathlib.Core.List.Memᴰ
use mathlib.Core.List.{List, [], ◌∷◌}
use lib.ListN.{length}
use Rattle.basics.specs.Membership.{◌∈◌, ◌⊆◌}
use Rattle.basics.specs.Once.{EachOnceIs, NoMore}
use Rattle.basics.proofs.Membership.{first}

not_among : {a b : ℕ} {ks : List ℕ} → ¬ (a ≡ b) → ¬ (a ∈ ks) → ¬ (a ∈ b ∷ ks)
not_among other none m = ⊎_elim other none (Memᴰ.cases_cons m)

pub each_once_is : EachOnceIs
each_once_is = (
  (
    not_among (λ e. omega (arith, e)) (not_among (λ e. omega (arith, e)) Memᴰ.not-nil),
    (not_among (λ e. omega (arith, e)) Memᴰ.not-nil, (Memᴰ.not-nil, tt)),
  ),
  λ e. e.0 (Memᴰ.tail first),
)

module _ {A : Type 0} where
  -- a list without one place at which a stands
  record Without (a : A) (l : List A) : Type 0 where
    others : List A
    one_less : length l ≡ suc (length others)
    keeps : (b : A) → b ∈ l → ¬ (b ≡ a) → b ∈ others

  -- A list that has a has such a rest,
  without : {a : A} {l : List A} → a ∈ l → Without a l
  without (Memᴰ.head {xs = xs} e) = record {
    others = xs;
    one_less = refl;
    keeps = λ b m other. ⊎_elim (λ q. absurd (other (q ∙ sym e))) (λ i. i) (Memᴰ.cases_cons m);
  }
  without (Memᴰ.tail {x = x} i) =
      let rest = without i in
      record {
        others = x ∷ rest.others;
        one_less = ap suc rest.one_less;
        keeps =
            λ b m other.
            ⊎_elim Memᴰ.head (λ j. Memᴰ.tail (rest.keeps b j other)) (Memᴰ.cases_cons m);
      }

-- and the others all stand in it.
pub no_more : NoMore
no_more A [] m once all = omega arith
no_more A (a ∷ l) m (alone, once) all =
    let rest = without (all a first) in
    let held : l ⊆ rest.others =
    λ b i. rest.keeps b (all b (Memᴰ.tail i)) (λ same. alone (Memᴰ.cast (sym same) i)) in
    omega (arith, rest.one_less, no_more A l rest.others once held)
