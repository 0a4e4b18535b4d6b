-- Where no two places of a list have the same proposition, each stands once (basics/specs/Once.antt). Assumes nothing.
use Prim.Native.Nat.{ℕ, suc, ◌<◌}
use native.Mathlib.Omega.{arith}
use mathlib.Core.Path.{◌≡◌, sym}
use mathlib.Core.List.{List, [], ◌∷◌}
use lib.ListN.{length}
use Rattle.basics.specs.Once.{EachOnce}
use Rattle.logic.specs.Proposition.{Proposition}
use Rattle.table.specs.Spelled.{among}
use Rattle.encoding.proofs.Position.{place_among}

pub each_once :
    (l : List Proposition) → ((i j : ℕ) → i < j → j < length l → ¬ (among l i ≡ among l j)) → EachOnce l
each_once [] differ = tt
each_once (A ∷ l) differ = (
  λ m. let (j, within, is) = place_among m in differ 0 (suc j) (omega arith) (omega arith) (sym is),
  each_once l (λ i j before within. differ (suc i) (suc j) (omega arith) (omega arith)),
)
