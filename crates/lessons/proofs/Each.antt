-- What a test finds of every row of a table, it finds of each. Assumes nothing.
use mathlib.Core.Bool.{Bool, true}
use mathlib.Core.Path.{◌≡◌}
use mathlib.Core.List.{List, [], ◌∷◌, map}
use Rattle.basics.specs.Membership.{◌∈◌}
use Rattle.basics.proofs.Membership.{each_of_none, each_of_more}

pub of_each : {A : Type 0} (test : A → Bool) (rows : List A) → map test rows ≡ map (λ r. true) rows
    → (r : A) → r ∈ rows → test r ≡ true
of_each test [] e = each_of_none (λ r. test r ≡ true)
of_each test (r ∷ rows) e =
    let here : test r ≡ true = cc in
    let there : map test rows ≡ map (λ r. true) rows = cc in
    each_of_more (λ r. test r ≡ true) here (of_each test rows there)
