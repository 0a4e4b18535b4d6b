-- A file longer than the longest record has the answer of its first bytes (specs/Promises.antt, `LongerFile`). Assumes
-- nothing.
use Prim.Native.Nat.{ℕ, suc}
use mathlib.Core.Bool.{Bool, true, false}
use mathlib.Core.Path.{◌≡◌, refl, sym, ap, ◌∙◌}
use mathlib.Core.List.{List}
use lib.ListN.{length, take, drop}
use Rattle.std.specs.Prelude.{Result}
use Rattle.basics.specs.declared.refusal.Refusal.{Refusal}
use Rattle.basics.specs.Tested.{Tested}
use Rattle.basics.specs.Tested as Outcome
use Rattle.basics.specs.Choice.{pick}
use Rattle.basics.specs.Refusals.{unless_refused}
use Rattle.file.specs.Layout.{in_range}
use Rattle.file.proofs.LayoutLaws.{too_long, longer_refused}
use Rattle.record.specs.Verdict.{Granted, Refused}
use Rattle.record.specs.Layout.{record_layout, most_bytes, signers}
use Rattle.record.specs.Answer.{tests, record_answer}
use Rattle.record.specs.Promises.{LongerFile}
use Rattle.record.proofs.LayoutIs.{bounded}

-- What follows a refusal by 2 or 3 doesn't count, whatever kind of answer it is.
pub refused_alike :
    {A : Type 0} (b : Bool) {t : Tested} (verdict other : Result A Refusal)
    → t ≡ pick b (Outcome.Refused 3 0) (Outcome.Refused 2 0)
    → unless_refused t verdict ≡ unless_refused t other
refused_alike true verdict other e =
    ap (λ (t : Tested). unless_refused t verdict) e
    ∙ ap (λ (t : Tested). unless_refused t other) (sym e)
refused_alike false verdict other e =
    ap (λ (t : Tested). unless_refused t verdict) e
    ∙ ap (λ (t : Tested). unless_refused t other) (sym e)

pub longer_file : (speaks : ℕ → ℕ → Bool) → LongerFile speaks
unfolding record_answer
longer_file speaks file room long =
    let front : List ℕ = take (suc most_bytes) file in
    let rest = drop 3 (tests speaks file room) in
    refused_alike (in_range record_layout file) (Granted (length (signers file)))
    (Granted (length (signers front))) (too_long record_layout bounded file _ refl long rest)
    ∙ ap (λ (t : Tested). unless_refused t (Granted (length (signers front))))
    (longer_refused record_layout bounded file long rest (drop 3 (tests speaks front room)))
