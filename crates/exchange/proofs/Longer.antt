-- A file longer than the longest exchange file has the answer of its first bytes (specs/Promises.antt, `LongerFile`).
-- Assumes nothing.
use Prim.Native.Nat.{ℕ, suc}
use mathlib.Core.Bool.{Bool}
use mathlib.Core.Path.{ap}
use mathlib.Core.List.{List}
use lib.ListN.{take, drop}
use Rattle.basics.specs.Tested.{Tested}
use Rattle.basics.specs.Refusals.{unless_refused}
use Rattle.file.proofs.LayoutLaws.{longer_refused}
use Rattle.exchange.specs.Verdict.{Equal, Refused}
use Rattle.exchange.specs.Layout.{exchange_layout, most_bytes}
use Rattle.exchange.specs.Answer.{tests, exchange_answer}
use Rattle.exchange.specs.Promises.{LongerFile}
use Rattle.exchange.proofs.LayoutIs.{bounded}

pub longer_file : (speaks : ℕ → ℕ → Bool) → LongerFile speaks
unfolding exchange_answer
longer_file speaks file long =
    let front : List ℕ = take (suc most_bytes) file in
    ap (λ (t : Tested). unless_refused t Equal)
    (longer_refused exchange_layout bounded file long (drop 3 (tests speaks file)) (drop 3 (tests speaks front)))
