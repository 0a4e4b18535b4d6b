-- `hypotheses::hypotheses::release` meets its contract: each turn of the loop takes back the last of the hypotheses
-- left, whether or not its number has a mark, and at the end none is left. Assumes nothing.
use Rattle.std.proofs.Common.{ℕ, ◌/◌, arith, sym, ap, ◌∙◌}
use Rattle.hypotheses.proofs.Slots.{release_marked, release_unmarked, release_end}
use Rattle.hypotheses.proofs.hypotheses.release.Goals as goal

pub loop-i-preserved-then-n-half : goal.loop-i-preserved-then-n-half
loop-i-preserved-then-n-half c =
    let l = c.loop-i in
    let halves = ap (λ (n : ℕ). n / 2) l.auto.slots in
    l.invariant ∙ release_marked l.slots c.args.from l.i halves (omega arith) c.if-n-half.true

pub loop-i-preserved : goal.loop-i-preserved
loop-i-preserved c =
    let l = c.loop-i in
    let halves = ap (λ (n : ℕ). n / 2) l.auto.slots in
    l.invariant ∙ release_unmarked l.slots c.args.from l.i halves (omega arith) c.if-n-half.false

pub returns : goal.returns
returns c =
    let l = c.loop-i in
    sym (l.invariant ∙ release_end l.slots c.args.from l.i c.loop-i-test.false)
