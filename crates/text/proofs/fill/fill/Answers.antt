-- `fill::fill` meets its contract: the loop ends where the bytes end, or where the room does. Assumes nothing.
use Rattle.std.proofs.Common.{inl, inr}
use Rattle.text.proofs.Places.{filling_none, filling_more, filling_all}
use Rattle.text.proofs.fill.fill.Goals as goal
use Rattle.text.proofs.fill.fill.Goals.{then-loop-i-test+else-at-i, else-loop-i-test}

pub loop-i-init : goal.loop-i-init
loop-i-init c = filling_none c.args.out.now c.args.at c.args.bytes.now

pub loop-i-preserved : goal.loop-i-preserved
loop-i-preserved c = filling_more c.loop-i.invariant c.loop-i-test.true c.if-at-i.true

pub returns : goal.returns
returns c =
    let filled = filling_all c.loop-i.invariant (elim c.loop-i-test.branch [
      | then-loop-i-test+else-at-i w ↦ inr w.if-at-i.false
      | else-loop-i-test w ↦ inl w.loop-i-test.false
    ]) in
    record { out_after = filled.0; value = filled.1 }
