-- `measure::less_listed` meets its contract. Assumes nothing.
use Rattle.std.proofs.Common.{ap, arith}
use Rattle.std.proofs.lemmas.Iterator.{YieldsList-from_slice, YieldsList-from_take}
use Rattle.std.proofs.lemmas.Iterator.Consumers.{YieldsList-end}
use Rattle.line.specs.RecordLine.{listed}
use Rattle.line_write.proofs.Listed.{gone_through, gone_through_more}
use Rattle.line_write.proofs.Room.{left_then}
use Rattle.line_write.proofs.measure.less_listed.Goals as goal

pub loop-signer-init : goal.loop-signer-init
unfolding listed
loop-signer-init c = omega arith

pub loop-signer-preserved : goal.loop-signer-preserved
loop-signer-preserved c =
    rw (gone_through_more c.loop-signer.yielded c.in-Some.field-0)
    (left_then _ (gone_through c.loop-signer.yielded) _ c.loop-signer.invariant c.less_signer-left.ensures)

pub returns : goal.returns
returns c =
    let road =
    YieldsList-from_take c.args.count (YieldsList-from_slice c.args.signers.now (cc)) (cc) in
    let all =
    ap listed
    (YieldsList-end road c.loop-signer.yielded _ c.loop-signer.yielded_by _ _ c.in-None.is c.next.ensures.steps).0 in
    rw (← all) c.loop-signer.invariant
