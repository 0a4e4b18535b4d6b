-- `granted::fill_listed` meets its contract. Assumes nothing.
use Rattle.std.proofs.Common.{sym, ap, rules}
use Rattle.std.proofs.lemmas.Iterator.{YieldsList-from_slice, YieldsList-from_take}
use Rattle.std.proofs.lemmas.Iterator.Consumers.{YieldsList-end}
use Rattle.basics.proofs.Written.{written_at_none}
use Rattle.text.proofs.Places.{fill_then}
use Rattle.line.specs.RecordLine.{listed}
use Rattle.line_write.proofs.Listed.{gone_through, gone_through_more}
use Rattle.line_write.proofs.granted.fill_listed.Goals as goal

pub loop-signer-init : goal.loop-signer-init
unfolding listed
loop-signer-init c = record { line_after = sym (written_at_none _ c.args.at); value = search rules }

pub loop-signer-preserved : goal.loop-signer-preserved
loop-signer-preserved c =
    let before = c.loop-signer.invariant in
    let here = c.fill_signer-end.ensures in
    let all =
    fill_then _ _ (gone_through c.loop-signer.yielded) _ (before.line_after, before.value)
    (here.line_after, here.value) in
    rw (gone_through_more c.loop-signer.yielded c.in-Some.field-0) (record { line_after = all.0; value = all.1 })

pub returns : goal.returns
returns c =
    let before = c.loop-signer.invariant in
    let road =
    YieldsList-from_take c.args.count (YieldsList-from_slice c.args.signers.now (cc)) (cc) in
    let all =
    ap listed
    (YieldsList-end road c.loop-signer.yielded _ c.loop-signer.yielded_by _ _ c.in-None.is c.next.ensures.steps).0 in
    rw (← all) (record { line_after = before.line_after; value = before.value })
