-- The room left is what the signers leave that the loop has gone through.
use Rattle.std.proofs.Common.{◌≡◌, ◌-◌, length}
use Rattle.line_write.proofs.Listed.{gone_through}
use Rattle.line_write.proofs.measure.less_listed.Given as goal

abbrev pub invariant-loop-signer : goal.invariant-loop-signer
invariant-loop-signer l = l.left ≡ l.fn.room - length (gone_through l.yielded)
