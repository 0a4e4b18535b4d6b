-- The signers that the loop has gone through are written, each after a blank.
use Rattle.std.proofs.Common.{◌≡◌}
use Rattle.basics.specs.Written.{written_at}
use Rattle.text.specs.Fill.{place_after}
use Rattle.line_write.proofs.Listed.{gone_through}
use Rattle.line_write.proofs.granted.fill_listed.Given as goal

abbrev pub invariant-loop-signer : goal.invariant-loop-signer
invariant-loop-signer l = record {
  line_after : l.line ≡ written_at l.fn.line l.fn.at (gone_through l.yielded);
  value : l.end ≡ place_after l.fn.line l.fn.at (gone_through l.yielded);
}
