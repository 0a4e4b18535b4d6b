-- `check::check_sized` meets its contract: the slices that it takes out of the words are the parts of the file. Assumes
-- nothing.
use Rattle.std.proofs.Common.{ℕ, ◌≤◌, ◌*◌, length}
use lib.ListN.{replicate, length-replicate}
use Rattle.record_check.proofs.Slices.{slices}
use Rattle.record_check.proofs.Whole.{whole}
use Rattle.record_check.proofs.check.check_sized.Goals as goal

pub returns : goal.returns
returns g c =
    let file = c.args.file.now in
    let fits : length file ≤ 2 * length (replicate g.row.N 0) =
    rw (length-replicate {A = ℕ} g.row.N 0) c.requires.room.0 in
    let parts =
    slices file c.requires.sized (replicate g.row.N 0) fits c.read_words.ensures c.word_at-formulas.ensures
    c.word_at.ensures c.word_at-2.ensures
    in
    let all =
    whole file c.requires.sized c.args.signers.now parts.heads_slice parts.seconds_slice parts.statements_slice
    c.word_at-3.ensures parts.steps_slice c.check_contents.ensures.value c.check_contents.ensures.signers_after
    in
    record { value = all.0; signers_after = all.1 }
