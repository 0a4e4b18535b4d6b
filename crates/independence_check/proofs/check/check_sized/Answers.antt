-- `check::check_sized` meets its contract: the slices that it takes out of the words are the parts of the file. Assumes
-- nothing.
use Rattle.std.proofs.Common.{arith, sym, ◌∙◌, ◌+◌, take}
use lib.ListN.{replicate}
use Rattle.independence_check.proofs.Slices.{slices, room_long}
use Rattle.independence_check.proofs.Whole.{whole}
use Rattle.independence_check.proofs.check.check_sized.Goals as goal

pub returns : goal.returns
returns g c =
    let file = c.args.file.now in
    let end = 4 + c.word_at-formulas.result + c.word_at-formulas.result + c.word_at.result in
    let long = sym (room_long g.row.N 0 end (omega (arith, c.word_at-formulas.ensures, c.word_at.ensures))) in
    let parts =
    slices file c.requires.sized (take end (replicate g.row.N 0)) c.read_words.ensures
    (long ∙ omega (arith, c.word_at-formulas.ensures, c.word_at.ensures)) c.word_at-formulas.ensures c.word_at.ensures
    in
    whole file c.requires.sized c.args.principal parts.heads_slice parts.seconds_slice parts.statements_slice
    c.word_at-2.ensures c.check_arrays.ensures
