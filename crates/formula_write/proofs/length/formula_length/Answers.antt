-- `length::formula_length` meets its contract, whether a number has a length or none. Assumes nothing.
use Rattle.std.proofs.Common.{◌≡◌, ◌∙◌, get_or, rules}
use Rattle.formula_write.proofs.Lengths.{length_found}
use Rattle.formula_write.proofs.length.formula_length.Goals as goal

pub returns : goal.returns
returns c made e =
    let found : c.unwrap_or.result ≡ get_or c.args.lengths.now c.args.n 5 = search rules in
    found ∙ length_found _ c.args.n made e
