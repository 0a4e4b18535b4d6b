-- `length::principal_length` meets its contract: a letter has one byte. Assumes nothing.
use Rattle.text.specs.Ascii.{ascii}
use Rattle.text.specs.Decimal.{decimal}
use Rattle.formula_write.proofs.Lengths.{length_counted}
use Rattle.formula_write.proofs.length.principal_length.Goals as goal

pub returns : goal.returns
unfolding ascii
returns c = length_counted (ascii "p") (decimal c.args.k.0) c.decimal_length.ensures c.sum.ensures
