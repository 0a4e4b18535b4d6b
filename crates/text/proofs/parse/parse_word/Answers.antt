-- `parse::parse_word` meets its contract: a byte that is no digit ends the loop with no number, and a digit is read.
-- Assumes nothing.
use Rattle.std.proofs.Common.{sym, ◌∙◌, arith}
use borrow.Author.Tests.{eqb-false}
use Rattle.text.proofs.Parsing.{parsing_none, parsing_ends, parsing_more, parsing_all}
use Rattle.text.proofs.parse.parse_word.Goals as goal

pub loop-b-init : goal.loop-b-init
loop-b-init c = parsing_none _

pub returns-then-not-is_digit : goal.returns-then-not-is_digit
returns-then-not-is_digit c =
    parsing_ends c.loop-b.invariant c.loop-b-test.true
    (sym c.is_digit.ensures ∙ c.if-not-is_digit.true)

pub loop-b-preserved : goal.loop-b-preserved
loop-b-preserved c =
    parsing_more c.loop-b.invariant c.loop-b-test.true
    (sym c.is_digit.ensures ∙ c.if-not-is_digit.false)
    (omega arith)

pub returns : goal.returns
returns c =
    let some = eqb-false _ 0 (sym c.if-is_empty.ensures) in
    parsing_all c.loop-b.invariant (omega arith) c.loop-b-test.false
