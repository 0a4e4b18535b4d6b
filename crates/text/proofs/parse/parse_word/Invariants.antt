-- The loop of `parse::parse_word`: the bytes before the index are digits, and what they say, with those left, is what
-- all say, as far as a word goes. Assumes nothing.
use Rattle.text.proofs.Parsing.{Parsing}
use Rattle.text.proofs.parse.parse_word.Given as goal

abbrev pub invariant-loop-b : goal.invariant-loop-b
invariant-loop-b l = Parsing l.text l.n l.b-index
