-- The loop of `signers_write::list::mark_says_lefts`: what the words before i name is marked. Assumes nothing.
use Rattle.std.proofs.Common.{◌≡◌, take}
use Rattle.marks.specs.Flagged.{set_all}
use Rattle.steps.specs.Naming.{named_numbers, is_says_left}
use Rattle.signers_write.proofs.list.mark_says_lefts.Given as goal

abbrev pub invariant-loop-word : goal.invariant-loop-word
invariant-loop-word l = l.flags ≡ set_all l.fn.flags (named_numbers is_says_left (take l.word-index l.steps))
