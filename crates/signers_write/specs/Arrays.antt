-- The signers over a record's arrays of any length. Assumes nothing.
use Rattle.std.specs.Prelude.{ℕ, List}
use Rattle.table.specs.Tests.{entries}
use Rattle.steps.specs.Naming.{named_numbers, is_says_left}
use Rattle.signers.specs.Signers.{signers}

-- heads, seconds, statements and steps: "a principal K with a statement K says A that some says-left step names" (02,
-- job 3)
abbrev pub arrays_signers : List ℕ → List ℕ → List ℕ → List ℕ → List ℕ
arrays_signers heads seconds statements steps =
    signers (entries heads seconds) statements (named_numbers is_says_left steps)
