-- What is written where a line is written into lent bytes. "A call that writes a list or a text writes from its start,
-- gives how many words or bytes it wrote, and changes nothing beyond them." (01) Assumes nothing.
use Rattle.std.specs.Prelude.{ℕ, List, length, leb}
use Rattle.basics.specs.Choice.{pick}
use Rattle.basics.specs.Written.{written}

-- What is written: the whole line from their start, or nothing where it doesn't fit; and how many bytes that is.
abbrev pub line_after : List ℕ → List ℕ → List ℕ
line_after before line = pick (leb (length line) (length before)) (written before line) before

abbrev pub line_count : List ℕ → List ℕ → ℕ
line_count before line = pick (leb (length line) (length before)) (length line) 0
