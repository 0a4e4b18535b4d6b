-- The line for a refusal, of a record and of an exchange file alike: "after refused stand the number, the word `place`
-- and the place .. One blank parts the words and a line feed ends the line." (01) Assumes nothing.
use Rattle.std.specs.Prelude.{ℕ, List, ◌++◌}
use Rattle.text.specs.Ascii.{ascii}
use Rattle.text.specs.Decimal.{decimal}

unfoldable pub refused_line : ℕ → ℕ → List ℕ
refused_line number place = ascii "refused " ++ decimal number ++ ascii " place " ++ decimal place ++ ascii "\n"
