-- "One line a step .. each ended by a line feed." (02, job 2) A text has one line feed a line, at the line's end,
-- whatever the codes of its lines are. Proved in proofs/Feeds.antt. Assumes nothing.
use Rattle.std.specs.Prelude.{ℕ, suc, ◌≡◌, List, [], ◌∷◌, ◌++◌, length, eqb}
use Rattle.basics.specs.Choice.{pick}
use Rattle.text.specs.Ascii.{ascii}
use Rattle.steps.specs.Trace.{Line}
use Rattle.sentences.specs.Sentences.{line_text, sentences}

-- how many bytes of a text are line feeds, 10 in ASCII
unfoldable pub line_feeds : List ℕ → ℕ
line_feeds [] = 0
line_feeds (b ∷ bs) = pick (eqb b 10) (suc (line_feeds bs)) (line_feeds bs)

-- A line is a text without a line feed, and then one.
abbrev pub FeedAtEnd : Type 0
FeedAtEnd = (i : ℕ) (l : Line) → (text : List ℕ) × (line_text i l ≡ text ++ ascii "\n") × (line_feeds text ≡ 0)

-- So a text has as many as it has lines.
abbrev pub FeedPerLine : Type 0
FeedPerLine = (ls : List Line) → line_feeds (sentences ls) ≡ length ls
