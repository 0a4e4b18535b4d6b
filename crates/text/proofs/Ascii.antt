-- The promise of specs/Ascii.antt. Assumes nothing.
use Prim.Native.Char.{code}
use Prim.Native.Nat.{ℕ}
use Prim.Native.String.append
use Prim.Native.String.{[], ◌∷◌}
use mathlib.Core.Path.{ap, ◌∙◌}
use mathlib.Core.List.{List, ◌∷◌ as ◌before◌}
use Rattle.text.specs.Ascii.{ascii, AsciiJoined}

pub ascii_joined : AsciiJoined
unfolding ascii
ascii_joined [] t = ap ascii (append.nil t)
ascii_joined (c ∷ s) t = ap ascii (append.cons c s t) ∙ ap (λ (r : List ℕ). code c before r) (ascii_joined s t)
