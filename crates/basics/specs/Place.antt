-- Where a test found its first fault, if anywhere: `Some i` at i, else `None`. "Places count from 0." (01)
use Rattle.std.specs.Prelude.{ℕ, Option, Some, None}

abbrev pub Place : Type 0
Place = Option ℕ

pattern abbrev pub At : ℕ → Place
At i = Some i

pattern abbrev pub Nowhere : Place
Nowhere = None
