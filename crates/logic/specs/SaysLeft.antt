-- What says left allows, for every relation on principals. Proved in proofs/SaysLeft.antt. Assumes nothing.
use Rattle.std.specs.Prelude.{[], ◌∷◌, ◌↔◌}
use Rattle.logic.specs.Proposition.{Atom, Principal, atom, ◌says◌}
use Rattle.logic.specs.Judgment.{◌affirms◌}
use Rattle.logic.specs.Principals.{Relation}
use Rattle.logic.specs.Derivation.{Derivation}

-- What K says of an atom serves an affirmation by L exactly when K speaks for L.
abbrev pub SaysServes : Relation → Type 0
SaysServes R = (K L : Principal) (a : Atom) → Derivation R (K says atom a ∷ []) (L affirms atom a) ↔ R K L
