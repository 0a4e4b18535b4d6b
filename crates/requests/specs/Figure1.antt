-- The requests as 02 makes them before job 14: derivations in Figure 1, where a principal's word serves that same
-- principal. Proved in proofs/Figure1.antt. Assumes nothing.
use Rattle.logic.specs.Figure1.{Same}
use Rattle.steps.specs.Figure1.{same}
use Rattle.requests.specs.Requests.{Requests}

abbrev pub Requested : Type 0
Requested = Requests same Same
