-- The requests are met (specs/Figure1.antt). Assumes nothing.
use Rattle.logic.specs.Figure1.{Same}
use Rattle.steps.specs.Figure1.{same}
use Rattle.steps.proofs.Figure1.{same_lawful}
use Rattle.requests.specs.Figure1.{Requested}
use Rattle.requests.proofs.Requests.{for_every_relation}

pub requested : Requested
requested = for_every_relation same Same same_lawful
