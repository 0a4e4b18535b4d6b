-- The demands are met (specs/Figure1.antt). Assumes nothing.
use Rattle.logic.specs.Figure1.{Same}
use Rattle.steps.specs.Figure1.{same}
use Rattle.steps.proofs.Figure1.{same_lawful}
use Rattle.demands.specs.Figure1.{Demanded}
use Rattle.demands.proofs.Demands.{for_every_relation}

pub demanded : Demanded
demanded = for_every_relation same Same same_lawful
