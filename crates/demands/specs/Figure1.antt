-- The demands as 00 makes them: "A proof is a derivation in Figure 1 of Garg and Pfenning's 2006 paper" (demand 2),
-- where a principal's word serves that same principal. Proved in proofs/Figure1.antt. Assumes nothing.
use Rattle.std.specs.Prelude.{ℕ, List}
use Rattle.logic.specs.Figure1.{Same}
use Rattle.steps.specs.Figure1.{same}
use Rattle.record.specs.Verdict.{RecordVerdict}
use Rattle.demands.specs.Release as Every
use Rattle.demands.specs.Demands.{Demands}

abbrev pub GrantedWithSigners : List ℕ → RecordVerdict → List ℕ → List ℕ → Type 0
GrantedWithSigners file answer before after = Every.GrantedWithSigners Same file answer before after

abbrev pub RefusedUntouched : List ℕ → RecordVerdict → List ℕ → List ℕ → Type 0
RefusedUntouched file answer before after = Every.RefusedUntouched same file answer before after

abbrev pub Demanded : Type 0
Demanded = Demands same Same
