-- Propositions for atoms and principals for principals keep derivations (specs/Substitution.antt): by induction on the
-- derivation, where init becomes identity. Assumes nothing.
use mathlib.Core.Path.{refl, subst, ap, ap₂}
use mathlib.Core.List.Memᴰ
use mathlib.Core.List.{List, map}
use Rattle.logic.specs.Proposition.{Proposition, Atom, Principal, atom, false, ◌implies◌, ◌and◌, ◌or◌, ◌says◌}
use Rattle.logic.specs.Judgment.{Judgment}
use Rattle.logic.specs.Principals.{Relation, Reflexive, Transitive}
use Rattle.logic.specs.Derivation.{Derivation, init, affirm, implies_right, implies_left, false_left, and_right, and_left, or_right_first, or_right_second, or_left, says_right, says_left}
use Rattle.logic.specs.Force.{HasProof, EachHasProof}
use Rattle.logic.specs.Substitution.{put, put_goal, Respects, Substitution, ForceSubstituted, PutThemselves, PutSamples}
use Rattle.logic.proofs.Identity.{identity}
use Rattle.logic.proofs.Force.{force_by_statements}

module _ {R S : Relation} (reflexive : Reflexive S)
    (σ : Atom → Proposition) (ρ : Principal → Principal) (respects : Respects R S ρ) where
  put_in : {Γ : List Proposition} {γ : Judgment} → Derivation R Γ γ → Derivation S (map (put σ ρ) Γ) (put_goal σ ρ γ)
  put_in (init {a = a} m) = identity reflexive _ (σ a) (Memᴰ.map (put σ ρ) m)
  put_in (affirm D) = affirm (put_in D)
  put_in (implies_right D) = implies_right (put_in D)
  put_in (implies_left m D E) = implies_left (Memᴰ.map (put σ ρ) m) (put_in D) (put_in E)
  put_in (false_left m) = false_left (Memᴰ.map (put σ ρ) m)
  put_in (and_right D E) = and_right (put_in D) (put_in E)
  put_in (and_left m D) = and_left (Memᴰ.map (put σ ρ) m) (put_in D)
  put_in (or_right_first D) = or_right_first (put_in D)
  put_in (or_right_second D) = or_right_second (put_in D)
  put_in (or_left m D E) = or_left (Memᴰ.map (put σ ρ) m) (put_in D) (put_in E)
  put_in (says_right D) = says_right (put_in D)
  put_in (says_left {K = K} {L = L} m r D) = says_left (Memᴰ.map (put σ ρ) m) (respects K L r) (put_in D)

  -- a proof of each statement, put so
  each_put : (Γ Δ : List Proposition) → EachHasProof R Γ Δ → EachHasProof S (map (put σ ρ) Γ) (map (put σ ρ) Δ)
  each_put Γ Δ proofs A m =
      let (B, stands, is) = Memᴰ.of_map (put σ ρ) Γ m in
      subst (HasProof S (map (put σ ρ) Δ)) is (put_in (proofs B stands))

pub substitution : {R S : Relation} → Reflexive S → Substitution R S
substitution reflexive σ ρ respects Γ γ D = put_in reflexive σ ρ respects D

pub force_substituted :
    {R S : Relation} → Reflexive R → Transitive R → Reflexive S → Transitive S → ForceSubstituted R S
force_substituted reflexive transitive reflexive' transitive' σ ρ respects Γ Δ f =
    let (there, back) = (force_by_statements reflexive transitive Γ Δ).0 f in
    (force_by_statements reflexive' transitive' (map (put σ ρ) Γ) (map (put σ ρ) Δ)).1
    (each_put reflexive' σ ρ respects Γ Δ there, each_put reflexive' σ ρ respects Δ Γ back)

-- ---- what it is to put

pub put_themselves : PutThemselves
put_themselves (atom a) = refl
put_themselves false = refl
put_themselves (A implies B) = ap₂ ◌implies◌ (put_themselves A) (put_themselves B)
put_themselves (A and B) = ap₂ ◌and◌ (put_themselves A) (put_themselves B)
put_themselves (A or B) = ap₂ ◌or◌ (put_themselves A) (put_themselves B)
put_themselves (K says A) = ap (◌says◌ K) (put_themselves A)

pub put_samples : PutSamples
put_samples = (refl, refl, refl)
