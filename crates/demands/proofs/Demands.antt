-- The demands are met (specs/Demands.antt). Assumes nothing.
use Prim.Native.Nat.{ℕ}
use native.Mathlib.Omega.{arith}
use mathlib.Core.Bool.{Bool}
use mathlib.Core.Path.{◌≡◌, refl, sym, ◌∙◌}
use mathlib.Core.Logic.{◌↔◌, ◌⊎◌, inl, inr}
use mathlib.Core.List.{List}
use Rattle.std.specs.Prelude.{Err}
use Rattle.logic.specs.Principals.{Relation, Decides}
use Rattle.exchange.specs.Verdict.{ExchangeVerdict, Equal, Refused}
use Rattle.exchange.specs.Answer.{exchange_answer}
use Rattle.exchange.specs.Proofs.{Keeps, CarriesAll}
use Rattle.exchange.proofs.Force.{force_by_statements, goal_kept_lem}
use Rattle.exchange.proofs.Equal.{equal_exactly, equal_only_in_force}
use Rattle.exchange.proofs.Reasons.{refused_exactly}
use Rattle.exchange.proofs.NeverSixOrEight.{never_six_or_eight}
use Rattle.encoding.proofs.Record.{every_proof_has_a_record}
use Rattle.encoding.proofs.Released.{released_exactly}
use Rattle.encoding.proofs.Exchange.{every_exchange_has_a_file}
use Rattle.encoding.proofs.Exchanged.{exchanged_exactly}
use Rattle.line.proofs.Printed.{line_of_call, whole_line, whole_exchange_line}
use Rattle.demands.specs.Demands.{ForEveryRelation, FirstOfExchange}
use Rattle.demands.proofs.Release as Release
use Rattle.demands.proofs.OldReleases.{kept_by_force, kept_by_exchange, old_releases_kept}

-- an answer that is the check's has what holds of the check's
same_answer : (speaks : ℕ → ℕ → Bool) (file : List ℕ) {v answer : ExchangeVerdict} {P : Type 0}
    → answer ≡ exchange_answer speaks file → exchange_answer speaks file ≡ v ↔ P → answer ≡ v ↔ P
same_answer speaks file is (to, from) = (λ e. to (sym is ∙ e), λ p. is ∙ from p)

exchange_decided :
    (speaks : ℕ → ℕ → Bool) (R : Relation) → Decides speaks R → (file : List ℕ) (v : ExchangeVerdict)
    → exchange_answer speaks file ≡ v
    → (Keeps file × CarriesAll R file) ⊎ ((number : ℕ) × (p : ℕ) × FirstOfExchange speaks file number p)
exchange_decided speaks R decides file Equal e = inl ((equal_exactly speaks R decides file).0 e)
exchange_decided speaks R decides file (Err r) e =
    inr (r.number, r.place, (refused_exactly speaks file r.number r.place).0 e)

pub for_every_relation : ForEveryRelation
for_every_relation speaks R lawful =
    let decides = lawful.decides in
    let reflexive = lawful.reflexive in
    let transitive = lawful.transitive in record {
      granted = Release.granted speaks R decides;
      refused = Release.refused speaks R decides;
      either = Release.either speaks R decides;
      never_both = Release.never_both speaks R decides;
      one_first = Release.one_first speaks R decides;
      nothing_else = Release.nothing_else speaks R decides;
      every_proof = every_proof_has_a_record speaks R decides;
      released_exactly = released_exactly speaks R decides;
      printed = whole_line speaks;
      printed_of_call = line_of_call speaks;
      force_by_statements = force_by_statements R reflexive transitive;
      equal_exactly = λ file answer is. same_answer speaks file is (equal_exactly speaks R decides file);
      every_exchange = every_exchange_has_a_file speaks R decides;
      exchanged_exactly = exchanged_exactly speaks R decides;
      equal_only_in_force = equal_only_in_force speaks R lawful;
      exchange_refused = λ file answer is number p. same_answer speaks file is (refused_exactly speaks file number p);
      exchange_either = λ file. exchange_decided speaks R decides file (exchange_answer speaks file) refl;
      exchange_never_both = λ file number p carries first.
          let e : Equal ≡ Refused number p =
          sym ((equal_exactly speaks R decides file).1 carries) ∙ (refused_exactly speaks file number p).1 first in
          let z : ◌≡◌ {A = ℕ} 0 1 = cc in omega arith;
      never_six_or_eight = never_six_or_eight speaks;
      exchange_printed = whole_exchange_line speaks;
      goal_kept_lem = goal_kept_lem R reflexive transitive;
      kept_by_force = kept_by_force R reflexive transitive;
      kept_by_exchange = kept_by_exchange speaks R lawful;
      old_releases_kept = old_releases_kept speaks R lawful;
    }
