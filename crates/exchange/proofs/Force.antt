-- Demand 3 over a table (specs/Force.antt): what the logic promises of propositions, for the numbers that spell them.
-- Assumes nothing.
use Prim.Native.Nat.{ℕ}
use mathlib.Core.Path.{subst}
use mathlib.Core.List.Memᴰ
use mathlib.Core.List.{List, ◌++◌, map-append}
use Rattle.basics.specs.Membership.{◌∈◌, ◌⊆◌}
use Rattle.logic.specs.Principals.{Relation, Reflexive, Transitive}
use Rattle.logic.specs.Force as Every
use Rattle.logic.specs.Force.{HasProof}
use Rattle.logic.proofs.Promises.{for_every_relation}
use Rattle.table.specs.declared.entry.Entry.{Entry}
use Rattle.table.specs.Spelled.{spell, spell_all}
use Rattle.exchange.specs.Force.{EachHasProof, ForceByStatements, GoalKept}

module _ (R : Relation) (es : List Entry) where
  -- A proof for each number is one for each proposition that the list spells,
  pub each_spelled : (first second : List ℕ) → EachHasProof R es first second
      → Every.EachHasProof R (spell_all es first) (spell_all es second)
  each_spelled first second proofs A m =
      let (n, stands, is) =
      Memᴰ.of_map (spell es) first m in subst (HasProof R (spell_all es second)) is (proofs n stands)

  -- and the other way round.
  each_number : (first second : List ℕ) → Every.EachHasProof R (spell_all es first) (spell_all es second)
      → EachHasProof R es first second
  each_number first second proofs n m = proofs (spell es n) (Memᴰ.map (spell es) m)

  -- Numbers among others spell propositions among theirs.
  spelled_among : (first second : List ℕ) → first ⊆ second → spell_all es first ⊆ spell_all es second
  spelled_among first second among A m =
      let (n, stands, is) = Memᴰ.of_map (spell es) first m in subst (λ B. B ∈ spell_all es second) is (Memᴰ.map (spell es) (among n stands))

module _ (R : Relation) (reflexive : Reflexive R) (transitive : Transitive R) where
  pub force_by_statements : ForceByStatements R
  force_by_statements es first second =
      let (to, from) = (for_every_relation R reflexive transitive).force_by_statements (spell_all es first)
      (spell_all es second) in (
        λ f. let (there, back) = to f in (each_number R es first second there, each_number R es second first back),
        λ (there, back). from (each_spelled R es first second there, each_spelled R es second first back),
      )

  pub goal_kept_lem : GoalKept R
  goal_kept_lem es old new papers statements goal force among D =
      rw (map-append (spell es) new papers)
      ((for_every_relation R reflexive transitive).any_release_kept (spell_all es old) (spell_all es new)
      (spell_all es papers) (spell_all es statements) (spell es goal) force
      (rw (map-append (spell es) old papers) at (spelled_among R es statements (old ++ papers) among)) D)
