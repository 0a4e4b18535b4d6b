-- Each rule once, by computation (specs/EachRule.antt). Assumes nothing.
use mathlib.Core.Path.{refl}
use mathlib.Core.List.Memᴰ
use mathlib.Core.List.{List, ◌∷◌}
use native.Mathlib.Decide.{ℕ_discrete}
use Rattle.basics.specs.Membership.{holds}
use Rattle.basics.proofs.Membership.{first, second}
use Rattle.logic.specs.Proposition.{Proposition}
use Rattle.logic.specs.Judgment.{Judgment, truth}
use Rattle.logic.specs.Derivation.{init, affirm, implies_right, implies_left, false_left, and_right, and_left, or_right_first, or_right_second, or_left, says_right, says_left}
use Rattle.logic.specs.Figure1.{Derivation}
use Rattle.table.specs.Entry.{entry}
use Rattle.table.specs.Tests.{entries}
use Rattle.table.specs.Spelled.{spelled_after, spelled}
use Rattle.table.specs.Number.{position, number}
use Rattle.steps.specs.Step.{opens, step}
use Rattle.steps.specs.EachRule.{OpensOfEach, RefusesOfEach, p0, p2, p4, WordsOfEach}

pub opens_of_each : OpensOfEach
unfolding step opens holds entries entry
opens_of_each = refl

pub refuses_of_each : RefusesOfEach
unfolding step opens holds entries entry
refuses_of_each = refl

-- anything from p0 and p2, and p4 from p4
abbrev by_p0_and_p2 : {Γ : List Proposition} {γ : Judgment} → Derivation (p0 ∷ p2 ∷ Γ) γ
by_p0_and_p2 = implies_left second (init first) (false_left first)

abbrev p4_by_p4 : {Γ : List Proposition} → Derivation (p4 ∷ Γ) (truth p4)
p4_by_p4 = or_left first (or_right_first (implies_right by_p0_and_p2)) (or_right_second (init first))

pub words_of_each_lem : WordsOfEach
unfolding number position spelled spelled_after entries entry ℕ_discrete
words_of_each_lem = record {
  init = record { derivation = init first; words_are = refl };
  affirm = record { derivation = affirm (init first); words_are = refl };
  implies_right = record { derivation = implies_right (or_right_second (init first)); words_are = refl };
  implies_left = record { derivation = implies_left first (init second) (false_left first); words_are = refl };
  false_left = record { derivation = false_left first; words_are = refl };
  and_right = record { derivation = and_right (false_left first) (implies_right (false_left second)); words_are = refl };
  and_left_first = record { derivation = and_left first (false_left first); words_are = refl };
  and_left_second = record {
    derivation = and_left first (implies_left second (init (Memᴰ.tail (Memᴰ.tail second))) (false_left first));
    words_are = refl;
  };
  or_right_first = record { derivation = or_right_first (implies_right (false_left second)); words_are = refl };
  or_right_second = record { derivation = or_right_second (init first); words_are = refl };
  or_left = record { derivation = p4_by_p4; words_are = refl };
  says_right = record { derivation = says_right (affirm (or_right_second (init first))); words_are = refl };
  says_left = record { derivation = says_left first refl (affirm p4_by_p4); words_are = refl };
}
