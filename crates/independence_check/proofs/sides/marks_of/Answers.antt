-- `sides::marks_of` meets its contract, kind by kind, for either side. Assumes nothing.
use Rattle.std.proofs.Common.{◌≡◌, ◌∙◌, false}
use Rattle.logic.specs.Sides.{Side, proving, given}
use Rattle.table.specs.Spelled.{proposition}
use Rattle.steps.specs.Figure1.{same}
use Rattle.independence.specs.Test.{proving_says}
use Rattle.independence_check.proofs.Marks.{mark_of, of_kind, in_either, keeps_side, in_said, none_inside}
use Rattle.independence_check.proofs.sides.marks_of.Goals as goal

pub returns-in-Implies : goal.returns-in-Implies
unfolding proving_says
returns-in-Implies c made p g =
    let K = c.args.k.0 in
    let kind = c.in-Implies in
    let a = kind.a.0 in
    let b = kind.b.0 in (
      in_either K made given proving a b g p c.is_set.ensures c.is_set-in-Implies.ensures
          ∙ of_kind K made proving kind.is,
      in_either K made proving given a b p g c.is_set-in-Implies-2.ensures c.is_set-in-Implies-3.ensures
          ∙ of_kind K made given kind.is,
    )

pub returns-in-Says : goal.returns-in-Says
unfolding proving_says
returns-in-Says c made p g =
    let K = c.args.k.0 in
    let kind = c.in-Says in
    let L = kind.l.0 in
    let a = kind.a.0 in (
      in_said K made L a p c.speaks_for.ensures c.is_set-in-Says.ensures ∙ of_kind K made proving kind.is,
      c.is_set-in-Says-2.ensures ∙ mark_of K made given a g ∙ of_kind K made given kind.is,
    )

pub returns-in_default : goal.returns-in_default
returns-in_default c made p g =
    let K = c.args.k.0 in
    let kind = c.in_default in
    let none : (s : Side) → false ≡ proving_says same K s (proposition made c.args.entry) =
    λ s. none_inside K made s c.args.entry kind.not-Implies kind.not-And kind.not-Or kind.not-Says in
    (none proving, none given)

pub returns-in-And : goal.returns-in-And
returns-in-And c made p g =
    let K = c.args.k.0 in
    let kind = c.in-And in
    let a = kind.a.0 in
    let b = kind.b.0 in (
      in_either K made proving proving a b p p c.is_set-in-And.ensures c.is_set-in-And-2.ensures
          ∙ keeps_side K made proving kind.is,
      in_either K made given given a b g g c.is_set-in-And-3.ensures c.is_set-in-And-4.ensures
          ∙ keeps_side K made given kind.is,
    )
