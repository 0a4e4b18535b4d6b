-- `sides::mark_sides` meets its contract: the pass marks each entry for both sides, and ends with the table. Assumes
-- nothing.
use Rattle.std.proofs.Common.{arith, sym, ap, ◌∙◌, ◌<◌, ◌≤◌, length, take}
use Rattle.logic.specs.Sides.{proving, given}
use Rattle.table.specs.declared.entry.Entry.{Entry}
use Rattle.table.specs.Tests.{entries}
use Rattle.table.specs.Spelled.{proposition, spelled}
use Rattle.table.proofs.Entries.{length_entries, entry_at_lem}
use Rattle.table.proofs.Upward.{upward_none, upward_front, upward_more, upward_all}
use Rattle.steps.specs.Figure1.{same}
use Rattle.independence.specs.Test.{proving_says}
use Rattle.independence_check.proofs.sides.mark_sides.Goals as goal

pub loop-i-init : goal.loop-i-init
loop-i-init c = record { on_proving = upward_none _ _ _; on_given = upward_none _ _ _ }

pub bounds-proving-i : goal.bounds-proving-i
bounds-proving-i c = omega (arith, length_entries c.args.table.heads.now c.args.table.seconds.now)

pub bounds-given-i : goal.bounds-given-i
bounds-given-i c = omega (arith, length_entries c.args.table.heads.now c.args.table.seconds.now)

pub loop-i-preserved : goal.loop-i-preserved
loop-i-preserved c =
    let l = c.loop-i in
    let hs = c.args.table.heads.now in
    let ss = c.args.table.seconds.now in
    let K = c.args.k.0 in
    let made = spelled (take l.i (entries hs ss)) in
    let inside : l.i < length (entries hs ss) = omega (arith, length_entries hs ss) in
    let is = c.take_apart-entry.ensures ∙ sym (entry_at_lem hs ss l.i (omega arith) (omega arith)) in
    let p = l.invariant.on_proving in
    let g = l.invariant.on_given in
    let found = c.marks_of-marks.ensures made (upward_front _ p) (upward_front _ g) in record {
      on_proving =
          upward_more _ p c.marks_of-marks.result.proving inside (omega arith)
          (found.0 ∙ ap (λ (e : Entry). proving_says same K proving (proposition made e)) is);
      on_given =
          upward_more _ g c.marks_of-marks.result.given inside (omega arith)
          (found.1 ∙ ap (λ (e : Entry). proving_says same K given (proposition made e)) is);
    }

pub returns : goal.returns
returns c =
    let l = c.loop-i in
    let all : length (entries c.args.table.heads.now c.args.table.seconds.now) ≤ l.i =
    omega (arith, length_entries c.args.table.heads.now c.args.table.seconds.now) in record {
      proving_after = upward_all _ l.invariant.on_proving all;
      given_after = upward_all _ l.invariant.on_given all;
    }
