-- `table_check::order::are_well_formed` meets its contract: each turn asks one entry more. Assumes nothing.
use Rattle.std.proofs.Common.{not, arith, refl, ap, ◌∙◌}
use Rattle.basics.specs.First.{first, found}
use Rattle.table_check.proofs.Scan.{judged, wrong_end, none_wrong_more}
use Rattle.table_check.proofs.order.are_well_formed.Goals as goal

pub loop-i-init : goal.loop-i-init
unfolding first
loop-i-init c = refl

pub loop-i-preserved : goal.loop-i-preserved
loop-i-preserved c =
    let l = c.loop-i in
    none_wrong_more _ _ l.i l.so_far _ l.invariant
    (judged _ _ _ _ (omega arith) (omega (arith, c.requires.0)) c.is_well_formed-so_far.ensures)

pub returns : goal.returns
returns c =
    let l = c.loop-i in
    l.invariant ∙ ap (λ q. not (found q)) (wrong_end _ _ l.i c.requires.0 (omega arith))
