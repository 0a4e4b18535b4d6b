-- `table_check::by_head::repeated_in_chain` meets its contract: each turn finds entry j, or notes it and goes on to the
-- next entry of the chain. Assumes nothing.
use Rattle.std.proofs.Common.{length, get_or, ◌+◌, ◌<◌, arith, sym, true≢false, ◌∙◌}
use Rattle.table_check.specs.Chains.{NextFrom}
use Rattle.table_check.proofs.Chains.{chain_finds, chain_goes_on}
use Rattle.table_check.proofs.by_head.repeated_in_chain.Goals as goal
use Rattle.table_check.proofs.by_head.repeated_in_chain.Goals.{else-k-j-via-then-k-j+else-are_same, else-k-j-via-else-k-j}

pub loop-j-preserved-then-are_same : goal.loop-j-preserved-then-are_same
loop-j-preserved-then-are_same c =
    let l = c.loop-j in
    let inside : l.j < length c.args.table.heads.now = omega (arith, c.requires.within, l.invariant.within) in
    chain_finds _ _ _ _ _ _ _ l.invariant _ c.loop-j-test.true inside c.if-k-j.true
    (sym c.are_same.ensures ∙ c.if-are_same.true)

pub loop-j-preserved : goal.loop-j-preserved
loop-j-preserved c =
    let l = c.loop-j in
    let a = c.args in
    let p = c.requires in
    let hs = a.table.heads.now in
    let inside : l.j < length hs = omega (arith, p.within, l.invariant.within) in
    -- the next entry of the chain
    let next : NextFrom hs (get_or hs a.i 0) (l.j + 1) (get_or a.next.now l.j 0) =
    rw (l.invariant.its inside) at (p.linked.nexts l.j inside) in
    chain_goes_on _ _ _ _ _ _ _ l.invariant _ p.within inside
    (omega (arith, p.table.low_seconds l.j inside, l.invariant.notes.room))
    next
    (elim c.else-k-j.branch [
      | else-k-j-via-then-k-j+else-are_same w ↦
          λ less e. true≢false (sym e ∙ sym w.are_same.ensures ∙ w.if-are_same.false)
      | else-k-j-via-else-k-j w ↦ λ less e. omega arith
    ])
