-- `table_check::by_head::repeated_by_head` meets its contract: each turn does the head of one entry more. Assumes
-- nothing.
use Rattle.std.proofs.Common.{ℕ, ◌*◌, ◌<◌, ◌≤◌, length, get_or, arith, refl, ◌∙◌}
use Rattle.std.proofs.Math.ListN.{length-replicate}
use Rattle.basics.specs.Limits.{most_atoms}
use Rattle.table_check.specs.Chains.{NextFrom}
use Rattle.table_check.proofs.Chains.{chained_none, notes_none}
use Rattle.table_check.proofs.AllChains.{done_none, done_chain, done_before, done_last, done_all}
use Rattle.table_check.proofs.by_head.repeated_by_head.Goals as goal
use Rattle.table_check.proofs.by_head.repeated_by_head.Goals.{then-next-i+then-first-head, else-next-i, else-next-i-via-then-next-i+else-first-head, else-next-i-via-else-next-i, else-loop-i-test, then-loop-i-test+then-found-i}

pub chain-requires : goal.chain-requires
chain-requires c = let p = c.requires in chained_none _ 24576 4096 p.few p.low_heads p.few

pub loop-i-init : goal.loop-i-init
loop-i-init c = record { room = refl; notes = notes_none _ 4096 (omega arith); done = done_none _ _ }

pub loop-i-preserved : goal.loop-i-preserved
loop-i-preserved c =
    let l = c.loop-i in
    let d = l.invariant.done in
    let hs = c.args.table.heads.now in
    let head = get_or hs l.i 0 in
    -- i is an entry, which has a head of the six kinds
    let inside : l.i < length hs = omega arith in
    let low : head < 6 * most_atoms = c.requires.low_heads l.i inside in
    -- what stands at that head, and what stands next to the entry
    let first : NextFrom hs head 0 (get_or c.chain.new.first head 0) =
    c.chain.ensures.firsts head (omega (arith, low, c.chain.auto.first, length-replicate {A = ℕ} 24576 4096)) in
    let next = c.chain.ensures.nexts l.i (omega arith) inside in
    elim c.if-next-i.branch [
      | then-next-i+then-first-head w ↦
          let r = w.repeated_in_chain-found in
          rw (w.seen-is, w.found-is)
          record {
            room = r.auto.seen ∙ l.invariant.room;
            notes = r.ensures.notes;
            done = done_chain _ _ l.i _ d _ r.ensures.first_of_head;
          }
      | else-next-i w ↦
          rw (w.seen-is, w.found-is)
          record {
            room = l.invariant.room;
            notes = l.invariant.notes;
            done =
                elim w.else-next-i.branch [
                  | else-next-i-via-then-next-i+else-first-head v ↦
                      done_before _ _ l.i _ d _ inside first v.if-first-head.false
                  | else-next-i-via-else-next-i v ↦ done_last _ _ l.i _ d _ next v.if-next-i.false
                ];
          }
    ]

pub returns : goal.returns
returns c =
    let d = c.loop-i.invariant.done in
    let end : c.loop-i.found ≤ c.loop-i.i =
    elim c.loop-i-test.branch [
      | else-loop-i-test w ↦ omega (arith, d.within)
      | then-loop-i-test+then-found-i w ↦ omega arith
    ] in
    c.then_some.ensures ∙ done_all _ _ _ _ d end
