-- To count the subformulas is enough (specs/Subformulas.antt, `CountedFormulas`). Assumes nothing.
use native.Mathlib.Omega.{arith}
use Rattle.basics.proofs.Once.{no_more}
use Rattle.logic.specs.Proposition.{Proposition}
use Rattle.encoding.specs.Subformulas.{subformulas, CountedFormulas}
use Rattle.encoding.proofs.Once.{each_once}
use Rattle.encoding.proofs.Subformulas.{subformulas_are, in_order_operands}

pub counted_formulas : CountedFormulas
counted_formulas As =
    let are = subformulas_are As in (
      λ room.
          let all = are.needed room.formulas room.holds room.has_operands in
          let few = room.few in
          let once = each_once (subformulas As) are.in_order.none_twice in (
            omega (arith, no_more Proposition (subformulas As) room.formulas once all),
            λ B m. room.numbered B (all B m),
          ),
      λ (few, numbered). record {
        formulas = subformulas As;
        few = few;
        holds = are.holds;
        has_operands = in_order_operands are.in_order;
        numbered = numbered;
      },
    )
