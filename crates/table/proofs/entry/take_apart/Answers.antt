-- `table::entry::take_apart` meets its contract: each arm of the match is a place of `kinds`, and past the last all is
-- ill-formed. Assumes nothing.
use Rattle.std.proofs.Common.{arith, ◌≡◌, ℕ, ◌≤◌, sym, ap₂, ◌∙◌}
use Rattle.std.proofs.Math.ListN.{get_or, get_or-eq_default}
use Rattle.basics.specs.Word.{upper, lower}
use Rattle.table.specs.declared.entry.Entry.TheVariants.{IllFormed}
use Rattle.table.specs.Entry.{kinds, entry}
use Rattle.table.proofs.entry.take_apart.Goals as goal

-- The entry, by the kind and the first operand that the code has of the head.
of_kind : (head second : ℕ) {kind one k : ℕ} → kind ≡ upper head → one ≡ lower head → kind ≡ k
    → get_or (kinds one second) k IllFormed ≡ entry head second
unfolding entry
of_kind head second e f is = ap₂ (λ (n m : ℕ). get_or (kinds m second) n IllFormed) (sym is ∙ e) f

pub returns-in-0 : goal.returns-in-0
returns-in-0 c = c.as_atom.ensures ∙ of_kind _ _ c.upper-kind.ensures c.lower-first.ensures c.in-0.is

pub returns-in-1 : goal.returns-in-1
returns-in-1 c = c.as_false.ensures ∙ of_kind _ _ c.upper-kind.ensures c.lower-first.ensures c.in-1.is

pub returns-in-2 : goal.returns-in-2
returns-in-2 c = of_kind _ _ c.upper-kind.ensures c.lower-first.ensures c.in-2.is

pub returns-in-3 : goal.returns-in-3
returns-in-3 c = of_kind _ _ c.upper-kind.ensures c.lower-first.ensures c.in-3.is

pub returns-in-4 : goal.returns-in-4
returns-in-4 c = of_kind _ _ c.upper-kind.ensures c.lower-first.ensures c.in-4.is

pub returns-in-5 : goal.returns-in-5
returns-in-5 c = of_kind _ _ c.upper-kind.ensures c.lower-first.ensures c.in-5.is

pub returns-in_default : goal.returns-in_default
unfolding entry
returns-in_default c =
    let past : 6 ≤ upper c.args.head = omega (arith, c.upper-kind.ensures) in
    sym (get_or-eq_default (kinds (lower c.args.head) c.args.second) IllFormed past)
