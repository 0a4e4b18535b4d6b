-- `table_check::order::wrong_entry` meets its contract: what `find` finds is the first entry that is asked and is wrong.
-- Assumes nothing.
use Rattle.std.proofs.Common.{true, false, rules, ◌≡◌}
use Rattle.std.proofs.lemmas.Iterator.{first_from_Range}
use Rattle.table_check.proofs.Scan.{asked, wrong_found}
use Rattle.table_check.proofs.order.wrong_entry.Goals as goal

pub returns : goal.returns
returns c =
    let hs = c.args.table.heads.now in
    let ss = c.args.table.seconds.now in
    wrong_found hs ss _ c.requires.0
    (first_from_Range _ _ _ _ (λ i. asked hs ss i ≡ false) (λ i. asked hs ss i ≡ true) c.find.ensures.ran
    (λ x q k. search rules) (λ x q k. search rules))
