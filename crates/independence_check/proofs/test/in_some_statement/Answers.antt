-- `test::in_some_statement` meets its contract: `any` of the test of one. Assumes nothing.
use Rattle.std.proofs.Common.{ℕ, ◌∙◌, rules, tests}
use Rattle.std.proofs.lemmas.Iterator.{YieldsList-from_slice}
use Rattle.std.proofs.lemmas.Iterator.Search.{any_from_yields_List}
use Rattle.table.specs.Tests.{entries}
use Rattle.table.specs.Spelled.{spell}
use Rattle.steps.specs.Figure1.{same}
use Rattle.independence.specs.Test.{in_statement}
use Rattle.independence_check.proofs.Statements.{in_any}
use Rattle.independence_check.proofs.test.in_some_statement.Goals as goal

pub returns : goal.returns
returns c =
    let K = c.args.k.0 in
    let es = entries c.args.table.heads.now c.args.table.seconds.now in
    any_from_yields_List (λ (n : ℕ). in_statement same K (spell es n)) _ _ _ c.any.ensures.ran
    (YieldsList-from_slice c.args.statements.now (cc)) (λ x b q k. search (rules, tests))
    ∙ in_any K es c.args.statements.now
