-- `sentences_write::name::rule_name` meets its contract: each arm is the name of its code. Assumes nothing.
use Rattle.std.proofs.Common.{arith, ap, sym}
use Rattle.text.specs.Ascii.{ascii}
use Rattle.sentences.specs.Sentences.{rule_name}
use Rattle.sentences_write.proofs.Names.{no_name}
use Rattle.sentences_write.proofs.name.rule_name.Goals as goal

pub returns-in-0 : goal.returns-in-0
unfolding ascii rule_name
returns-in-0 c = ap rule_name (sym c.in-0.is)

pub returns-in-1 : goal.returns-in-1
unfolding ascii rule_name
returns-in-1 c = ap rule_name (sym c.in-1.is)

pub returns-in-2 : goal.returns-in-2
unfolding ascii rule_name
returns-in-2 c = ap rule_name (sym c.in-2.is)

pub returns-in-3 : goal.returns-in-3
unfolding ascii rule_name
returns-in-3 c = ap rule_name (sym c.in-3.is)

pub returns-in-4 : goal.returns-in-4
unfolding ascii rule_name
returns-in-4 c = ap rule_name (sym c.in-4.is)

pub returns-in-5 : goal.returns-in-5
unfolding ascii rule_name
returns-in-5 c = ap rule_name (sym c.in-5.is)

pub returns-in-6 : goal.returns-in-6
unfolding ascii rule_name
returns-in-6 c = ap rule_name (sym c.in-6.is)

pub returns-in-7 : goal.returns-in-7
unfolding ascii rule_name
returns-in-7 c = ap rule_name (sym c.in-7.is)

pub returns-in-8 : goal.returns-in-8
unfolding ascii rule_name
returns-in-8 c = ap rule_name (sym c.in-8.is)

pub returns-in-9 : goal.returns-in-9
unfolding ascii rule_name
returns-in-9 c = ap rule_name (sym c.in-9.is)

pub returns-in-10 : goal.returns-in-10
unfolding ascii rule_name
returns-in-10 c = ap rule_name (sym c.in-10.is)

pub returns-in-11 : goal.returns-in-11
unfolding ascii rule_name
returns-in-11 c = ap rule_name (sym c.in-11.is)

pub returns-in_default : goal.returns-in_default
returns-in_default c = sym (no_name c.args.code (omega arith))
