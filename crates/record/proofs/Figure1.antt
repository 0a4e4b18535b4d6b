-- The promises for Figure 1 (specs/Figure1.antt): those for every test on principals, at "the same K". Assumes nothing.
use Rattle.logic.specs.Figure1.{Same}
use Rattle.steps.specs.Figure1.{same}
use Rattle.steps.proofs.Figure1.{same_lawful}
use Rattle.record.specs.Figure1.{GrantedExactly, RefusedExactly, EightExactly, KeepsExactly, AnswersSmall, LongerFile, StatementsAreASet, StatedTwice, SignersCarry, PapersAlone}
use Rattle.record.proofs.Granted as Granted
use Rattle.record.proofs.Reasons as Reasons
use Rattle.record.proofs.Eight as Eight
use Rattle.record.proofs.Kept as Kept
use Rattle.record.proofs.Small as Small
use Rattle.record.proofs.Longer as Longer
use Rattle.record.proofs.SameSet as SameSet
use Rattle.record.proofs.Carries as Carries
use Rattle.record.proofs.Papers as Papers

pub granted_exactly : GrantedExactly
granted_exactly = Granted.granted_exactly same Same same_lawful.decides

pub refused_exactly : RefusedExactly
refused_exactly = Reasons.refused_exactly same

pub eight_exactly : EightExactly
eight_exactly = Eight.eight_exactly same Same same_lawful.decides

pub keeps_exactly : KeepsExactly
keeps_exactly = Kept.keeps_exactly same

pub answers_small : AnswersSmall
answers_small = Small.answers_small same

pub longer_file : LongerFile
longer_file = Longer.longer_file same

pub statements_are_a_set : StatementsAreASet
statements_are_a_set = SameSet.statements_are_a_set same

pub stated_twice : StatedTwice
stated_twice = SameSet.stated_twice same

pub signers_carry : SignersCarry
signers_carry = Carries.signers_carry same Same same_lawful.decides

pub papers_alone : PapersAlone
papers_alone = Papers.papers_alone same Same same_lawful.decides
