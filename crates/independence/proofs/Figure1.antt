-- The promises for Figure 1 (specs/Figure1.antt). Assumes nothing.
use Rattle.logic.specs.Figure1.{Same}
use Rattle.steps.specs.Figure1.{same}
use Rattle.steps.proofs.Figure1.{same_lawful}
use Rattle.independence.specs.Figure1.{IndependentExactly, NotIndependentExactly, RefusedExactly, StepsUnread, AnswersSmall, LongerFile, SameProofs, SameWords, NeverSigns}
use Rattle.independence.proofs.SameProofs as Proofs
use Rattle.independence.proofs.Answer as Answer
use Rattle.independence.proofs.StepsUnread as Unread
use Rattle.independence.proofs.Small as Small
use Rattle.independence.proofs.SameWords as Words

pub independent_exactly : IndependentExactly
independent_exactly = Answer.independent_exactly same Same same_lawful.decides

pub not_independent_exactly : NotIndependentExactly
not_independent_exactly = Answer.not_independent_exactly same Same same_lawful.decides

pub refused_exactly : RefusedExactly
refused_exactly = Answer.refused_exactly same

pub steps_unread : StepsUnread
steps_unread = Unread.steps_unread same

pub answers_small : AnswersSmall
answers_small = Small.answers_small same

pub longer_file : LongerFile
longer_file = Small.longer_file same

pub same_proofs : SameProofs
same_proofs = Proofs.same_proofs Same

pub same_words : SameWords
same_words = Words.same_words same Same same_lawful.decides

pub never_signs : NeverSigns
never_signs = Words.never_signs same
