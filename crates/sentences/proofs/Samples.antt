-- The samples hold, by computation (specs/Samples.antt). Assumes nothing.
use mathlib.Core.Path.{refl}
use Rattle.basics.specs.First.{first}
use Rattle.basics.specs.Membership.{holds}
use Rattle.basics.specs.Rising.{into}
use Rattle.basics.specs.Refusals.{first_refusal}
use Rattle.text.specs.Ascii.{ascii}
use Rattle.text.specs.Decimal.{digits, decimal}
use Rattle.file.specs.Words.{file_words, file_of}
use Rattle.table.specs.Entry.{entry}
use Rattle.table.specs.Spelled.{spelled_after, spelled}
use Rattle.table.specs.Tests.{entries, wrong_entry, repeated_entry}
use Rattle.steps.specs.Step.{opens, step}
use Rattle.steps.specs.Run.{walk, run}
use Rattle.steps.specs.Trace.{trace}
use Rattle.steps.specs.Naming.{is_naming, named_numbers}
use Rattle.signers.specs.Signers.{principals, used}
use Rattle.sentences.specs.Formula.{proposition_text, goal_text}
use Rattle.sentences.specs.Sentences.{rule_name, named_text, line_text, sentences_from}
use Rattle.sentences.specs.Answer.{sentences_answer}
use Rattle.sentences.specs.Samples.{TextOfA, OtherNumbers, TextOfEveryRule, Answers, LentAfter}

pub text_of_a_lem : TextOfA
unfolding file_of file_words entries entry spelled spelled_after holds opens step trace ascii digits decimal
    proposition_text goal_text rule_name named_text line_text sentences_from
text_of_a_lem = refl

pub other_numbers : OtherNumbers
unfolding file_of file_words entries entry spelled spelled_after holds opens step trace ascii digits decimal
    proposition_text goal_text rule_name named_text line_text sentences_from
other_numbers = refl

pub text_of_every_rule_lem : TextOfEveryRule
unfolding file_of file_words entries entry spelled spelled_after holds opens step trace ascii digits decimal
    proposition_text goal_text rule_name named_text line_text sentences_from
text_of_every_rule_lem = refl

pub answers : Answers
unfolding sentences_answer first_refusal wrong_entry repeated_entry first into principals used named_numbers is_naming run
    walk file_of file_words entries entry spelled spelled_after holds opens step trace ascii digits decimal
    proposition_text goal_text rule_name named_text line_text sentences_from
answers = (refl, refl, refl, refl)

pub lent_after : LentAfter
unfolding into principals used named_numbers is_naming file_of file_words entries entry spelled spelled_after holds opens
    step trace ascii digits decimal proposition_text goal_text rule_name named_text line_text sentences_from
lent_after = (refl, refl, refl, refl)
