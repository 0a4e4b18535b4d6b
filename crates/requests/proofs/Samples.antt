-- The samples hold, by computation (specs/Samples.antt). Assumes nothing.
use mathlib.Core.Path.{refl}
use Rattle.basics.specs.First.{first}
use Rattle.basics.specs.Membership.{holds}
use Rattle.basics.specs.Rising.{into}
use Rattle.basics.specs.Refusals.{first_refusal}
use Rattle.text.specs.Ascii.{ascii}
use Rattle.text.specs.Decimal.{digits, decimal}
use Rattle.file.specs.Words.{file_words, file_of}
use Rattle.table.specs.Entry.{entry}
use Rattle.table.specs.Tests.{entries, wrong_entry, repeated_entry}
use Rattle.steps.specs.Step.{opens, step}
use Rattle.steps.specs.Run.{walk, run}
use Rattle.steps.specs.Naming.{is_naming, named_numbers}
use Rattle.signers.specs.Signers.{principals, used}
use Rattle.record.specs.Answer.{record_answer}
use Rattle.line.specs.RefusedLine.{refused_line}
use Rattle.line.specs.RecordLine.{listed, record_line}
use Rattle.independence.proofs.Samples.{without_paper_lem, matters}
use Rattle.requests.specs.Samples.{InOrder, OnlyWhoCarried, YesAndNo, FromPapers}

pub in_order_lem : InOrder
unfolding listed record_line refused_line ascii decimal digits record_answer file_words file_of first_refusal wrong_entry
    repeated_entry first into principals used named_numbers is_naming run walk step opens holds entries entry
in_order_lem = refl

pub only_who_carried_lem : OnlyWhoCarried
unfolding listed record_line refused_line ascii decimal digits record_answer file_words file_of first_refusal wrong_entry
    repeated_entry first into principals used named_numbers is_naming run walk step opens holds entries entry
only_who_carried_lem = refl

pub yes_and_no : YesAndNo
yes_and_no = (without_paper_lem.0, matters.0)

pub from_papers_lem : FromPapers
unfolding listed record_line refused_line ascii decimal digits record_answer file_words file_of first_refusal wrong_entry
    repeated_entry first into principals used named_numbers is_naming run walk step opens holds entries entry
from_papers_lem = refl
