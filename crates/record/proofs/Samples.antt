-- The samples hold, by computation. Assumes nothing.
use mathlib.Core.Path.{refl}
use Rattle.basics.specs.First.{first}
use Rattle.basics.specs.Membership.{holds}
use Rattle.basics.specs.Rising.{into}
use Rattle.basics.specs.Refusals.{first_refusal}
use Rattle.file.specs.Words.{file_words, file_of}
use Rattle.table.specs.Entry.{entry}
use Rattle.table.specs.Tests.{entries, wrong_entry, repeated_entry}
use Rattle.steps.specs.Step.{opens, step}
use Rattle.steps.specs.Run.{walk, run}
use Rattle.steps.specs.Naming.{is_naming, named_numbers}
use Rattle.signers.specs.Signers.{principals, used}
use Rattle.record.specs.Answer.{record_answer}
use Rattle.record.specs.Samples.{Samples, Order, Bytes, Lists}
use Rattle.record.specs.Former.{former_answer, FormerSamples}

pub samples : Samples
unfolding record_answer file_words file_of first_refusal wrong_entry repeated_entry first into principals used
    named_numbers is_naming run walk step opens holds entries entry
samples = (refl, refl)

pub order : Order
unfolding record_answer file_words file_of first_refusal wrong_entry repeated_entry first into principals used
    named_numbers is_naming run walk step opens holds entries entry
order = (refl, refl)

pub bytes : Bytes
unfolding record_answer file_words first_refusal wrong_entry repeated_entry first into principals used named_numbers
    is_naming run walk step opens holds entries entry
bytes = refl

pub lists : Lists
unfolding record_answer file_words file_of first_refusal wrong_entry repeated_entry first into principals used
    named_numbers is_naming run walk step opens holds entries entry
lists = refl

pub former_samples : FormerSamples
unfolding record_answer former_answer file_words file_of first_refusal wrong_entry repeated_entry first into principals
    used named_numbers is_naming run walk step opens holds entries entry
former_samples = (refl, refl, refl, refl, refl)
