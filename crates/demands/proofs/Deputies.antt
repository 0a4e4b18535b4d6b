-- The demands with deputies (specs/Deputies.antt). Assumes nothing.
use mathlib.Core.Path.{refl}
use Rattle.basics.specs.First.{first}
use Rattle.basics.specs.Membership.{holds}
use Rattle.basics.specs.Rising.{into}
use Rattle.basics.specs.Refusals.{first_refusal}
use Rattle.file.specs.Words.{file_words, file_of}
use Rattle.deputies.specs.SpeaksFor.{SpeaksFor, speaks}
use Rattle.deputies.proofs.Speaks.{speaks_lawful}
use Rattle.table.specs.Entry.{entry}
use Rattle.table.specs.Tests.{entries, wrong_entry, repeated_entry}
use Rattle.steps.specs.Step.{opens, step}
use Rattle.steps.specs.Run.{walk, run}
use Rattle.steps.specs.Naming.{is_naming, named_numbers}
use Rattle.signers.specs.Signers.{principals, used}
use Rattle.record.specs.Answer.{record_answer}
use Rattle.demands.specs.Deputies.{DemandsWithDeputies, DeputySamples}
use Rattle.demands.proofs.Demands.{for_every_relation}

pub demands_with_deputies : DemandsWithDeputies
demands_with_deputies pairs = for_every_relation (speaks pairs) (SpeaksFor pairs) (speaks_lawful pairs)

pub deputy_samples : DeputySamples
unfolding speaks record_answer file_words file_of first_refusal wrong_entry repeated_entry first into principals used
    named_numbers is_naming run walk step opens holds entries entry
deputy_samples = refl
