-- The samples hold, by computation. Assumes nothing.
use mathlib.Core.Path.{refl}
use Rattle.basics.specs.First.{first}
use Rattle.basics.specs.Membership.{holds}
use Rattle.basics.specs.Refusals.{first_refusal}
use Rattle.file.specs.Words.{file_words, file_of}
use Rattle.table.specs.Entry.{entry}
use Rattle.table.specs.Tests.{entries, wrong_entry, repeated_entry}
use Rattle.steps.specs.Step.{opens, step}
use Rattle.steps.specs.Run.{walk, run}
use Rattle.exchange.specs.Answer.{exchange_answer}
use Rattle.exchange.specs.Samples.{Samples, Order, Directions, Depths, Bytes}

pub samples : Samples
unfolding exchange_answer file_words file_of first_refusal wrong_entry repeated_entry first
    run walk step opens holds entries entry
samples = refl

pub order : Order
unfolding exchange_answer file_words file_of first_refusal wrong_entry repeated_entry first
    run walk step opens holds entries entry
order = refl

pub directions : Directions
unfolding exchange_answer file_words file_of first_refusal wrong_entry repeated_entry first
    run walk step opens holds entries entry
directions = refl

pub depths : Depths
unfolding exchange_answer file_words file_of first_refusal wrong_entry repeated_entry first
    run walk step opens holds entries entry
depths = refl

pub bytes : Bytes
unfolding exchange_answer file_words first_refusal wrong_entry repeated_entry first run walk step opens holds entries entry
bytes = refl
