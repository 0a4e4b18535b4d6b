-- The samples hold, by computation. Assumes nothing.
use native.Mathlib.Decide.{ℕ_discrete}
use mathlib.Core.Path.{refl}
use mathlib.Core.List.{flatten}
use Rattle.file.specs.Words.{file_words, file_of}
use Rattle.table.specs.Number.{position}
use Rattle.encoding.specs.Subformulas.{enter, enter_all}
use Rattle.encoding.specs.Samples.{RecordA, SixKinds, ExchangeK, EmptyLists}

pub record_a : RecordA
unfolding file_words file_of flatten enter enter_all position ℕ_discrete
record_a = refl

pub six_kinds : SixKinds
unfolding file_words file_of flatten enter enter_all position ℕ_discrete
six_kinds = refl

pub exchange_k : ExchangeK
unfolding file_words file_of flatten enter enter_all position ℕ_discrete
exchange_k = refl

pub empty_lists : EmptyLists
unfolding file_words file_of flatten enter enter_all position ℕ_discrete
empty_lists = refl
