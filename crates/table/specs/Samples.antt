-- The samples of document 01 as far as they are about tables, and where two tests apply. Proved in proofs/Samples.antt,
-- by computation. Assumes nothing.
use Rattle.std.specs.Prelude.{ℕ, true, false, ◌≡◌, List, [], ◌∷◌, map, replicate}
use Rattle.basics.specs.Tested.{Tested, Passed, Refused}
use Rattle.logic.specs.Proposition as P
use Rattle.logic.specs.Proposition.{◌implies◌, ◌and◌, ◌or◌, ◌says◌}
use Rattle.table.specs.declared.entry.Entry.TheVariants.{Atom, False, Implies, And, Or, Says}
use Rattle.table.specs.Entry.{atom, formula, principal}
use Rattle.table.specs.Tests.{entries, sized, table_tests}
use Rattle.table.specs.Spelled.{spelled}
use Rattle.table.specs.Number.{number}

-- A row of a table of samples: heads, seconds and the answer.
pub record Sample : Type 0 where
  pub heads : List ℕ
  pub seconds : List ℕ
  pub answer : Tested

abbrev pub sample : List ℕ → List ℕ → Tested → Sample
sample heads seconds answer = record { heads = heads; seconds = seconds; answer = answer }

-- Each kind once, with operands that differ in number and in kind, so that no two can change places: as heads and
-- seconds.
abbrev pub unlike_heads : List ℕ
unlike_heads = 9 ∷ 4096 ∷ 8192 ∷ 12289 ∷ 16386 ∷ 20487 ∷ []

abbrev pub unlike_seconds : List ℕ
unlike_seconds = 0 ∷ 0 ∷ 1 ∷ 2 ∷ 0 ∷ 4 ∷ []

-- In order: table T; M, "a table of entries 0 and 0"; N, "first entry 20487 with second 0"; the table of K; each kind
-- once; no entry; arrays of unlike length; kind 6, twice; an atom with a second; false with a first operand; an operand that
-- is the entry's own number; a second of 65,535; a repeated entry at 2 and a wrong one at 3, 4 before 5; and the first
-- of two repeated entries. Then tables without a fault: each kind once with unlike operands, as above; and one head
-- with two seconds, which is no repetition, where 2 is 0 implies 0 and the first operand of 4 has the higher number.
abbrev pub table : List Sample
table =
    sample (0 ∷ 20487 ∷ 20488 ∷ []) (0 ∷ 0 ∷ 0 ∷ []) Passed
    ∷ sample (0 ∷ 0 ∷ []) (0 ∷ 0 ∷ []) (Refused 5 1)
    ∷ sample (20487 ∷ []) (0 ∷ []) (Refused 4 0)
    ∷ sample (0 ∷ 1 ∷ 12288 ∷ []) (0 ∷ 0 ∷ 1 ∷ []) Passed
    ∷ sample (0 ∷ 4096 ∷ 8192 ∷ 12288 ∷ 16384 ∷ 20480 ∷ []) (0 ∷ 0 ∷ 1 ∷ 1 ∷ 1 ∷ 1 ∷ []) Passed
    ∷ sample [] [] (Refused 2 0)
    ∷ sample (0 ∷ 1 ∷ []) (0 ∷ []) (Refused 2 0)
    ∷ sample (0 ∷ 24576 ∷ 24577 ∷ []) (0 ∷ 0 ∷ 0 ∷ []) (Refused 4 1)
    ∷ sample (0 ∷ []) (1 ∷ []) (Refused 4 0)
    ∷ sample (4097 ∷ []) (0 ∷ []) (Refused 4 0)
    ∷ sample (0 ∷ 8193 ∷ []) (0 ∷ 0 ∷ []) (Refused 4 1)
    ∷ sample (0 ∷ 8192 ∷ []) (0 ∷ 65535 ∷ []) (Refused 4 1)
    ∷ sample (0 ∷ 1 ∷ 0 ∷ 8195 ∷ []) (0 ∷ 0 ∷ 0 ∷ 0 ∷ []) (Refused 4 3)
    ∷ sample (0 ∷ 1 ∷ 1 ∷ 0 ∷ []) (0 ∷ 0 ∷ 0 ∷ 0 ∷ []) (Refused 5 2)
    ∷ sample unlike_heads unlike_seconds Passed
    ∷ sample (0 ∷ 1 ∷ 8192 ∷ 8192 ∷ 8193 ∷ []) (0 ∷ 0 ∷ 0 ∷ 1 ∷ 0 ∷ []) Passed
    ∷ []

abbrev pub Samples : Type 0
Samples = map (λ r. table_tests r.heads r.seconds) table ≡ map (λ r. r.answer) table

-- F is 4,096 at most: test 2 of so many entries, and of one more.
abbrev pub Sizes : Type 0
Sizes = map (λ n. sized (replicate n 0) (replicate n 0)) (0 ∷ 1 ∷ 4096 ∷ 4097 ∷ []) ≡ false ∷ true ∷ true ∷ false ∷ []

-- What table T spells out, with (7 says it) implies false after it.
abbrev pub SpelledOut : Type 0
SpelledOut =
    spelled (entries (0 ∷ 20487 ∷ 20488 ∷ 4096 ∷ 8193 ∷ []) (0 ∷ 0 ∷ 0 ∷ 0 ∷ 3 ∷ []))
    ≡ P.atom 0 ∷ 7 says P.atom 0 ∷ 8 says P.atom 0 ∷ P.false ∷ (7 says P.atom 0) implies P.false ∷ []

-- Each kind once, as entries,
abbrev pub EachKind : Type 0
EachKind =
    entries unlike_heads unlike_seconds
    ≡ Atom (atom 9)
    ∷ False
    ∷ Implies (formula 0) (formula 1)
    ∷ And (formula 1) (formula 2)
    ∷ Or (formula 2) (formula 0)
    ∷ Says (principal 7) (formula 4)
    ∷ []

-- and spelled out.
abbrev pub EachSpelled : Type 0
EachSpelled =
    spelled (entries unlike_heads unlike_seconds)
    ≡ P.atom 9
    ∷ P.false
    ∷ P.atom 9 implies P.false
    ∷ P.false and (P.atom 9 implies P.false)
    ∷ (P.atom 9 implies P.false) or P.atom 9
    ∷ 7 says ((P.atom 9 implies P.false) or P.atom 9)
    ∷ []

-- The numbers of what table T spells, and of what it does not.
abbrev pub Numbers : Type 0
Numbers =
    map (number (entries (0 ∷ 20487 ∷ 20488 ∷ []) (0 ∷ 0 ∷ 0 ∷ []))) (P.atom 0 ∷ 7 says P.atom 0 ∷ 8 says P.atom 0 ∷ P.atom 7 ∷ [])
    ≡ 0 ∷ 1 ∷ 2 ∷ 3 ∷ []
