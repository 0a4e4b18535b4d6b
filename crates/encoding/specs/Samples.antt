-- Files word for word from derivations: record A and exchange K of 01, a table of all six kinds, and two empty lists.
-- Proved in proofs/Samples.antt, by computation. Assumes nothing.
use Rattle.std.specs.Prelude.{◌≡◌, refl, List, [], ◌∷◌}
use mathlib.Core.List.Memᴰ
use Rattle.basics.specs.Membership.{◌∈◌}
use Rattle.file.specs.Words.{file_words}
use Rattle.logic.specs.Proposition.{Proposition, atom, false, ◌implies◌, ◌and◌, ◌or◌, ◌says◌}
use Rattle.logic.specs.Judgment.{truth}
use Rattle.logic.specs.Derivation.{init, affirm, implies_right, implies_left, false_left, and_right, and_left, says_right, says_left}
use Rattle.logic.specs.Figure1.{Same, Derivation}
use Rattle.encoding.specs.Record.{encoded_record}
use Rattle.encoding.specs.Exchange.{Exchange, encoded_exchange}

-- the places of a list, for hypotheses
abbrev pub first : {A : Proposition} {l : List Proposition} → A ∈ A ∷ l
first = Memᴰ.head refl

abbrev pub second : {A B : Proposition} {l : List Proposition} → A ∈ B ∷ A ∷ l
second = Memᴰ.tail first

abbrev pub third : {A B C : Proposition} {l : List Proposition} → A ∈ B ∷ C ∷ A ∷ l
third = Memᴰ.tail second

-- ---- records

-- A: says right, says left of 7's paper, affirm, init.
abbrev pub proof_a : Derivation (7 says atom 0 ∷ []) (truth (7 says atom 0))
proof_a = says_right (says_left first refl (affirm (init first)))

-- "Record A uses entries 0 and 1 only, as words: 2 1 4 1, 0 20487, 0 0, 1, 40960 45057 4096 0." (01)
abbrev pub RecordA : Type 0
RecordA =
    file_words (encoded_record proof_a)
    ≡ 2 ∷ 1 ∷ 4 ∷ 1
    ∷ 0 ∷ 20487
    ∷ 0 ∷ 0
    ∷ 1
    ∷ 40960 ∷ 45057 ∷ 4096 ∷ 0
    ∷ []

-- No sample of 01: all six kinds, each compound one once, with unlike operands, and four unlike fields, so that no two
-- can change places. The goal is entered first, then the statements in their order, each after its operands. Implies
-- right; and left; implies left, init, false left.
abbrev pub goal : Proposition
goal = atom 9 implies false

abbrev pub six : Derivation (false and goal ∷ 7 says (atom 8 or atom 6) ∷ atom 9 ∷ []) (truth goal)
six = implies_right (and_left second (implies_left second (init third) (false_left first)))

-- By their numbers the formulas are atom 9, false, 0 implies 1, 1 and 2, atom 8, atom 6, 4 or 5, 7 says 6.
abbrev pub SixKinds : Type 0
SixKinds =
    file_words (encoded_record six)
    ≡ 8 ∷ 3 ∷ 5 ∷ 2
    ∷ 9 ∷ 4096 ∷ 8192 ∷ 12289 ∷ 8 ∷ 6 ∷ 16388 ∷ 20487
    ∷ 0 ∷ 0 ∷ 1 ∷ 2 ∷ 0 ∷ 0 ∷ 5 ∷ 6
    ∷ 3 ∷ 7 ∷ 0
    ∷ 8192 ∷ 24579 ∷ 12290 ∷ 0 ∷ 16385
    ∷ []

-- ---- exchange files

-- K: each operand by and left; both by and right.
abbrev pub proofs_k : Exchange Same (atom 0 and atom 1 ∷ []) (atom 0 ∷ atom 1 ∷ [])
proofs_k = record {
  second_from_first = (and_left first (init first), (and_left first (init second), tt));
  first_from_second = (and_right (init first) (init second), tt);
}

-- "K m, exchange, table atom 0, atom 1, their and (head 12288, second 1): lists [2] and [0, 1], steps 24578 0 24578 1
-- 20480 0 1" (01)
abbrev pub ExchangeK : Type 0
ExchangeK =
    file_words (encoded_exchange proofs_k)
    ≡ 3 ∷ 1 ∷ 2 ∷ 7
    ∷ 0 ∷ 1 ∷ 12288
    ∷ 0 ∷ 0 ∷ 1
    ∷ 2
    ∷ 0 ∷ 1
    ∷ 24578 ∷ 0 ∷ 24578 ∷ 1 ∷ 20480 ∷ 0 ∷ 1
    ∷ []

-- "Two empty lists with N = 0 are equal." (01) The table has an atom, for it has one entry at least.
abbrev pub none : Exchange Same [] []
none = record { second_from_first = tt; first_from_second = tt }

abbrev pub EmptyLists : Type 0
EmptyLists = file_words (encoded_exchange none) ≡ 1 ∷ 0 ∷ 0 ∷ 0 ∷ 0 ∷ 0 ∷ []
