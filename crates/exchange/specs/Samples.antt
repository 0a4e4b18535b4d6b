-- Exchange files of document 01, K to N, and what the order of tests, the two directions and the places mean. Proved in
-- proofs/Samples.antt, by computation. Assumes nothing.
use Rattle.std.specs.Prelude.{ℕ, ◌≡◌, List, [], ◌∷◌, ◌++◌, map, length, replicate}
use Rattle.file.specs.Words.{file_of}
use Rattle.exchange.specs.Verdict.{ExchangeVerdict, Equal, Refused}
use Rattle.exchange.specs.Figure1.{exchange_answer}

-- a row: the words of the file, and the answer
pub record Sample : Type 0 where
  pub words : List ℕ
  pub answer : ExchangeVerdict

abbrev pub row : List ℕ → ExchangeVerdict → Sample
row words answer = record { words = words; answer = answer }

-- "Sizes F, S1, S2, N .. Then heads, seconds, the first list, the second list, N step words"
abbrev pub exchange_of : List ℕ → List ℕ → List ℕ → List ℕ → List ℕ → List ℕ
exchange_of heads seconds first second steps =
    length heads ∷ length first ∷ length second ∷ length steps ∷ heads ++ seconds ++ first ++ second ++ steps

abbrev pub Hold : List Sample → Type 0
Hold samples = map (λ r. exchange_answer (file_of r.words)) samples ≡ map (λ r. r.answer) samples

-- "K m, exchange, table atom 0, atom 1, their and (head 12288, second 1): lists [2] and [0, 1], steps 24578 0 24578 1
-- 20480 0 1: equal."
abbrev pub over_k : List ℕ → List ℕ → List ℕ → List ℕ
over_k first second steps = exchange_of (0 ∷ 1 ∷ 12288 ∷ []) (0 ∷ 0 ∷ 1 ∷ []) first second steps

abbrev pub K : List ℕ
K = over_k (2 ∷ []) (0 ∷ 1 ∷ []) (24578 ∷ 0 ∷ 24578 ∷ 1 ∷ 20480 ∷ 0 ∷ 1 ∷ [])

-- a table of atom 0
abbrev pub over_atom : List ℕ → List ℕ → List ℕ → List ℕ
over_atom first second steps = exchange_of (0 ∷ []) (0 ∷ []) first second steps

-- K. "L: table of atom 0, lists [] and [0], step 0: refused 12 at 0. M: a table of entries 0 and 0: refused 5 at 1. N:
-- first entry 20487 with second 0: refused 4 at 0." "Two empty lists with N = 0 are equal." "a statement that stands
-- twice is proved twice": [0, 0] and [0] with three proofs, equal, and with two.
abbrev pub rows : List Sample
rows =
    row K Equal
    ∷ row (over_atom [] (0 ∷ []) (0 ∷ [])) (Refused 12 0)
    ∷ row (exchange_of (0 ∷ 0 ∷ []) (0 ∷ 0 ∷ []) [] [] []) (Refused 5 1)
    ∷ row (exchange_of (20487 ∷ []) (0 ∷ []) [] [] []) (Refused 4 0)
    ∷ row (over_atom [] [] []) Equal
    ∷ row (over_atom (0 ∷ 0 ∷ []) (0 ∷ []) (0 ∷ 0 ∷ 0 ∷ [])) Equal
    ∷ row (over_atom (0 ∷ 0 ∷ []) (0 ∷ []) (0 ∷ 0 ∷ [])) (Refused 9 2)
    ∷ []

abbrev pub Samples : Type 0
Samples = Hold rows

-- Where two tests apply, the first counts, and no 6 nor 8 is among them. In order: no byte at all; the limits of F, S1,
-- S2 and N: F is 0, 1 and 4,097, all are at their most, and one list or N is past it, where the length is wrong too, so
-- that what passes 2 meets 3; a word too many; a repeated entry at 1 and a wrong one at 2; and 7 through both lists: at
-- 1 in the first, at 1 + 0 and 1 + 1 in the second, and in both, before any step.
abbrev pub order : List Sample
order =
    row [] (Refused 1 0)
    ∷ row (0 ∷ 0 ∷ 0 ∷ 1 ∷ []) (Refused 2 0)
    ∷ row (1 ∷ 0 ∷ 0 ∷ 0 ∷ []) (Refused 3 0)
    ∷ row (4097 ∷ 0 ∷ 0 ∷ 0 ∷ []) (Refused 2 0)
    ∷ row (4096 ∷ 256 ∷ 256 ∷ 16384 ∷ []) (Refused 3 0)
    ∷ row (1 ∷ 257 ∷ 0 ∷ 0 ∷ []) (Refused 2 0)
    ∷ row (1 ∷ 0 ∷ 257 ∷ 0 ∷ []) (Refused 2 0)
    ∷ row (1 ∷ 0 ∷ 0 ∷ 16385 ∷ []) (Refused 2 0)
    ∷ row (1 ∷ 0 ∷ 0 ∷ 0 ∷ 0 ∷ 0 ∷ 0 ∷ []) (Refused 3 0)
    ∷ row (exchange_of (0 ∷ 0 ∷ 20487 ∷ []) (0 ∷ 0 ∷ 2 ∷ []) (9 ∷ []) [] []) (Refused 4 2)
    ∷ row (over_atom (0 ∷ 1 ∷ []) (0 ∷ []) (49152 ∷ [])) (Refused 7 1)
    ∷ row (over_atom (0 ∷ []) (1 ∷ []) []) (Refused 7 1)
    ∷ row (over_atom (0 ∷ []) (0 ∷ 1 ∷ []) []) (Refused 7 2)
    ∷ row (over_atom (0 ∷ 1 ∷ []) (1 ∷ []) []) (Refused 7 1)
    ∷ []

abbrev pub Order : Type 0
Order = Hold order

-- The two directions, and places through all step words. In order, over K's table: only the second list is proved; only
-- the first, which is out of its turn; the first list is proved from itself; a word too many between two proofs is the
-- next one's first; one after the last; the words end inside a proof; and no word at all, where three proofs are due.
abbrev pub directions : List Sample
directions =
    row (over_k (2 ∷ []) (0 ∷ 1 ∷ []) (24578 ∷ 0 ∷ 24578 ∷ 1 ∷ [])) (Refused 9 4)
    ∷ row (over_k (2 ∷ []) (0 ∷ 1 ∷ []) (20480 ∷ 0 ∷ 1 ∷ [])) (Refused 13 0)
    ∷ row (over_k (2 ∷ []) (0 ∷ 1 ∷ []) (24578 ∷ 0 ∷ 24578 ∷ 1 ∷ 20480 ∷ 24578 ∷ 0 ∷ 24578 ∷ 1 ∷ [])) (Refused 12 5)
    ∷ row (over_k (2 ∷ []) (0 ∷ 1 ∷ []) (24578 ∷ 0 ∷ 0 ∷ 24578 ∷ 1 ∷ 20480 ∷ 0 ∷ 1 ∷ [])) (Refused 12 2)
    ∷ row (over_k (2 ∷ []) (0 ∷ 1 ∷ []) (24578 ∷ 0 ∷ 24578 ∷ 1 ∷ 20480 ∷ 0 ∷ 1 ∷ 0 ∷ [])) (Refused 15 7)
    ∷ row (over_k (2 ∷ []) (0 ∷ 1 ∷ []) (24578 ∷ 0 ∷ 24578 ∷ 1 ∷ 20480 ∷ 0 ∷ [])) (Refused 9 6)
    ∷ row (over_k (2 ∷ []) (0 ∷ 1 ∷ []) []) (Refused 9 0)
    ∷ []

abbrev pub Directions : Type 0
Directions = Hold directions

-- "Depth starts at 1 in each proof": three proofs, each 512 deep, the second from the same list as the first and the
-- third from the other; then the second is 513 deep, and the third. The table is atom 0, and atom 0 and atom 0; the
-- lists are [1] and [1, 1]; a proof is and left n times, then and right and init twice, n + 2 deep.
abbrev pub deep : ℕ → List ℕ
deep n = replicate n 24577 ++ 20480 ∷ 0 ∷ 0 ∷ []

abbrev pub three : ℕ → ℕ → ℕ → ExchangeVerdict → Sample
three k m n answer =
    row (exchange_of (0 ∷ 12288 ∷ []) (0 ∷ 0 ∷ []) (1 ∷ []) (1 ∷ 1 ∷ []) (deep k ++ deep m ++ deep n)) answer

abbrev pub depths : List Sample
depths = three 510 510 510 Equal ∷ three 510 511 510 (Refused 10 1025) ∷ three 510 510 511 (Refused 10 1538) ∷ []

abbrev pub Depths : Type 0
Depths = Hold depths

-- Files given as bytes, "low byte first" (01), and not by their words: K, and its first 1 and 7 bytes, too few.
abbrev pub bytes_of_k : List ℕ
bytes_of_k =
    3 ∷ 0 ∷ 1 ∷ 0 ∷ 2 ∷ 0 ∷ 7 ∷ 0
    ∷ 0 ∷ 0 ∷ 1 ∷ 0 ∷ 0 ∷ 48
    ∷ 0 ∷ 0 ∷ 0 ∷ 0 ∷ 1 ∷ 0
    ∷ 2 ∷ 0
    ∷ 0 ∷ 0 ∷ 1 ∷ 0
    ∷ 2 ∷ 96 ∷ 0 ∷ 0 ∷ 2 ∷ 96 ∷ 1 ∷ 0 ∷ 0 ∷ 80 ∷ 0 ∷ 0 ∷ 1 ∷ 0
    ∷ []

abbrev pub Bytes : Type 0
Bytes =
    map exchange_answer (bytes_of_k ∷ (3 ∷ []) ∷ (3 ∷ 0 ∷ 1 ∷ 0 ∷ 2 ∷ 0 ∷ 7 ∷ []) ∷ [])
    ≡ Equal ∷ Refused 1 0 ∷ Refused 1 0 ∷ []
