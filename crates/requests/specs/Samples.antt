-- Samples of the requests: whole files and the lines that the program prints. Proved in proofs/Samples.antt, by
-- computation. Assumes nothing.
use Rattle.std.specs.Prelude.{ℕ, true, false, ◌≡◌, List, [], ◌∷◌, ◌++◌, map, length, Ok}
use Rattle.text.specs.Ascii.{ascii}
use Rattle.record.specs.Samples.{over_t, for_both, both_opened, bytes_of_a}
use Rattle.independence.specs.Figure1.{independence_answer}
use Rattle.independence.specs.Samples.{with_paper}
use Rattle.demands.specs.Samples.{Sample, a_record, ◌prints◌, line_of}

-- 1 and 2 of table T as an order, 3; 4 is principal 7 says 1; and A's goal: and left, and then the word of 7 that it
-- adds
abbrev pub from_order : List ℕ → List ℕ
from_order statements =
    5 ∷ length statements ∷ 5 ∷ 1
    ∷ 0 ∷ 20487 ∷ 20488 ∷ 12289 ∷ 20487
    ∷ 0 ∷ 0 ∷ 0 ∷ 2 ∷ 1
    ∷ statements ++ (40960 ∷ 24579 ∷ 45057 ∷ 4096 ∷ 0 ∷ [])

-- Job 1: papers of principals 8 and then 7, both opened; of 4,095, 10, 9 and 0, for what all four say; of 8, with 7's
-- between.
abbrev pub in_order : List Sample
in_order =
    a_record both_opened prints "granted 2 7 8\n"
    ∷ a_record
    (8 ∷ 4 ∷ 19 ∷ 7
    ∷ 0 ∷ 24575 ∷ 20490 ∷ 20489 ∷ 20480 ∷ 12289 ∷ 12293 ∷ 12294
    ∷ 0 ∷ 0 ∷ 0 ∷ 0 ∷ 0 ∷ 2 ∷ 3 ∷ 4
    ∷ 1 ∷ 2 ∷ 3 ∷ 4
    ∷ 20480 ∷ 20480 ∷ 20480
    ∷ 40960 ∷ 45057 ∷ 4096 ∷ 0
    ∷ 40960 ∷ 45058 ∷ 4096 ∷ 0
    ∷ 40960 ∷ 45059 ∷ 4096 ∷ 0
    ∷ 40960 ∷ 45060 ∷ 4096 ∷ 0 ∷ [])
    prints "granted 4 0 9 10 4095\n"
    ∷ a_record (for_both (2 ∷ 1 ∷ 2 ∷ [])) prints "granted 2 7 8\n"
    ∷ []

-- each sample prints its line
abbrev pub Print : List Sample → Type 0
Print samples = map (λ r. line_of r.file) samples ≡ map (λ r. ascii r.line) samples

abbrev pub InOrder : Type 0
InOrder = Print in_order

-- Job 3. With A's steps: beside the paper of 7, which they open, one of 8 lies unused. With B's steps: the paper of 7
-- lies unused, though 7 affirms. From an order: and left adds 7's word, and says left opens it; with no paper nobody
-- signs, with that word as a paper of 7 he does, and with another paper of his, unused, he doesn't. And two papers of
-- 7, of which the second is opened.
abbrev pub only_who_carried : List Sample
only_who_carried =
    a_record (over_t (2 ∷ 1 ∷ []) 1 (40960 ∷ 45057 ∷ 4096 ∷ 0 ∷ [])) prints "granted 1 7\n"
    ∷ a_record (over_t (1 ∷ 0 ∷ []) 1 (40960 ∷ 4096 ∷ 0 ∷ [])) prints "granted 0\n"
    ∷ a_record (from_order (3 ∷ [])) prints "granted 0\n"
    ∷ a_record (from_order (3 ∷ 1 ∷ [])) prints "granted 1 7\n"
    ∷ a_record (from_order (3 ∷ 4 ∷ [])) prints "granted 0\n"
    ∷ a_record
    (4 ∷ 2 ∷ 4 ∷ 2
    ∷ 0 ∷ 1 ∷ 20487 ∷ 20487
    ∷ 0 ∷ 0 ∷ 0 ∷ 1
    ∷ 3 ∷ 2
    ∷ 40960 ∷ 45058 ∷ 4096 ∷ 0 ∷ [])
    prints "granted 1 7\n"
    ∷ []

abbrev pub OnlyWhoCarried : Type 0
OnlyWhoCarried = Print only_who_carried

-- Job 5. To a caller independent is yes and not independent no: of a record that is independent of principal 7 though
-- it has a paper of his, and of record A, whose goal is what 7's paper says.
abbrev pub YesAndNo : Type 0
YesAndNo = (independence_answer with_paper 7 ≡ Ok true) × (independence_answer bytes_of_a 7 ≡ Ok false)

-- Entries 0 and 1 are atoms, 2 and 3 what principal 7 says of them; entry 4 is the atoms' or, and 5 that 7 says it;
-- entries 6, 7 and 8 are the ors of 2 and 3, of 2 and 1, and of 1 and 2.
abbrev pub with_ors : List ℕ → ℕ → List ℕ → List ℕ
with_ors statements goal steps =
    9 ∷ length statements ∷ length steps ∷ goal
    ∷ 0 ∷ 1 ∷ 20487 ∷ 20487 ∷ 16384 ∷ 20487 ∷ 16386 ∷ 16386 ∷ 16385
    ∷ 0 ∷ 0 ∷ 0 ∷ 1 ∷ 1 ∷ 4 ∷ 3 ∷ 1 ∷ 2
    ∷ statements ++ steps

-- Job 6. An atom that principals 7 and 8 both say; the same with the atom as an order; false, which 7 says. An or in a
-- paper of 7: the steps begin with his word on its first side, or on its second. An or by its first side, and by its
-- second.
abbrev pub from_papers : List Sample
from_papers =
    a_record (over_t (1 ∷ 2 ∷ []) 0 (45057 ∷ [])) prints "refused 14 place 0\n"
    ∷ a_record (over_t (1 ∷ 2 ∷ 0 ∷ []) 0 (0 ∷ [])) prints "granted 0\n"
    ∷ a_record (2 ∷ 1 ∷ 1 ∷ 0 ∷ 4096 ∷ 20487 ∷ 0 ∷ 0 ∷ 1 ∷ 16384 ∷ []) prints "refused 12 place 0\n"
    ∷ a_record
    (with_ors (5 ∷ []) 6 (28672 ∷ 40960 ∷ 45061 ∷ 36868 ∷ 4096 ∷ 0 ∷ 4096 ∷ 0 ∷ []))
    prints "refused 12 place 7\n"
    ∷ a_record (with_ors (5 ∷ []) 6 (32768 ∷ 40960 ∷ 45061 ∷ 36868 ∷ 4096 ∷ 1 ∷ [])) prints "refused 12 place 5\n"
    ∷ a_record (with_ors (2 ∷ []) 7 (28672 ∷ 40960 ∷ 45058 ∷ 4096 ∷ 0 ∷ [])) prints "granted 1 7\n"
    ∷ a_record (with_ors (2 ∷ []) 8 (32768 ∷ 40960 ∷ 45058 ∷ 4096 ∷ 0 ∷ [])) prints "granted 1 7\n"
    ∷ []

abbrev pub FromPapers : Type 0
FromPapers = Print from_papers
