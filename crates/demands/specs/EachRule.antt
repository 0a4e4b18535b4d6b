-- Each rule in a whole record, beside records that break it: one table, proved in proofs/EachRule.antt by computation.
-- All operands differ in number and in kind, so that no two operands, premises or codes can change places, in
-- definitions and code together, without a row that becomes false. Assumes nothing.
use Rattle.std.specs.Prelude.{ℕ, ◌≡◌, List, [], ◌∷◌, ◌++◌, map, length}
use Rattle.text.specs.Ascii.{ascii}
use Rattle.demands.specs.Samples.{Sample, a_record, ◌prints◌, line_of}

-- The table, with all six kinds: 0 atom 9; 1 false; 2 is 0 implies 1; 3 is 1 and 2; 4 is 2 or 0; 5 principal 7 says 4;
-- 6 is 0 implies 4; 7 is 0 and 2.
abbrev pub stated : List ℕ → ℕ → List ℕ → List ℕ
stated statements goal steps =
    8 ∷ length statements ∷ length steps ∷ goal
    ∷ 9 ∷ 4096 ∷ 8192 ∷ 12289 ∷ 16386 ∷ 20487 ∷ 8192 ∷ 12288
    ∷ 0 ∷ 0 ∷ 1 ∷ 2 ∷ 0 ∷ 4 ∷ 4 ∷ 2
    ∷ statements ++ steps

-- | statements | goal | steps | line |, by the code that a row is about:
-- 0; 1 and 10; 2, and with A for B;
-- 3, and with the premises in the other order, where B isn't added yet; 3 on an affirmation, and with the first premise
-- as one; 4;
-- 5, and in the other order; 6, where both are needed, and what is neither of them isn't added;
-- 7, and of the second operand; 8, and of the first;
-- 9, and in the other order; 11, and on the truth of the says-formula itself.
abbrev pub rules : List Sample
rules =
    a_record (stated (0 ∷ []) 0 (0 ∷ [])) prints "granted 0\n"
    ∷ a_record (stated (0 ∷ []) 5 (40960 ∷ 4096 ∷ 32768 ∷ 0 ∷ [])) prints "granted 0\n"
    ∷ a_record (stated [] 6 (8192 ∷ 32768 ∷ 0 ∷ [])) prints "granted 0\n"
    ∷ a_record (stated [] 6 (8192 ∷ 0 ∷ [])) prints "refused 13 place 1\n"
    ∷ a_record (stated (2 ∷ 0 ∷ []) 1 (12290 ∷ 0 ∷ 16385 ∷ [])) prints "granted 0\n"
    ∷ a_record (stated (2 ∷ 0 ∷ []) 1 (12290 ∷ 16385 ∷ 0 ∷ [])) prints "refused 12 place 1\n"
    ∷ a_record (stated (2 ∷ 0 ∷ []) 5 (40960 ∷ 12290 ∷ 0 ∷ 16385 ∷ [])) prints "granted 0\n"
    ∷ a_record (stated (2 ∷ 0 ∷ []) 5 (40960 ∷ 12290 ∷ 4096 ∷ 0 ∷ 16385 ∷ [])) prints "refused 13 place 2\n"
    ∷ a_record (stated (1 ∷ []) 0 (16385 ∷ [])) prints "granted 0\n"
    ∷ a_record (stated (1 ∷ []) 3 (20480 ∷ 16385 ∷ 8192 ∷ 16385 ∷ [])) prints "granted 0\n"
    ∷ a_record (stated (1 ∷ []) 3 (20480 ∷ 8192 ∷ 16385 ∷ 16385 ∷ [])) prints "refused 13 place 1\n"
    ∷ a_record (stated (7 ∷ []) 1 (24583 ∷ 12290 ∷ 0 ∷ 16385 ∷ [])) prints "granted 0\n"
    ∷ a_record (stated (7 ∷ []) 1 (24583 ∷ 16385 ∷ [])) prints "refused 12 place 1\n"
    ∷ a_record (stated (2 ∷ []) 4 (28672 ∷ 8192 ∷ 12290 ∷ 0 ∷ 16385 ∷ [])) prints "granted 0\n"
    ∷ a_record (stated (0 ∷ []) 4 (28672 ∷ 0 ∷ [])) prints "refused 13 place 1\n"
    ∷ a_record (stated (0 ∷ []) 4 (32768 ∷ 0 ∷ [])) prints "granted 0\n"
    ∷ a_record (stated (2 ∷ []) 4 (32768 ∷ 8192 ∷ 12290 ∷ 0 ∷ 16385 ∷ [])) prints "refused 13 place 1\n"
    ∷ a_record (stated (4 ∷ []) 4 (36868 ∷ 28672 ∷ 8192 ∷ 12290 ∷ 0 ∷ 16385 ∷ 32768 ∷ 0 ∷ [])) prints "granted 0\n"
    ∷ a_record (stated (4 ∷ []) 4 (36868 ∷ 32768 ∷ 0 ∷ 28672 ∷ 8192 ∷ 12290 ∷ 0 ∷ 16385 ∷ [])) prints "refused 12 place 2\n"
    ∷ a_record (stated (5 ∷ []) 5 (40960 ∷ 45061 ∷ 4096 ∷ 36868 ∷ 28672 ∷ 8192 ∷ 12290 ∷ 0 ∷ 16385 ∷ 32768 ∷ 0 ∷ [])) prints "granted 1 7\n"
    ∷ a_record (stated (5 ∷ []) 5 (45061 ∷ [])) prints "refused 14 place 0\n"
    ∷ []

abbrev pub EachRule : Type 0
EachRule = map (λ r. line_of r.file) rules ≡ map (λ r. ascii r.line) rules
