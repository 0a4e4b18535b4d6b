-- A layout is data: the fields that come first, a word each, with their ranges; then the parts, each as long as one of
-- the fields says. From it follow the length of a file, tests 1 to 3, and where each part stands. A record, an exchange
-- file, and what later requests bring have one value of it each. Its laws, for any layout, are in
-- proofs/LayoutLaws.antt. Assumes nothing.
use Rattle.std.specs.Prelude.{ℕ, suc, ◌+◌, ◌*◌, ◌≤◌, ◌<◌, Bool, true, false, not, ◌≡◌, ◌↔◌, List, [], ◌∷◌, ◌++◌, map, length, get_or, take, eqb, ltb, leb}
use Rattle.basics.specs.Choice.{both}
use Rattle.basics.specs.Tested.{Passed}
use Rattle.basics.specs.Refusals.{Test, test, at0, first_refusal}
use Rattle.file.specs.Words.{word_at, part}

-- A field: a size with its range, or a word that test 2 doesn't look at.
pub data Field : Type 0 where
  range : (least most : ℕ) → Field
  unranged : Field

-- `parts` has, for each part in order, the number of the field that says how long it is; fields count from 0.
pub record Layout : Type 0 where
  pub fields : List Field
  pub parts : List ℕ

-- ---- where the parts stand

-- a number and numbers added to it, from the left
abbrev pub plus : ℕ → List ℕ → ℕ
plus n [] = n
plus n (m ∷ ms) = plus (n + m) ms

-- how long the parts of a file are, by its fields
abbrev pub lengths : Layout → List ℕ → List ℕ
lengths layout file = map (word_at file) layout.parts

-- how many words fields and parts of these lengths have
abbrev pub words_of : Layout → List ℕ → ℕ
words_of layout counts = plus (length layout.fields) counts

-- part i begins after the fields and the parts before it
abbrev pub begins : Layout → List ℕ → ℕ → ℕ
begins layout file i = words_of layout (take i (lengths layout file))

abbrev pub part_of : Layout → List ℕ → ℕ → List ℕ
part_of layout file i = part file (begins layout file i) (get_or (lengths layout file) i 0)

-- ---- the length of a file

-- the bytes that a file's fields ask for
abbrev pub bytes : Layout → List ℕ → ℕ
bytes layout file = 2 * words_of layout (lengths layout file)

-- the bytes of the fields themselves
abbrev pub least_bytes : Layout → ℕ
least_bytes layout = 2 * length layout.fields

-- the bytes of the longest file
abbrev pub most : Field → ℕ
most (range l m) = m
most unranged = 0

abbrev pub most_bytes : Layout → ℕ
most_bytes layout = 2 * words_of layout (map (λ i. most (get_or layout.fields i unranged)) layout.parts)

-- ---- tests 1 to 3

-- whether a word is what its field allows; the words of the file from word i on, field by field
abbrev pub fits : Field → ℕ → Bool
fits (range l m) n = both (leb l n) (leb n m)
fits unranged n = true

abbrev pub all_fit : List Field → List ℕ → ℕ → Bool
all_fit [] file i = true
all_fit (f ∷ fs) file i = both (fits f (word_at file i)) (all_fit fs file (suc i))

abbrev pub in_range : Layout → List ℕ → Bool
in_range layout file = all_fit layout.fields file 0

-- the three tests by what they ask: the least number of bytes, whether the fields are in range, and their length
abbrev pub tests_by : List ℕ → ℕ → Bool → ℕ → List Test
tests_by file least fit size =
    test 1 (at0 (ltb (length file) least)) ∷ test 2 (at0 (not fit)) ∷ test 3 (at0 (not (eqb (length file) size))) ∷ []

-- "1. The file has fewer than 8 bytes (place 0). 2. F, S or N is outside its range (place 0). 3. The length isn't the
-- one above (place 0)." (01; a record and an exchange file have four fields, and so 8 bytes at least)
abbrev pub layout_tests : Layout → List ℕ → List Test
layout_tests layout file = tests_by file (least_bytes layout) (in_range layout file) (bytes layout file)

-- ---- what they ask for

abbrev pub Fits : Field → ℕ → Type 0
Fits (range l m) n = (l ≤ n) × (n ≤ m)
Fits unranged n = Unit

abbrev pub AllFit : List Field → List ℕ → ℕ → Type 0
AllFit [] file i = Unit
AllFit (f ∷ fs) file i = Fits f (word_at file i) × AllFit fs file (suc i)

-- The fields are in their ranges, and the length is the one that they ask for.
pub record SizedBy (layout : Layout) (file : List ℕ) : Type 0 where
  pub in_range : AllFit layout.fields file 0
  pub length_is : length file ≡ bytes layout file

-- Each part's length is given by a size: asked of a layout, by computation.
abbrev pub is_size : Field → Bool
is_size (range l m) = true
is_size unranged = false

abbrev pub all_sizes : List Field → List ℕ → Bool
all_sizes fields [] = true
all_sizes fields (p ∷ ps) = both (is_size (get_or fields p unranged)) (all_sizes fields ps)

abbrev pub Bounded : Layout → Type 0
Bounded layout = all_sizes layout.fields layout.parts ≡ true

-- ---- what holds of every layout

-- 1 to 3 let a file pass exactly when its fields are in range and its length is theirs.
abbrev pub PassedToThree : Type 0
PassedToThree = (layout : Layout) (file : List ℕ) → first_refusal (layout_tests layout file) ≡ Passed ↔ SizedBy layout file

-- Then each part is as long as its field says.
abbrev pub PartsWhole : Type 0
PartsWhole =
    (layout : Layout) (file : List ℕ) → SizedBy layout file
    → (i : ℕ) → length (part_of layout file i) ≡ get_or (lengths layout file) i 0

-- A file longer than the longest has the answer of its first bytes, one more than the longest has, whatever tests
-- follow.
abbrev pub LongerRefused : Type 0
LongerRefused =
    (layout : Layout) → Bounded layout → (file : List ℕ) → most_bytes layout < length file → (rest other : List Test)
    → first_refusal (layout_tests layout file ++ rest)
    ≡ first_refusal (layout_tests layout (take (suc (most_bytes layout)) file) ++ other)
