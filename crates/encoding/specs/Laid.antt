-- A file made of the words of its fields and of its parts, for any layout (file/specs/Layout.antt). Proved in
-- proofs/Laid.antt. Assumes nothing.
use Rattle.std.specs.Prelude.{ℕ, ◌<◌, ◌≡◌, length, get_or}
use mathlib.Core.List.{List, [], ◌∷◌, ◌++◌, map, flatten}
use Rattle.basics.specs.Membership.{◌∈◌}
use Rattle.file.specs.Words.{word_at, file_of}
use Rattle.file.specs.Layout.{Layout, Bounded, part_of, bytes}

-- "Sizes come first .. Then" the arrays, one after the other (01)
abbrev pub laid_words : List ℕ → List (List ℕ) → List ℕ
laid_words fields parts = fields ++ flatten parts

abbrev pub laid : List ℕ → List (List ℕ) → List ℕ
laid fields parts = file_of (laid_words fields parts)

-- There is a word for each field, and each part is as long as its field says, the one that the layout names for it.
pub record Agree (layout : Layout) (fields : List ℕ) (parts : List (List ℕ)) : Type 0 where
  pub each_field : length fields ≡ length layout.fields
  pub each_part : map (λ i. get_or fields i 0) layout.parts ≡ map length parts

-- Then the file has these fields and these parts, and the length that they ask for.
pub record LaidOut (layout : Layout) (fields : List ℕ) (parts : List (List ℕ)) : Type 0 where
  pub field_is : (i : ℕ) → i < length fields → word_at (laid fields parts) i ≡ get_or fields i 0
  pub part_is : (i : ℕ) → part_of layout (laid fields parts) i ≡ get_or parts i []
  pub length_is : length (laid fields parts) ≡ bytes layout (laid fields parts)

abbrev pub LaidOutIs : Type 0
LaidOutIs =
    (layout : Layout) → Bounded layout
    → (fields : List ℕ) (parts : List (List ℕ)) → Agree layout fields parts → LaidOut layout fields parts

-- "A file of 16-bit words" (01)
abbrev pub IsWord : ℕ → Type 0
IsWord w = w < 65536

abbrev pub AreWords : List ℕ → Type 0
AreWords words = (w : ℕ) → w ∈ words → IsWord w

abbrev pub AreBytes : List ℕ → Type 0
AreBytes file = (b : ℕ) → b ∈ file → b < 256

-- 255 and 65,535 are the last.
abbrev pub LastOnes : Type 0
LastOnes = AreBytes (255 ∷ []) × (¬ AreBytes (256 ∷ [])) × IsWord 65535 × (¬ IsWord 65536)

-- A file that is written from such words is one of bytes.
abbrev pub BytesOfWords : Type 0
BytesOfWords = (words : List ℕ) → AreWords words → AreBytes (file_of words)
