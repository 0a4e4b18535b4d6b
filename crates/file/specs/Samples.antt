-- 1 to 3 over a small layout: two fields of 1 to 2 and of any number, then as many words as the first field says. Proved
-- in proofs/Samples.antt, by computation. Assumes nothing.
use Rattle.std.specs.Prelude.{ℕ, ◌≡◌, List, [], ◌∷◌, map}
use Rattle.basics.specs.Tested.{Tested, Passed, Refused}
use Rattle.basics.specs.Refusals.{first_refusal}
use Rattle.file.specs.Layout.{Layout, range, unranged, layout_tests, part_of}

abbrev pub small : Layout
small = record { fields = range 1 2 ∷ unranged ∷ []; parts = 0 ∷ [] }

pub record Sample : Type 0 where
  pub bytes : List ℕ
  pub answer : Tested

abbrev pub sample : List ℕ → Tested → Sample
sample bytes answer = record { bytes = bytes; answer = answer }

-- In order: three bytes, and none; the first field 3, and 0, where the length is wrong too; a byte too few, and one too
-- many; and two files that pass.
abbrev pub table : List Sample
table =
    sample (1 ∷ 0 ∷ 9 ∷ []) (Refused 1 0)
    ∷ sample [] (Refused 1 0)
    ∷ sample (3 ∷ 0 ∷ 9 ∷ 9 ∷ []) (Refused 2 0)
    ∷ sample (0 ∷ 0 ∷ 9 ∷ 9 ∷ 9 ∷ []) (Refused 2 0)
    ∷ sample (1 ∷ 0 ∷ 9 ∷ 9 ∷ 7 ∷ []) (Refused 3 0)
    ∷ sample (1 ∷ 0 ∷ 9 ∷ 9 ∷ 7 ∷ 0 ∷ 8 ∷ []) (Refused 3 0)
    ∷ sample (1 ∷ 0 ∷ 9 ∷ 9 ∷ 7 ∷ 0 ∷ []) Passed
    ∷ sample (2 ∷ 0 ∷ 9 ∷ 9 ∷ 7 ∷ 0 ∷ 8 ∷ 1 ∷ []) Passed
    ∷ []

abbrev pub Samples : Type 0
Samples = map (λ r. first_refusal (layout_tests small r.bytes)) table ≡ map (λ r. r.answer) table

-- the part of the last of them
abbrev pub PartOfSmall : Type 0
PartOfSmall = part_of small (2 ∷ 0 ∷ 9 ∷ 9 ∷ 7 ∷ 0 ∷ 8 ∷ 1 ∷ []) 0 ≡ 7 ∷ 264 ∷ []
