-- What a refusal by 1, 2 or 3 says of a file: its number, its place p, and the reason. Assumes nothing.
use Rattle.std.specs.Prelude.{ℕ, ◌<◌, ◌≡◌, List, length}
use Rattle.file.specs.Layout.{Layout, least_bytes, bytes}

-- `InRange` has the ranges of the kind of file by name.
pub data LayoutReason (layout : Layout) (InRange : Type 0) (file : List ℕ) (number p : ℕ) : Type 0 where
  -- "1. The file has fewer than 8 bytes (place 0)."
  too_few_bytes : number ≡ 1 → p ≡ 0 → length file < least_bytes layout → LayoutReason layout InRange file number p
  -- "2. F, S or N is outside its range (place 0)."
  size_outside : number ≡ 2 → p ≡ 0 → ¬ InRange → LayoutReason layout InRange file number p
  -- "3. The length isn't the one above (place 0)."
  other_length : number ≡ 3 → p ≡ 0 → ¬ (length file ≡ bytes layout file) → LayoutReason layout InRange file number p
