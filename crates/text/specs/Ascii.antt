-- The bytes of a text in quotes, so that a definition can say what a program prints. Proved in proofs/Ascii.antt.
-- Assumes nothing.
use Rattle.std.specs.Prelude.{ℕ, ◌≡◌, List, [] as none, ◌∷◌ as ◌before◌, ◌++◌ as ◌then◌}
use Prim.Native.Char.{code}
use Prim.Native.String.{String, [], ◌∷◌, ◌++◌}

-- a byte for each character; of use for the characters of ASCII, whose codes are below 128
unfoldable pub ascii : String → List ℕ
ascii [] = none
ascii (c ∷ s) = code c before ascii s

-- Two texts one after the other have the bytes of the first and then those of the second.
abbrev pub AsciiJoined : Type 0
AsciiJoined = (s t : String) → ascii (s ++ t) ≡ ascii s then ascii t
