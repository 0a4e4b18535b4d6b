-- Test 7 as all kinds of file share it: numbers of F or more. Proved in proofs/Outside.antt. Assumes nothing.
use Rattle.std.specs.Prelude.{ℕ, ◌<◌, ◌≤◌, ◌≡◌, ◌↔◌, List, length, get_or, leb}
use Rattle.basics.specs.Place.{Place, At, Nowhere}
use Rattle.basics.specs.Membership.{◌∈◌}
use Rattle.basics.specs.First.{first, IsFirst}

-- "7. A statement's number is F or more (place: the first such position)." (01)
abbrev pub outside : ℕ → List ℕ → Place
outside F numbers = first (λ i. leb F (get_or numbers i 0)) (length numbers)

-- It is at p exactly when p is the first position whose number is F or more,
abbrev pub FirstOutside : Type 0
FirstOutside =
    (F : ℕ) (numbers : List ℕ) (p : ℕ)
    → outside F numbers ≡ At p ↔ IsFirst (λ i. F ≤ get_or numbers i 0) (length numbers) p

-- and nowhere exactly when each number is below F.
abbrev pub NoneOutside : Type 0
NoneOutside = (F : ℕ) (numbers : List ℕ) → outside F numbers ≡ Nowhere ↔ ((n : ℕ) → n ∈ numbers → n < F)
