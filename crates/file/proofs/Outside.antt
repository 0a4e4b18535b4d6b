-- The first number of F or more (specs/Outside.antt), and where there is none. Assumes nothing.
use Prim.Native.Nat.{ℕ, ◌<◌, ◌≤◌}
use mathlib.Core.Bool.{true}
use mathlib.Core.Path.{◌≡◌, sym, ap, ◌∙◌}
use mathlib.Core.List.{List}
use lib.ListN.{length, get_or}
use lib.Dec.{leb}
use Rattle.std.specs.List.{position}
use Rattle.basics.specs.First.{first}
use Rattle.basics.proofs.First.{first_place, no_place, first_in}
use Rattle.basics.proofs.Membership.{member_at, at_each}
use Rattle.basics.proofs.Asked.{at_most, not_at_most}
use Rattle.file.specs.Outside.{outside, FirstOutside, NoneOutside}

-- It is what the library's `position` finds.
pub outside_is : (F : ℕ) (numbers : List ℕ) → outside F numbers ≡ position (λ n. leb F n) numbers
outside_is F numbers = first_in (λ n. leb F n) numbers 0

pub first_outside : FirstOutside
first_outside F numbers =
    first_place (λ i. leb F (get_or numbers i 0)) (λ i. F ≤ get_or numbers i 0) (length numbers)
    (λ i l. at_most F (get_or numbers i 0))

pub none_outside : NoneOutside
none_outside F numbers =
    let place = no_place (λ i. leb F (get_or numbers i 0)) (length numbers) in (
      λ none. at_each (λ n. n < F) numbers (λ i l. (not_at_most _ _).0 (place.0 none i l)),
      λ all. place.1 (λ i l. (not_at_most _ _).1 (all _ (member_at numbers i l))),
    )
