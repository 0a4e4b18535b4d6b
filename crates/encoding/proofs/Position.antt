-- Where a proposition stands in a list (table/specs/Number.antt, `position`). Assumes nothing.
use Prim.Native.Nat.{ℕ, zero, suc, ◌<◌, ◌≤◌}
use native.Mathlib.Omega.{arith}
use native.Mathlib.Decide.{ℕ_discrete}
use mathlib.Core.Path.{◌≡◌, sym, subst, ◌∙◌}
use mathlib.Core.List.Memᴰ
use mathlib.Core.List.{List, [], ◌∷◌, ◌++◌}
use lib.ListN.{length, length-append, get_or-append}
use Rattle.basics.specs.Membership.{◌∈◌}
use Rattle.basics.proofs.Membership.{first}
use Rattle.logic.specs.Proposition.{Proposition, Proposition-discrete, false}
use Rattle.table.specs.Spelled.{among}
use Rattle.table.specs.Number.{unless_equal, position}
use Rattle.table.proofs.Number.{position_at}

-- ---- members

-- A member of a list is one of the same list.
pub member_of : {A : Type 0} {a : A} {l m : List A} → l ≡ m → a ∈ l → a ∈ m
member_of {a = a} e i = subst (λ l. a ∈ l) e i

-- What stands at a position is a member,
pub among_in : (l : List Proposition) (i : ℕ) → i < length l → among l i ∈ l
among_in [] i within = absurd (omega arith)
among_in (A ∷ l) zero within = first
among_in (A ∷ l) (suc i) within = Memᴰ.tail (among_in l i (omega arith))

-- and a member stands at one.
pub place_among : {A : Proposition} {l : List Proposition} → A ∈ l → (i : ℕ) × (i < length l) × (among l i ≡ A)
place_among (Memᴰ.head e) = (0, omega arith, sym e)
place_among (Memᴰ.tail m) = let (i, within, is) = place_among m in (suc i, omega arith, is)

-- ---- the first position

-- A stands at its position, if it stands in the list, and not before.
record Found (l : List Proposition) (A : Proposition) (p : ℕ) : Type 0 where
  most : p ≤ length l
  is : p < length l → among l p ≡ A
  none_before : (j : ℕ) → j < p → ¬ (among l j ≡ A)

found : (l : List Proposition) (A : Proposition) → Found l A (position l A)
unfolding position
found [] A = record {
  most = omega arith;
  is = λ within. absurd (omega arith);
  none_before = λ j before. absurd (omega arith);
}
found (B ∷ l) A = by (Proposition-discrete ℕ_discrete A B) (found l A)
  where
    before_next : ¬ (A ≡ B) → Found l A (position l A) → (j : ℕ) → j < suc (position l A) → ¬ (among (B ∷ l) j ≡ A)
    before_next differ later zero before same = differ (sym same)
    before_next differ later (suc j) before same = later.none_before j (omega arith) same

    by : (d : Dec (A ≡ B)) → Found l A (position l A) → Found (B ∷ l) A (unless_equal d (position l A))
    by (yes e) later =
        record { most = omega arith; is = λ within. sym e; none_before = λ j before. absurd (omega arith) }
    by (no d) later =
        let most = later.most in
        record { most = omega arith; is = λ within. later.is (omega arith); none_before = before_next d later }

-- Past the end there is no position.
pub position_most : (l : List Proposition) (A : Proposition) → position l A ≤ length l
position_most l A = (found l A).most

-- A member has a position in the list,
pub position_in : {l : List Proposition} {A : Proposition} → A ∈ l → position l A < length l
position_in {l} {A} m =
    let (i, within, is) = place_among m in
    let not-later : ¬ (i < position l A) = λ before. (found l A).none_before i before is in
    omega arith

-- stands there,
pub at_position : {l : List Proposition} {A : Proposition} → A ∈ l → among l (position l A) ≡ A
at_position {l} {A} m = (found l A).is (position_in m)

-- and whatever has one is a member.
pub in_position : (l : List Proposition) (A : Proposition) → position l A < length l → A ∈ l
in_position l A within = Memᴰ.cast (sym ((found l A).is within)) (among_in l (position l A) within)

-- What is put behind does not move a member.
pub position_stays : (l m : List Proposition) {A : Proposition} → A ∈ l → position (l ++ m) A ≡ position l A
position_stays l m {A} i =
    let within = position_in i in
    position_at (l ++ m) A (position l A) (omega (arith, length-append l m))
    (get_or-append l m false (position l A) within ∙ at_position i)
    (λ j before same. (found l A).none_before j before (sym (get_or-append l m false j (omega arith)) ∙ same))
