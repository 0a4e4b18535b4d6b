-- Membership and inclusion. In order: an order of lists; a member in front; what holds of each member; joined lists; a
-- member put in; members by position; the test for membership. Assumes nothing.
use Prim.Native.Nat.{ℕ, zero, suc, ◌<◌}
use native.Mathlib.Omega.{arith}
use mathlib.Core.Bool.{Bool, true, false, false≢true, true≢false}
use mathlib.Core.Path.{◌≡◌, refl, sym, ap, subst}
use mathlib.Core.Logic.{◌↔◌, ⊎_elim}
use mathlib.Core.Option.{some}
use mathlib.Core.List.Memᴰ
use mathlib.Core.List.{List, [], ◌∷◌, ◌++◌}
use lib.ListN.{length, get_or, get_elem?}
use lib.Dec.{eqb}
use borrow.Author.Tests.{eqb-true, eqb-false}
use Rattle.basics.specs.Choice.{pick}
use Rattle.basics.specs.Membership.{◌∈◌, ◌⊆◌, holds, HoldsMember}
use Rattle.basics.proofs.Choice.{pick_cases}

module _ {A : Type 0} where
  pub ⊆_refl : {l : List A} → l ⊆ l
  ⊆_refl a i = i

  pub ⊆_trans : {l m n : List A} → l ⊆ m → m ⊆ n → l ⊆ n
  ⊆_trans s t a i = t a (s a i)

  -- ---- a member in front

  pub first : {a : A} {l : List A} → a ∈ a ∷ l
  first = Memᴰ.head refl

  pub second : {a b : A} {l : List A} → b ∈ a ∷ b ∷ l
  second = Memᴰ.tail first

  pub added : {l : List A} (a : A) → l ⊆ a ∷ l
  added a b i = Memᴰ.tail i

  pub ⊆_cons : {a : A} {l m : List A} → a ∈ m → l ⊆ m → a ∷ l ⊆ m
  ⊆_cons i s b (Memᴰ.head e) = Memᴰ.cast e i
  ⊆_cons i s b (Memᴰ.tail j) = s b j

  -- the same member in front of both
  pub extend : {l m : List A} (a : A) → l ⊆ m → a ∷ l ⊆ a ∷ m
  extend a s = ⊆_cons first (⊆_trans s (added a))

  -- a member goes in behind the one in front
  pub exchange : {l m : List A} (a b : A) → l ⊆ a ∷ m → b ∷ l ⊆ a ∷ b ∷ m
  exchange a b s = ⊆_cons second (⊆_trans s (extend a (added b)))

  -- ---- what holds of each member

  pub each_of_none : (P : A → Type 0) (b : A) → b ∈ [] → P b
  each_of_none P b i = absurd (Memᴰ.not-nil i)

  pub each_of_more : (P : A → Type 0) {a : A} {l : List A}
      → P a → ((b : A) → b ∈ l → P b) → (b : A) → b ∈ a ∷ l → P b
  each_of_more P p each b (Memᴰ.head e) = subst P (sym e) p
  each_of_more P p each b (Memᴰ.tail i) = each b i

  -- ---- joined lists

  pub ⊆_left : {l : List A} (m : List A) → l ⊆ l ++ m
  ⊆_left m a i = Memᴰ.append_left m i

  pub ⊆_right : (l : List A) {m : List A} → m ⊆ l ++ m
  ⊆_right l a i = Memᴰ.append_right l i

  pub ⊆_append : (l : List A) {m n : List A} → l ⊆ n → m ⊆ n → l ++ m ⊆ n
  ⊆_append l s t a i = ⊎_elim (s a) (t a) (Memᴰ.append_cases l i)

  -- ---- a member put in

  pub inserted : (l m : List A) (a : A) → l ++ m ⊆ l ++ a ∷ m
  inserted l m a = ⊆_append l (⊆_left (a ∷ m)) (⊆_trans (added a) (⊆_right l))

  -- it adds nothing where it is a member already
  pub repeated : (l m : List A) (a : A) → a ∈ l ++ m → l ++ a ∷ m ⊆ l ++ m
  repeated l m a i = ⊆_append l (⊆_left m) (⊆_cons i (⊆_right l))

-- ---- members by position

-- What stands at a position is a member,
pub member_at : (l : List ℕ) (i : ℕ) → i < length l → get_or l i 0 ∈ l
member_at [] i b = absurd (omega arith)
member_at (n ∷ l) zero b = Memᴰ.head refl
member_at (n ∷ l) (suc i) b = Memᴰ.tail (member_at l i (omega arith))

-- and what holds at each position holds of each member.
pub at_each : (P : ℕ → Type 0) (l : List ℕ) → ((i : ℕ) → i < length l → P (get_or l i 0)) → (n : ℕ) → n ∈ l → P n
at_each P [] each n m = absurd (Memᴰ.not-nil m)
at_each P (k ∷ l) each n m =
    ⊎_elim (λ e. subst P (sym e) (each zero (omega arith))) (at_each P l (λ i b. each (suc i) (omega arith)) n) (Memᴰ.cases_cons m)

-- Where a member stands, by either way to read a place.
pub place_of : {A : Type 0} {a : A} {l : List A} → a ∈ l → (i : ℕ) × (i < length l) × (get_elem? l i ≡ some a)
place_of (Memᴰ.head e) = (0, omega arith, ap some (sym e))
place_of (Memᴰ.tail m) = let (i, l, e) = place_of m in (suc i, omega arith, e)

pub at_place : {A : Type 0} {a : A} (l : List A) (i : ℕ) → get_elem? l i ≡ some a → a ∈ l
at_place [] i e = absurd (true≢false cc)
at_place {a = a} (b ∷ l) zero e = Memᴰ.head (let same : a ≡ b = cc in same)
at_place (b ∷ l) (suc i) e = Memᴰ.tail (at_place l i e)

pub word_place : {w : ℕ} {ws : List ℕ} → w ∈ ws → (i : ℕ) × (i < length ws) × (get_or ws i 0 ≡ w)
word_place (Memᴰ.head e) = (0, omega arith, sym e)
word_place (Memᴰ.tail m) = let (i, l, e) = word_place m in (suc i, omega arith, e)

-- ---- the test for membership

pub holds_member : HoldsMember
unfolding holds
holds_member [] n = (λ e. absurd (false≢true e), λ m. absurd (Memᴰ.not-nil m))
holds_member (m ∷ ms) n =
    let (to, from) = holds_member ms n in
    pick_cases (λ t. t ≡ true ↔ n ∈ m ∷ ms) (eqb m n)
    (λ same. (λ e. Memᴰ.head (sym (eqb-true m n same)), λ i. refl))
    (λ other. (
      λ e. Memᴰ.tail (to e),
      λ i. ⊎_elim (λ q. absurd (eqb-false m n other (sym q))) from (Memᴰ.cases_cons i),
    ))

-- Which of two tests comes first makes no difference.
pub either : (a b c : Bool) → pick a true (pick b true c) ≡ pick b true (pick a true c)
either true true c = refl
either true false c = refl
either false b c = refl

-- In a list and k after it stand k and what stood there.
pub holds_last : (ms : List ℕ) (k n : ℕ) → holds (ms ++ (k ∷ [])) n ≡ pick (eqb k n) true (holds ms n)
unfolding holds
holds_last [] k n = refl
holds_last (m ∷ ms) k n = rw (holds_last ms k n) (either (eqb m n) (eqb k n) (holds ms n))

-- In one list after another stands what stands in either.
nested : (a b c : Bool) → pick a true (pick b true c) ≡ pick (pick a true b) true c
nested true b c = refl
nested false b c = refl

pub holds_append : (ms ns : List ℕ) (n : ℕ) → holds (ms ++ ns) n ≡ pick (holds ms n) true (holds ns n)
unfolding holds
holds_append [] ns n = refl
holds_append (m ∷ ms) ns n = rw (holds_append ms ns n) (nested (eqb m n) (holds ms n) (holds ns n))
