-- Tests that stand in the checking order refuse by the first reason in that order (specs/Order.antt). Assumes nothing.
use Prim.Native.Nat.{ℕ, zero, suc, ◌+◌, ◌≤◌, ◌<◌}
use native.Mathlib.Omega.{arith}
use native.Mathlib.Decide.{dec_lt}
use mathlib.Core.Bool.{Bool, true, false, not, true≢false}
use mathlib.Core.Path.{◌≡◌, refl, sym, ap, subst, ◌∙◌}
use mathlib.Core.Logic.Iff
use mathlib.Core.Logic.{◌↔◌, ◌⊎◌, inl, inr, ⊎_elim}
use mathlib.Core.List.Memᴰ
use mathlib.Core.List.{List, [], ◌∷◌, ◌++◌}
use lib.Dec.{eqb}
use borrow.Author.Tests.{eqb-true, eq-eqb, ne_eqb, not-true}
use Rattle.basics.specs.Place.{Place, At, Nowhere}
use Rattle.basics.specs.Tested.{Refused}
use Rattle.basics.specs.Choice.{pick, both}
use Rattle.basics.specs.Membership.{◌∈◌, holds}
use Rattle.basics.specs.Refusals.{Test, first_refusal, FirstThat, NoneApplies}
use Rattle.basics.specs.Order.{checking_order, before, FirstReason, BeforeIsLower, BeforeEight, FirstIsLowest, Samples}
use Rattle.basics.proofs.Choice.{both_true, pick_cases}
use Rattle.basics.proofs.Membership.{holds_member}
use Rattle.basics.proofs.Asked.{somewhere}
use Rattle.basics.proofs.Refusals.{refused_by_first}

-- a test with this number applies at this place
abbrev pub OneApplies : List Test → ℕ → ℕ → Type 0
OneApplies [] number p = ⊥
OneApplies (t ∷ ts) number p = ((t.number ≡ number) × (t.place ≡ At p)) ⊎ OneApplies ts number p

-- Of two lists one applies exactly when one of either does.
one_joined : (ts us : List Test) (n p : ℕ) → OneApplies (ts ++ us) n p ↔ (OneApplies ts n p ⊎ OneApplies us n p)
one_joined [] us n p = (inr, ⊎_elim absurd (λ one. one))
one_joined (t ∷ ts) us n p =
    let (to, from) = one_joined ts us n p in (
      ⊎_elim (λ h. inl (inl h)) (λ one. ⊎_elim (λ h. inl (inr h)) inr (to one)),
      ⊎_elim (⊎_elim inl (λ one. inr (from (inl one)))) (λ one. inr (from (inr one))),
    )

-- The same of three lists, as a file's tests are joined: its layout's, its table's, and those that follow.
pub one_of_three : (ts us vs : List Test) (n p : ℕ) → OneApplies (ts ++ (us ++ vs)) n p ↔ (OneApplies ts n p ⊎ (OneApplies us n p ⊎ OneApplies vs n p))
one_of_three ts us vs n p =
    let (to, from) = one_joined ts (us ++ vs) n p in
    let (to', from') = one_joined us vs n p in
    (λ one. ⊎_elim inl (λ rest. inr (to' rest)) (to one), ⊎_elim (λ h. from (inl h)) (λ rest. from (inr (from' rest))))

-- the tests' numbers stand in the order, one after the other
abbrev pub Follows : List ℕ → List Test → Type 0
Follows order [] = Unit
Follows [] (t ∷ ts) = ⊥
Follows (n ∷ ns) (t ∷ ts) = ((t.number ≡ n) × Follows ns ts) ⊎ Follows ns (t ∷ ts)

-- no number stands twice
unfoldable pub distinct : List ℕ → Bool
distinct [] = true
distinct (n ∷ ns) = both (not (holds ns n)) (distinct ns)

distinct_cons : (n : ℕ) (ns : List ℕ) → distinct (n ∷ ns) ≡ true → (¬ (n ∈ ns)) × (distinct ns ≡ true)
unfolding distinct
distinct_cons n ns d =
    let (new, rest) = (both_true (not (holds ns n)) (distinct ns)).0 d in
    (λ m. true≢false (sym ((holds_member ns n).1 m) ∙ not-true (holds ns n) new), rest)

-- ---- what stands before a number

before_here : (n number : ℕ) (ns : List ℕ) → n ≡ number → before (n ∷ ns) number ≡ []
unfolding before
before_here n number ns e = ap (λ (b : Bool). pick b [] (n ∷ before ns number)) (eq-eqb n number e)

before_other : (n number : ℕ) (ns : List ℕ) → ¬ (n ≡ number) → before (n ∷ ns) number ≡ n ∷ before ns number
unfolding before
before_other n number ns other = ap (λ (b : Bool). pick b [] (n ∷ before ns number)) (ne_eqb n number other)

-- Nothing stands before the first.
none_before_here : (n number : ℕ) (ns : List ℕ) → n ≡ number → (m : ℕ) → ¬ (m ∈ before (n ∷ ns) number)
none_before_here n number ns e m i = Memᴰ.not-nil (subst (λ (l : List ℕ). m ∈ l) (before_here n number ns e) i)

-- Before another stand the first, and what stands before it among the rest.
module _ (n number : ℕ) (ns : List ℕ) (other : ¬ (n ≡ number)) where
  first_before : n ∈ before (n ∷ ns) number
  first_before = subst (λ (l : List ℕ). n ∈ l) (sym (before_other n number ns other)) (Memᴰ.head refl)

  later_before : (m : ℕ) → m ∈ before ns number → m ∈ before (n ∷ ns) number
  later_before m i = subst (λ (l : List ℕ). m ∈ l) (sym (before_other n number ns other)) (Memᴰ.tail i)

  either_before : (m : ℕ) → m ∈ before (n ∷ ns) number → (m ≡ n) ⊎ (m ∈ before ns number)
  either_before m i = Memᴰ.cases_cons (subst (λ (l : List ℕ). m ∈ l) (before_other n number ns other) i)

-- Of two lists joined: before one of the first stand those of the first,
module _ (more : List ℕ) (number : ℕ) where
  pub before_joined : (ns : List ℕ) → number ∈ ns → before (ns ++ more) number ≡ before ns number
  unfolding before
  before_joined [] m = absurd (Memᴰ.not-nil m)
  before_joined (n ∷ ns) m = by (before_joined ns) (eqb n number) refl
    where
      later : eqb n number ≡ false → number ∈ ns
      later e =
          ⊎_elim (λ q. absurd (true≢false (sym (eq-eqb n number (sym q)) ∙ e))) (λ i. i) (Memᴰ.cases_cons m)

      by : (number ∈ ns → before (ns ++ more) number ≡ before ns number) → (b : Bool) → eqb n number ≡ b
          → pick b [] (n ∷ before (ns ++ more) number) ≡ pick b [] (n ∷ before ns number)
      by rest true e = refl
      by rest false e = ap (λ (l : List ℕ). n ∷ l) (rest (later e))

  -- and before another all of the first, and what stands before it in the second.
  before_further : (ns : List ℕ) → ¬ (number ∈ ns) → before (ns ++ more) number ≡ ns ++ before more number
  before_further [] none = refl
  before_further (n ∷ ns) none =
      before_other n number (ns ++ more) (λ e. none (Memᴰ.head (sym e)))
      ∙ ap (λ (l : List ℕ). n ∷ l) (before_further ns (λ m. none (Memᴰ.tail m)))

-- What stands before one stands in the order.
pub before_in : (order : List ℕ) (number n : ℕ) → n ∈ before order number → n ∈ order
unfolding before
before_in [] number n m = m
before_in (a ∷ ns) number n m =
    pick_cases (λ (l : List ℕ). n ∈ l → n ∈ a ∷ ns) (eqb a number)
    (λ e none. absurd (Memᴰ.not-nil none))
    (λ e i. ⊎_elim Memᴰ.head (λ j. Memᴰ.tail (before_in ns number n j)) (Memᴰ.cases_cons i))
    m

-- ---- the first that applies is the first in the order

-- What is not at any place is nowhere.
not_at : (place : Place) → ((q : ℕ) → ¬ (place ≡ At q)) → place ≡ Nowhere
not_at (At q) none = absurd (none q refl)
not_at Nowhere none = refl

-- No test applies exactly when none does with any number at any place.
pub none_has : (ts : List Test) → NoneApplies ts ↔ ((number p : ℕ) → ¬ OneApplies ts number p)
none_has [] = (λ none number p one. one, λ none. tt)
none_has (t ∷ ts) =
    let (to, from) = none_has ts in (
      λ (nowhere, none) number p. ⊎_elim (λ (n, at). somewhere (sym at ∙ nowhere)) (to none number p),
      λ none. (
        not_at t.place (λ p at. none t.number p (inl (refl, at))),
        from (λ number p one. none number p (inr one)),
      ),
    )

-- A test that applies has one of the numbers.
pub applying_in : (order : List ℕ) (ts : List Test) (n p : ℕ) → Follows order ts → OneApplies ts n p → n ∈ order
applying_in order [] n p f one = absurd one
applying_in [] (t ∷ ts) n p f one = absurd f
applying_in (a ∷ ns) (t ∷ ts) n p (inl (is, f)) (inl (e, at)) = Memᴰ.head (sym e ∙ is)
applying_in (a ∷ ns) (t ∷ ts) n p (inl (is, f)) (inr one) = Memᴰ.tail (applying_in ns ts n p f one)
applying_in (a ∷ ns) (t ∷ ts) n p (inr f) one = Memᴰ.tail (applying_in ns (t ∷ ts) n p f one)

abbrev NoneBefore : List ℕ → List Test → ℕ → Type 0
NoneBefore order ts number = (n q : ℕ) → n ∈ before order number → ¬ OneApplies ts n q

-- A number of the rest is another than the first.
unlike : (a : ℕ) (ns : List ℕ) → ¬ (a ∈ ns) → (number : ℕ) → number ∈ ns → ¬ (a ≡ number)
unlike a ns new number later e = new (subst (λ (m : ℕ). m ∈ ns) (sym e) later)

first_then : (order : List ℕ) (ts : List Test) (number p : ℕ) → distinct order ≡ true → Follows order ts → FirstThat ts number p
    → OneApplies ts number p × NoneBefore order ts number
first_then order [] number p d f first = absurd first
first_then [] (t ∷ ts) number p d f first = absurd f
first_then (a ∷ ns) (t ∷ ts) number p d (inl (is, f)) (inl (e, at)) =
    (inl (e, at), λ n q i. absurd (none_before_here a number ns (sym is ∙ e) n i))
first_then (a ∷ ns) (t ∷ ts) number p d (inl (is, f)) (inr (nowhere, first)) =
    let (new, rest) = distinct_cons a ns d in
    let (one, none) = first_then ns ts number p rest f first in
    let other = unlike a ns new number (applying_in ns ts number p f one) in (
      inr one,
      λ n q i.
          ⊎_elim (λ (_, at). somewhere (sym at ∙ nowhere))
          (λ s. ⊎_elim (λ e. new (subst (λ (k : ℕ). k ∈ ns) e (applying_in ns ts n q f s))) (λ b. none n q b s) (either_before a number ns other n i)),
    )
first_then (a ∷ ns) (t ∷ ts) number p d (inr f) first =
    let (new, rest) = distinct_cons a ns d in
    let (one, none) = first_then ns (t ∷ ts) number p rest f first in
    let other = unlike a ns new number (applying_in ns (t ∷ ts) number p f one) in (
      one,
      λ n q i s.
          ⊎_elim (λ e. new (subst (λ (k : ℕ). k ∈ ns) e (applying_in ns (t ∷ ts) n q f s))) (λ b. none n q b s) (either_before a number ns other n i),
    )

then_first : (order : List ℕ) (ts : List Test) (number p : ℕ) → distinct order ≡ true → Follows order ts
    → OneApplies ts number p → NoneBefore order ts number → FirstThat ts number p
then_first order [] number p d f one none = absurd one
then_first [] (t ∷ ts) number p d f one none = absurd f
then_first (a ∷ ns) (t ∷ ts) number p d (inl (is, f)) (inl h) none = inl h
then_first (a ∷ ns) (t ∷ ts) number p d (inl (is, f)) (inr one) none =
    let (new, rest) = distinct_cons a ns d in
    let other = unlike a ns new number (applying_in ns ts number p f one) in
    inr (
      not_at t.place (λ q at. none a q (first_before a number ns other) (inl (is, at))),
      then_first ns ts number p rest f one (λ n q i s. none n q (later_before a number ns other n i) (inr s)),
    )
then_first (a ∷ ns) (t ∷ ts) number p d (inr f) one none =
    let (new, rest) = distinct_cons a ns d in
    let other = unlike a ns new number (applying_in ns (t ∷ ts) number p f one) in
    then_first ns (t ∷ ts) number p rest f one (λ n q i s. none n q (later_before a number ns other n i) s)

-- A list of tests that follows the order refuses by the first reason in it, whatever the reasons are that the tests
-- stand for.
pub refused_in_order :
    (order : List ℕ) → distinct order ≡ true → (ts : List Test) → Follows order ts
    → (Reason : ℕ → ℕ → Type 0) → ((n p : ℕ) → Reason n p ↔ OneApplies ts n p)
    → (number p : ℕ) → first_refusal ts ≡ Refused number p ↔ FirstReason order Reason number p
refused_in_order order d ts f Reason same number p = Iff.trans (refused_by_first ts number p) (
  λ first.
      let (one, none) = first_then order ts number p d f first in
      record { applies = (same number p).1 one; none_before = λ n q i s. none n q i ((same n q).0 s) },
  λ r. then_first order ts number p d f ((same number p).0 r.applies) (λ n q i s. r.none_before n q i ((same n q).1 s)),
)

-- ---- how tests follow an order

skip : (a : ℕ) (ns : List ℕ) (ts : List Test) → Follows ns ts → Follows (a ∷ ns) ts
skip a ns [] f = tt
skip a ns (t ∷ ts) f = inr f

skip_all : (ms ns : List ℕ) (ts : List Test) → Follows ns ts → Follows (ms ++ ns) ts
skip_all [] ns ts f = f
skip_all (m ∷ ms) ns ts f = skip m (ms ++ ns) ts (skip_all ms ns ts f)

-- A test with one of several numbers, and tests after all of them.
pub one_of : (ms ns : List ℕ) (t : Test) (ts : List Test) → t.number ∈ ms → Follows ns ts → Follows (ms ++ ns) (t ∷ ts)
one_of [] ns t ts m f = absurd (Memᴰ.not-nil m)
one_of (a ∷ ms) ns t ts m f =
    ⊎_elim (λ e. inl (e, skip_all ms ns ts f)) (λ later. inr (one_of ms ns t ts later f)) (Memᴰ.cases_cons m)

-- k numbers from a on
unfoldable pub row : ℕ → ℕ → List ℕ
row a zero = []
row a (suc k) = a ∷ row (suc a) k

pub in_row : (a k n : ℕ) → a ≤ n → n < a + k → n ∈ row a k
unfolding row
in_row a zero n l m = absurd (omega arith)
in_row a (suc k) n l m =
    pick_cases (λ (b : Bool). n ∈ a ∷ row (suc a) k) (eqb a n) {a = true} {b = false}
    (λ e. Memᴰ.head (sym (eqb-true a n e)))
    (λ e.
    let other : ¬ (a ≡ n) = λ is. true≢false (sym (eq-eqb a n is) ∙ e) in Memᴰ.tail (in_row (suc a) k n (omega (arith, other)) (omega arith)))

-- ---- the checking order

pub is_distinct : distinct checking_order ≡ true
unfolding distinct holds
is_distinct = refl

-- the numbers of a row from a on are a at least, and k of them are below a + k
row_within : (a k n : ℕ) → n ∈ row a k → (a ≤ n) × (n < a + k)
unfolding row
row_within a zero n m = absurd (Memᴰ.not-nil m)
row_within a (suc k) n m =
    ⊎_elim (λ e. (omega arith, omega arith)) (λ later. let (l, u) = row_within (suc a) k n later in (omega arith, omega arith)) (Memᴰ.cases_cons m)

-- The order is 1 to 7, 9 to 15, and 8; its numbers are 1 to 15.
abbrev in_rows : List ℕ
in_rows = row 1 7 ++ (row 9 7 ++ (8 ∷ []))

order_is : checking_order ≡ in_rows
unfolding row
order_is = refl

pub in_checking_order : (number : ℕ) → number ∈ checking_order → (1 ≤ number) × (number ≤ 15)
in_checking_order number m =
    let i : number ∈ in_rows = subst (λ (l : List ℕ). number ∈ l) order_is m in
    ⊎_elim
    (λ low. let (l, u) = row_within 1 7 number low in (l, omega arith))
    (λ rest.
    ⊎_elim (λ high. let (l, u) = row_within 9 7 number high in (omega arith, omega arith))
    (λ eight. let e = Memᴰ.eq_of_singleton eight in (omega arith, omega arith))
    (Memᴰ.append_cases (row 9 7) rest))
    (Memᴰ.append_cases (row 1 7) i)

pub of_checking_order : (number : ℕ) → 1 ≤ number → number ≤ 15 → number ∈ checking_order
of_checking_order number least most =
    subst (λ (l : List ℕ). number ∈ l) (sym order_is)
    (by_place (dec_lt number 8) (dec_lt 8 number))
  where
    by_place : Dec (number < 8) → Dec (8 < number) → number ∈ in_rows
    by_place (yes l) other = Memᴰ.append_left (row 9 7 ++ (8 ∷ [])) (in_row 1 7 number least (omega arith))
    by_place (no l) (yes u) =
        Memᴰ.append_right (row 1 7) (Memᴰ.append_left (8 ∷ []) (in_row 9 7 number (omega arith) (omega arith)))
    by_place (no l) (no u) =
        Memᴰ.append_right (row 1 7) (Memᴰ.append_right (row 9 7) (Memᴰ.head (omega arith)))

-- Before a number of a row stand the lower ones.
before_in_row : (a k number n : ℕ) → number ∈ row a k → n ∈ before (row a k) number ↔ ((a ≤ n) × (n < number))
unfolding row
before_in_row a zero number n m = absurd (Memᴰ.not-nil m)
before_in_row a (suc k) number n m =
    let (least, most) = row_within a (suc k) number m in
    pick_cases (λ (b : Bool). n ∈ before (row a (suc k)) number ↔ ((a ≤ n) × (n < number))) (eqb a number) {a = true} {b = false}
    (λ e.
    let is = eqb-true a number e in
    (λ i. absurd (none_before_here a number (row (suc a) k) is n i), λ (l, u). absurd (omega arith)))
    (λ e.
    let other : ¬ (a ≡ number) = λ is. true≢false (sym (eq-eqb a number is) ∙ e) in
    let later : number ∈ row (suc a) k = ⊎_elim (λ q. absurd (other (sym q))) (λ i. i) (Memᴰ.cases_cons m) in
    let (to, from) = before_in_row (suc a) k number n later in (
      λ i.
          ⊎_elim (λ q. (omega arith, omega (arith, other))) (λ j. let (l, u) = to j in (omega arith, u)) (either_before a number (row (suc a) k) other n i),
      λ (l, u).
          pick_cases (λ (b : Bool). n ∈ before (row a (suc k)) number) (eqb a n) {a = true} {b = false}
          (λ q. subst (λ (j : ℕ). j ∈ before (row a (suc k)) number) (eqb-true a n q) (first_before a number (row (suc a) k) other))
          (λ q.
          let past : ¬ (a ≡ n) = λ is. true≢false (sym (eq-eqb a n is) ∙ q) in
          later_before a number (row (suc a) k) other n (from (omega (arith, past), u))),
    ))

module _ (n : ℕ) where
  -- 1 to 7, and below a number what is lower
  before_low : (number : ℕ) → 1 ≤ number → number < 8 → n ∈ before in_rows number ↔ ((1 ≤ n) × (n < number))
  before_low number least l =
      let m = in_row 1 7 number least (omega arith) in
      rw (before_joined (row 9 7 ++ (8 ∷ [])) number (row 1 7) m) (before_in_row 1 7 number n m)

  -- 9 to 15: before these stand 1 to 7, and of 9 to 15 what is lower
  before_high : (number : ℕ) → 8 < number → number ≤ 15
      → n ∈ before in_rows number ↔ ((n ∈ row 1 7) ⊎ ((9 ≤ n) × (n < number)))
  before_high number least most =
      let m = in_row 9 7 number least (omega arith) in
      let none : ¬ (number ∈ row 1 7) = λ i. let (l, u) = row_within 1 7 number i in absurd (omega arith) in
      let (to, from) = before_in_row 9 7 number n m in
      rw (before_further (row 9 7 ++ (8 ∷ [])) number (row 1 7) none, before_joined (8 ∷ []) number (row 9 7) m) (
        λ i. ⊎_elim inl (λ j. inr (to j)) (Memᴰ.append_cases (row 1 7) i),
        ⊎_elim (Memᴰ.append_left (before (row 9 7) number)) (λ j. Memᴰ.append_right (row 1 7) (from j)),
      )

pub before_is_lower : BeforeIsLower
before_is_lower number n least most other = rw order_is (by_place (dec_lt number 8))
  where
    by_place : Dec (number < 8) → n ∈ before in_rows number ↔ ((1 ≤ n) × (n < number) × (¬ (n ≡ 8)))
    by_place (yes l) =
        let (to, from) = before_low n number least l in
        (λ i. let (a, b) = to i in (a, b, λ e. omega arith), λ (a, b, _). from (a, b))
    by_place (no l) =
        let (to, from) = before_high n number (omega (arith, other)) most in (
          λ i.
              ⊎_elim (λ j. let (a, b) = row_within 1 7 n j in (a, omega arith, λ e. omega arith))
              (λ (a, b). (omega arith, b, λ e. omega arith))
              (to i),
          λ (a, b, c). from (low_or_high (dec_lt n 8) a b c),
        )
      where
        low_or_high : Dec (n < 8) → 1 ≤ n → n < number → ¬ (n ≡ 8) → (n ∈ row 1 7) ⊎ ((9 ≤ n) × (n < number))
        low_or_high (yes u) a b c = inl (in_row 1 7 n a (omega arith))
        low_or_high (no u) a b c = inr (omega (arith, c), b)

-- Before 8 stand both rows.
before_last : before in_rows 8 ≡ row 1 7 ++ row 9 7
unfolding before row
before_last = refl

pub before_eight : BeforeEight
before_eight n = rw (order_is, before_last) (
  λ i.
      ⊎_elim (λ j. let (a, b) = row_within 1 7 n j in (a, omega arith, λ e. omega arith))
      (λ j. let (a, b) = row_within 9 7 n j in (omega arith, omega arith, λ e. omega arith))
      (Memᴰ.append_cases (row 1 7) i),
  λ (a, b, c). by_place (dec_lt n 8) a b c,
)
  where
    by_place : Dec (n < 8) → 1 ≤ n → n ≤ 15 → ¬ (n ≡ 8) → n ∈ row 1 7 ++ row 9 7
    by_place (yes l) a b c = Memᴰ.append_left (row 9 7) (in_row 1 7 n a (omega arith))
    by_place (no l) a b c = Memᴰ.append_right (row 1 7) (in_row 9 7 n (omega (arith, c)) (omega arith))

-- What is lower, and not 8, stands before a number, 8 or not.
pub lower_before : (number n : ℕ) → number ≤ 15 → 1 ≤ n → n < number → ¬ (n ≡ 8) → n ∈ before checking_order number
lower_before number n most least less other =
    pick_cases (λ (b : Bool). n ∈ before checking_order number) (eqb number 8) {a = true} {b = false}
    (λ e.
    subst (λ (m : ℕ). n ∈ before checking_order m) (sym (eqb-true number 8 e))
    ((before_eight n).1 (least, omega arith, other)))
    (λ e.
    (before_is_lower number n (omega arith) most (λ is. true≢false (sym (eq-eqb number 8 is) ∙ e))).1
    (least, less, other))

pub first_is_lowest : FirstIsLowest
first_is_lowest Reason range number p = (
  λ r.
      let (least, most, other) = range number p r.applies in (
        r.applies,
        λ n q less reason.
            let (at_least_lem, _, another) = range n q reason in
            r.none_before n q ((before_is_lower number n least most other).1 (at_least_lem, less, another)) reason,
      ),
  λ (reason, none).
      let (least, most, other) = range number p reason in
      record { applies = reason; none_before = λ n q i. none n q ((before_is_lower number n least most other).0 i).1 },
)

pub samples : Samples
unfolding before
samples = (refl, refl, refl, refl)
