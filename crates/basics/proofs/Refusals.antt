-- The first refusal that applies (specs/Refusals.antt). Assumes nothing.
use Prim.Native.Nat.{ℕ}
use native.Mathlib.Omega.{arith}
use mathlib.Core.Bool.{Bool, true, false}
use mathlib.Core.Path.{◌≡◌, refl, sym, ap, ◌∙◌}
use mathlib.Core.Logic.{◌↔◌, ◌⊎◌, inl, inr, ⊎_elim}
use mathlib.Core.List.{List, [], ◌∷◌, ◌++◌}
use Rattle.std.specs.Prelude.{Result, Ok, Err, IsErrAnd}
use Rattle.std.proofs.lemmas.Result.{err_from_is_err_and}
use Rattle.basics.specs.declared.refusal.Refusal.{Refusal}
use Rattle.basics.specs.Place.{Place, At, Nowhere}
use Rattle.basics.specs.Tested.{Tested, Passed, Refused}
use Rattle.basics.specs.Refusals.{refused_at, Test, test, at0, first_refusal, NoneApplies, RefusedByFirst, PassedByAll}

-- ---- a refusal and what else is answered

-- A refusal is no other answer;
pub not_ok : {A : Type 0} {number p : ℕ} {a : A} → Refused number p ≡ Ok a → ⊥
not_ok e = let z : ◌≡◌ {A = ℕ} 0 1 = cc in omega arith

-- no pass;
pub not_passed : {number p : ℕ} → Refused number p ≡ Passed → ⊥
not_passed = not_ok

-- its number and its place are its own,
abbrev number_of : {A : Type 0} → Result A Refusal → ℕ
number_of (Ok a) = 0
number_of (Err r) = r.number

abbrev place_of : {A : Type 0} → Result A Refusal → ℕ
place_of (Ok a) = 0
place_of (Err r) = r.place

pub same_refusal : {A : Type 0} {n m p q : ℕ} → ◌≡◌ {A = Result A Refusal} (Refused n p) (Refused m q) → (n ≡ m) × (p ≡ q)
same_refusal e = (ap number_of e, ap place_of e)

pub refusal_same : {A : Type 0} {n m p q : ℕ} → n ≡ m → p ≡ q → ◌≡◌ {A = Result A Refusal} (Refused n p) (Refused m q)
refusal_same {m = m} {p = p} e f = ap (λ k. Refused k p) e ∙ ap (λ k. Refused m k) f

-- and it is what it is whatever is answered else.
pub refused_as : {A B : Type 0} (r : Refusal) {n p : ℕ} → ◌≡◌ {A = Result A Refusal} (Err r) (Refused n p) → ◌≡◌ {A = Result B Refusal} (Err r) (Refused n p)
refused_as r e = refusal_same (same_refusal e).0 (same_refusal e).1

-- What `?` hands on of a refusal is the refusal.
pub handed_on : {A : Type 0} (answer : Result A Refusal) {r : Refusal} → IsErrAnd answer (λ e. e ≡ r) → answer ≡ Err r
handed_on answer h = let (e, is, same) = err_from_is_err_and answer h in is ∙ ap (λ e. Err e) same

-- ---- the first that applies

-- One test refuses where it applies, else what follows does.
one_refuses :
    (n : ℕ) (place : Place) (next : Tested) (number p : ℕ)
    → refused_at n place next ≡ Refused number p ↔ ((n ≡ number) × (place ≡ At p)) ⊎ ((place ≡ Nowhere) × (next ≡ Refused number p))
one_refuses n (At q) next number p = (
  λ e. let (n_is, p_is) = same_refusal e in inl (n_is, ap At p_is),
  ⊎_elim (λ h. refusal_same h.0 cc) (λ h. cc),
)
one_refuses n Nowhere next number p = (λ e. inr (refl, e), ⊎_elim (λ h. cc) (λ h. h.1))

-- It lets pass where it applies nowhere and what follows lets pass.
one_passes : (n : ℕ) (place : Place) (next : Tested) → refused_at n place next ≡ Passed ↔ ((place ≡ Nowhere) × (next ≡ Passed))
one_passes n (At q) next = (λ e. (cc, cc), λ h. cc)
one_passes n Nowhere next = (λ e. (refl, e), λ h. h.1)

pub refused_by_first : RefusedByFirst
unfolding first_refusal
refused_by_first [] number p = (λ e. not_passed (sym e), absurd)
refused_by_first (t ∷ ts) number p =
    let one = one_refuses t.number t.place (first_refusal ts) number p in
    let rest = refused_by_first ts number p in
    (λ e. ⊎_elim inl (λ h. inr (h.0, rest.0 h.1)) (one.0 e), λ f. one.1 (⊎_elim inl (λ h. inr (h.0, rest.1 h.1)) f))

pub passed_by_all : PassedByAll
unfolding first_refusal
passed_by_all [] = (λ e. tt, λ h. refl)
passed_by_all (t ∷ ts) =
    let one = one_passes t.number t.place (first_refusal ts) in
    let rest = passed_by_all ts in
    (λ e. let (nowhere, then) = one.0 e in (nowhere, rest.0 then), λ h. one.1 (h.0, rest.1 h.1))

-- ---- one test after the other, as code makes them

module _ (number : ℕ) (ts : List Test) where
  -- A test that applies refuses, whatever follows;
  pub applies : {place : Place} {p : ℕ} → place ≡ At p → first_refusal (test number place ∷ ts) ≡ Refused number p
  unfolding first_refusal
  applies e = ap (λ (q : Place). refused_at number q (first_refusal ts)) e

  -- one that doesn't leaves the answer to those that follow.
  pub goes_on : {place : Place} → place ≡ Nowhere → first_refusal (test number place ∷ ts) ≡ first_refusal ts
  unfolding first_refusal
  goes_on e = ap (λ (q : Place). refused_at number q (first_refusal ts)) e

  -- The same for a test whose place is 0.
  pub applies_at_0 : {asked : Bool} → asked ≡ true → first_refusal (test number (at0 asked) ∷ ts) ≡ Refused number 0
  applies_at_0 e = applies (ap at0 e)

  pub goes_on_at_0 : {asked : Bool} → asked ≡ false → first_refusal (test number (at0 asked) ∷ ts) ≡ first_refusal ts
  goes_on_at_0 e = goes_on (ap at0 e)

-- ---- tests after tests

-- A refusal stands, whatever follows a test.
refused_through : (n : ℕ) (place : Place) {x y : Tested} {number p : ℕ} → (x ≡ Refused number p → y ≡ Refused number p)
    → refused_at n place x ≡ Refused number p → refused_at n place y ≡ Refused number p
refused_through n (At q) through e = e
refused_through n Nowhere through e = through e

-- What the first of two lists of tests refuses, both refuse;
pub joined_refused : (ts us : List Test) {number p : ℕ} → first_refusal ts ≡ Refused number p → first_refusal (ts ++ us) ≡ Refused number p
unfolding first_refusal
joined_refused [] us e = absurd (not_passed (sym e))
joined_refused (t ∷ ts) us e = refused_through t.number t.place (joined_refused ts us) e

-- where it lets pass, the second decides.
pub joined_passed : (ts us : List Test) → first_refusal ts ≡ Passed → first_refusal (ts ++ us) ≡ first_refusal us
joined_passed [] us e = refl
joined_passed (t ∷ ts) us e =
    let (none, rest) = (passed_by_all (t ∷ ts)).0 e in
    goes_on t.number (ts ++ us) none ∙ joined_passed ts us ((passed_by_all ts).1 rest)

-- None of both applies exactly when none of either does.
pub none_joined : (ts us : List Test) → NoneApplies (ts ++ us) ↔ (NoneApplies ts × NoneApplies us)
none_joined [] us = (λ none. (tt, none), λ (_, none). none)
none_joined (t ∷ ts) us =
    let (to, from) = none_joined ts us in
    (λ (one, rest). let (before, after) = to rest in ((one, before), after), λ ((one, before), after). (one, from (before, after)))

-- With no test left the answer is passed.
pub none_left : first_refusal [] ≡ Passed
unfolding first_refusal
none_left = refl
