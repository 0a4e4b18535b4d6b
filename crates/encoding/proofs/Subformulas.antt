-- The subformulas of a list of propositions (specs/Subformulas.antt, `SubformulasAre`). In order: what is put and
-- entered stands there, in order; and in every list that holds the given ones and all operands. Assumes nothing.
use Prim.Native.Nat.{ℕ, ◌<◌}
use native.Mathlib.Omega.{arith}
use native.Mathlib.Decide.{dec_lt}
use mathlib.Core.Path.{◌≡◌, refl, sym, subst, ◌∙◌}
use mathlib.Core.List.Memᴰ
use mathlib.Core.List.{List, [], ◌∷◌, ◌++◌}
use lib.ListN.{length, length-append, get_or-append}
use lib.Seq.{get_or_at}
use lib.Dec.{ltb}
use borrow.Author.Tests.{ltb-true, ltb-false}
use Rattle.basics.specs.Membership.{◌∈◌, ◌⊆◌}
use Rattle.basics.proofs.Membership.{⊆_refl, ⊆_trans, first, second, added, ⊆_cons, ⊆_left, ⊆_right, ⊆_append}
use Rattle.basics.proofs.Choice.{pick_cases}
use Rattle.logic.specs.Proposition.{Proposition, atom, false, ◌implies◌, ◌and◌, ◌or◌, ◌says◌}
use Rattle.table.specs.Spelled.{among}
use Rattle.table.specs.Number.{position}
use Rattle.encoding.specs.Bounds.{operands, HasOperands}
use Rattle.encoding.specs.Subformulas.{put, enter, enter_all, TableOrder, SubformulasAre}
use Rattle.encoding.proofs.Position.{among_in, place_among, position_in, in_position, position_stays}

none_in : {l : List Proposition} → [] ⊆ l
none_in A m = absurd (Memᴰ.not-nil m)

-- ---- one more in order

module _ (made : List Proposition) (A : Proposition) (is : TableOrder made) (new : ¬ (A ∈ made))
    (ready : operands A ⊆ made) where
  abbrev more : List Proposition
  more = made ++ A ∷ []

  -- what was there stays, and A comes last
  stays : (i : ℕ) → i < length made → among more i ≡ among made i
  stays i within = get_or-append made (A ∷ []) false i within

  last : (i : ℕ) → i ≡ length made → among more i ≡ A
  last i e = get_or_at made A [] false i (sym e)

  -- a place is one of those before, or the last
  at_each_place : (P : ℕ → Type 0) → ((i : ℕ) → i < length made → P i) → ((i : ℕ) → i ≡ length made → P i)
      → (i : ℕ) → i < length more → P i
  at_each_place P before at_last i within = by (dec_lt i (length made))
    where
      by : Dec (i < length made) → P i
      by (yes l) = before i l
      by (no l) = at_last i (omega (arith, length-append made (A ∷ [])))

  one_more : TableOrder more
  one_more = record {
    none_twice =
        λ i j before within.
        at_each_place (λ j. i < j → ¬ (among more i ≡ among more j))
        (λ j l b same. is.none_twice i j b l (sym (stays i (omega arith)) ∙ same ∙ stays j l))
        (λ j e b same.
        let before : i < length made = omega arith in
        new (Memᴰ.cast (sym (last j e) ∙ sym same ∙ stays i before) (among_in made i before)))
        j within before;
    operands_first =
        at_each_place (λ i. (C : Proposition) → C ∈ operands (among more i) → position more C < i)
        (λ i l C m.
        let lower = is.operands_first i l C (subst (λ B. C ∈ operands B) (stays i l) m) in
        omega (arith, position_stays made (A ∷ []) (in_position made C (omega arith))))
        (λ i e C m.
        let stands = ready C (subst (λ B. C ∈ operands B) (last i e) m) in
        omega (arith, position_stays made (A ∷ []) stands, position_in stands));
  }

-- ---- what is put and entered

-- one list has grown to another
record Grown (made after : List Proposition) : Type 0 where
  kept : made ⊆ after
  in_order : TableOrder made → TableOrder after

same : {made : List Proposition} → Grown made made
same = record { kept = ⊆_refl; in_order = λ o. o }

then : {made middle after : List Proposition} → Grown made middle → Grown middle after → Grown made after
then g h = record { kept = ⊆_trans g.kept h.kept; in_order = λ o. h.in_order (g.in_order o) }

-- and A stands in it
record Entered (A : Proposition) (made after : List Proposition) : Type 0 where
  grown : Grown made after
  stands : A ∈ after

-- A is put behind its operands
puts : {made middle : List Proposition} (A : Proposition)
    → Grown made middle → operands A ⊆ middle → Entered A made (put A middle)
puts {middle = middle} A g ready =
    pick_cases (Entered A _) (ltb (position middle A) (length middle))
    (λ t. record { grown = g; stands = in_position middle A (ltb-true _ _ t) })
    (λ t.
    let past = ltb-false (position middle A) (length middle) t in
    record {
      grown = then g record {
        kept = ⊆_left (A ∷ []);
        in_order = λ o. one_more middle A o (λ m. omega (arith, position_in m)) ready;
      };
      stands = ⊆_right middle A first;
    })

-- after two operands
after_two : {A B : Proposition} {made middle last : List Proposition} (C : Proposition)
    → Entered A made middle → Entered B middle last → operands C ≡ A ∷ B ∷ [] → Entered C made (put C last)
after_two {A = A} {last = last} C a b are =
    let both = ⊆_cons (b.grown.kept A a.stands) (⊆_cons b.stands none_in) in
    puts C (then a.grown b.grown) (subst (λ (l : List Proposition). l ⊆ last) (sym are) both)

enters : (A : Proposition) (made : List Proposition) → Entered A made (enter A made)
unfolding enter
enters (atom a) made = puts (atom a) same none_in
enters false made = puts false same none_in
enters (A implies B) made = after_two (A implies B) (enters A made) (enters B (enter A made)) refl
enters (A and B) made = after_two (A and B) (enters A made) (enters B (enter A made)) refl
enters (A or B) made = after_two (A or B) (enters A made) (enters B (enter A made)) refl
enters (K says A) made = let a = enters A made in puts (K says A) a.grown (⊆_cons a.stands none_in)

record AllEntered (As made after : List Proposition) : Type 0 where
  grown : Grown made after
  hold : As ⊆ after

enters_all : (As made : List Proposition) → AllEntered As made (enter_all As made)
unfolding enter_all
enters_all [] made = record { grown = same; hold = none_in }
enters_all (A ∷ As) made =
    let a = enters A made in
    let more = enters_all As (enter A made) in
    record { grown = then a.grown more.grown; hold = ⊆_cons (more.grown.kept A a.stands) more.hold }

-- ---- in every list that holds them and all operands

module _ (others : List Proposition) (has : HasOperands others) where
  put_in : (A : Proposition) {made : List Proposition} → A ∈ others → made ⊆ others → put A made ⊆ others
  put_in A {made} a all =
      pick_cases (λ (l : List Proposition). l ⊆ others) (ltb (position made A) (length made)) (λ t. all)
      (λ t. ⊆_append made all (⊆_cons a none_in))

  enter_in : (A : Proposition) (made : List Proposition) → A ∈ others → made ⊆ others → enter A made ⊆ others
  unfolding enter
  enter_in (atom a) made m all = put_in (atom a) m all
  enter_in false made m all = put_in false m all
  enter_in (A implies B) made m all =
      let a = enter_in A made (has (A implies B) A m first) all in
      put_in (A implies B) m (enter_in B (enter A made) (has (A implies B) B m second) a)
  enter_in (A and B) made m all =
      let a = enter_in A made (has (A and B) A m first) all in
      put_in (A and B) m (enter_in B (enter A made) (has (A and B) B m second) a)
  enter_in (A or B) made m all =
      let a = enter_in A made (has (A or B) A m first) all in
      put_in (A or B) m (enter_in B (enter A made) (has (A or B) B m second) a)
  enter_in (K says A) made m all = put_in (K says A) m (enter_in A made (has (K says A) A m first) all)

  enter_all_in : (As made : List Proposition) → As ⊆ others → made ⊆ others → enter_all As made ⊆ others
  unfolding enter_all
  enter_all_in [] made given all = all
  enter_all_in (A ∷ As) made given all =
      enter_all_in As (enter A made) (⊆_trans (added A) given) (enter_in A made (given A first) all)

-- ---- the subformulas

none_in_order : TableOrder []
none_in_order = record {
  none_twice = λ i j before within. absurd (omega arith);
  operands_first = λ i within. absurd (omega arith);
}

pub subformulas_are : SubformulasAre
subformulas_are As =
    let all = enters_all As [] in record {
      in_order = all.grown.in_order none_in_order;
      holds = all.hold;
      needed = λ others given has. enter_all_in others has As [] given none_in;
    }

-- A list in order has the operands of all that it has.
pub in_order_operands : {formulas : List Proposition} → TableOrder formulas → HasOperands formulas
in_order_operands {formulas} is B C m c =
    let (i, within, at) = place_among m in
    let lower = is.operands_first i within C (subst (λ (A : Proposition). C ∈ operands A) (sym at) c) in
    in_position formulas C (omega arith)
