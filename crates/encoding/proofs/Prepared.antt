-- The table of propositions that are within the limits, and what its numbers spell, where a file's heads and seconds
-- are those of this table. A record and an exchange file both have such a one. Assumes nothing.
use Prim.Native.Nat.{ℕ, ◌<◌, ◌≤◌}
use native.Mathlib.Omega.{arith}
use mathlib.Core.Path.{◌≡◌, refl, sym, ap, ap₂, subst, subst₂, ◌∙◌}
use mathlib.Core.List.Memᴰ
use mathlib.Core.List.{List, [], ◌∷◌, map}
use lib.ListN.{length}
use Rattle.basics.specs.Membership.{◌∈◌, ◌⊆◌}
use Rattle.basics.specs.Limits.{most_formulas}
use Rattle.basics.proofs.Membership.{first, added, ⊆_trans}
use Rattle.logic.specs.Proposition.{Proposition}
use Rattle.table.specs.declared.entry.Entry.{Entry}
use Rattle.table.specs.Tests.{entries}
use Rattle.table.specs.Spelled.{among, spelled, spell, spell_all}
use Rattle.table.specs.Number.{position, number}
use Rattle.table.specs.Laws.{Ordered, NoneRepeated}
use Rattle.encoding.specs.Bounds.{FewFormulas}
use Rattle.encoding.specs.Subformulas.{subformulas}
use Rattle.encoding.specs.Table.{table_of, heads_of, seconds_of, TableIs}
use Rattle.encoding.specs.Laid.{AreWords}
use Rattle.encoding.proofs.Position.{position_in, position_most, at_position}
use Rattle.encoding.proofs.Subformulas.{subformulas_are}
use Rattle.encoding.proofs.Counted.{counted_formulas}
use Rattle.encoding.proofs.Table.{tables_are, head_words, second_words}

-- What is used of the formulas of a table.
pub record Prepared (As formulas : List Proposition) : Type 0 where
  pub holds : As ⊆ formulas
  pub few : length formulas ≤ most_formulas
  pub table : TableIs formulas
  pub head_words : AreWords (heads_of formulas)
  pub second_words : AreWords (seconds_of formulas)

pub prepared : (As : List Proposition) → FewFormulas As → Prepared As (subformulas As)
prepared As room =
    let are = subformulas_are As in
    let (few, numbered) = (counted_formulas As).0 room in record {
      holds = are.holds;
      few = few;
      table = tables_are (subformulas As) are.in_order few numbered;
      head_words = head_words (subformulas As) are.in_order few numbered;
      second_words = second_words (subformulas As) are.in_order few numbered;
    }

module _ (formulas : List Proposition) where
  -- The numbers of members are below F.
  pub numbers_in : {As : List Proposition} → As ⊆ formulas
      → (n : ℕ) → n ∈ map (position formulas) As → n < length formulas
  numbers_in {As} hold n m =
      let (A, stands, is) = Memᴰ.of_map (position formulas) As m in
      subst (λ (k : ℕ). k < length formulas) is (position_in (hold A stands))

module _ {As formulas : List Proposition} (ready : Prepared As formulas) where
  -- No proposition's number is above the limit.
  pub number_most : (A : Proposition) → position formulas A ≤ most_formulas
  number_most A = let few = ready.few in omega (arith, position_most formulas A)

  pub number_words : {Bs : List Proposition} → Bs ⊆ formulas → AreWords (map (position formulas) Bs)
  number_words hold n m = let few = ready.few in omega (arith, numbers_in formulas hold n m)

  module _ {heads seconds : List ℕ} (heads_are : heads ≡ heads_of formulas)
      (seconds_are : seconds ≡ seconds_of formulas) where
    abbrev es : List Entry
    es = entries heads seconds

    table_is : es ≡ table_of formulas
    table_is = ap₂ entries heads_are seconds_are ∙ ready.table.taken_apart

    spells : spelled es ≡ formulas
    spells = ap spelled table_is ∙ ready.table.spells

    pub ordered : Ordered es
    ordered = subst Ordered (sym table_is) ready.table.ordered

    pub none_repeated : NoneRepeated heads seconds
    none_repeated = subst₂ NoneRepeated (sym heads_are) (sym seconds_are) ready.table.none_repeated

    -- The table's numbers are the positions,
    pub number_is : number es ≡ position formulas
    unfolding number
    number_is = ap position spells

    -- and the number of a member spells it.
    pub spells_one : {A : Proposition} → A ∈ formulas → spell es (position formulas A) ≡ A
    spells_one {A} m = ap (λ (l : List Proposition). among l (position formulas A)) spells ∙ at_position m

    pub spells_all : (Bs : List Proposition) → Bs ⊆ formulas → spell_all es (map (position formulas) Bs) ≡ Bs
    spells_all [] hold = refl
    spells_all (B ∷ Bs) hold = ap₂ ◌∷◌ (spells_one (hold B first)) (spells_all Bs (⊆_trans (added B) hold))
