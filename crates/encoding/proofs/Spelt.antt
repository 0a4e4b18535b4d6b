-- What numbers spell over a table that passes 4 is within the limits (specs/Bounds.antt, `FewFormulas`): the way back
-- from a file. Assumes nothing.
use Prim.Native.Nat.{ℕ, ◌<◌, ◌≤◌}
use native.Mathlib.Omega.{arith}
use mathlib.Core.Path.{◌≡◌, sym, subst, ◌∙◌}
use mathlib.Core.List.Memᴰ
use mathlib.Core.List.{List, [], ◌∷◌}
use lib.ListN.{length, get_or}
use Rattle.basics.specs.Membership.{◌∈◌, ◌⊆◌}
use Rattle.basics.specs.Limits.{most_formulas}
use Rattle.basics.proofs.Membership.{⊆_cons}
use Rattle.logic.specs.Proposition.{Proposition, atom, false, ◌implies◌, ◌and◌, ◌or◌, ◌says◌}
use Rattle.table.specs.declared.entry.Formula.{Formula}
use Rattle.table.specs.declared.entry.Entry.{Entry}
use Rattle.table.specs.Tests.{entries, entry_at}
use Rattle.table.specs.Spelled.{spelled, spell, spell_all}
use Rattle.table.specs.Number.{number}
use Rattle.table.specs.Laws.{FirstFits, Ordered}
use Rattle.table.proofs.Entries.{length_entries, entry_at_lem, words_of_entry}
use Rattle.table.proofs.Ordered.{well_formed}
use Rattle.table.proofs.Spelled.{length_spelled}
use Rattle.table.proofs.Shapes.{Spells, spells, OfTwo, OfOne}
use Rattle.encoding.specs.Bounds.{NumberFits, HasOperands, FewFormulas}
use Rattle.encoding.proofs.Position.{among_in, place_among, position_most}

module _ (heads seconds : List ℕ) (ordered : Ordered (entries heads seconds)) where
  abbrev es : List Entry
  es = entries heads seconds

  -- What a number below F spells is among what the table spells,
  spelt_in : {n : ℕ} {A : Proposition} → n < length es → spell es n ≡ A → A ∈ spelled es
  spelt_in {n} within is = Memᴰ.cast (sym is) (among_in (spelled es) n (omega (arith, length_spelled es)))

  -- and each of these has a number, whose entry has its kind
  record Numbered (A : Proposition) : Type 0 where
    place : ℕ
    within : place < length es
    shape : Spells es place A

  numbered : {A : Proposition} → A ∈ spelled es → Numbered A
  numbered {A} m =
      let (n, below, is) = place_among m in
      let within : n < length es = omega (arith, length_spelled es) in
      record { place = n; within = within; shape = spells es ordered n within A is }

  -- the operands of a kind with two are there, and that of says
  two_in : {n : ℕ} {kind : Formula → Formula → Entry} {A B : Proposition} → OfTwo es n kind A B
      → A ∷ B ∷ [] ⊆ spelled es
  two_in s =
      ⊆_cons (spelt_in s.one_in s.spells_one)
      (⊆_cons (spelt_in s.two_in s.spells_two) (λ C m. absurd (Memᴰ.not-nil m)))

  one_in : {n : ℕ} {kind : Formula → Entry} {A : Proposition} → OfOne es n kind A → A ∷ [] ⊆ spelled es
  one_in s = ⊆_cons (spelt_in s.one_in s.spells_one) (λ C m. absurd (Memᴰ.not-nil m))

  has_operands : HasOperands (spelled es)
  has_operands (atom a) C m c = absurd (Memᴰ.not-nil c)
  has_operands false C m c = absurd (Memᴰ.not-nil c)
  has_operands (A implies B) C m c = two_in (numbered m).shape C c
  has_operands (A and B) C m c = two_in (numbered m).shape C c
  has_operands (A or B) C m c = two_in (numbered m).shape C c
  has_operands (K says A) C m c = one_in (numbered m).shape C c

  -- An entry's first operand fits beside its kind, and so an atom's or a principal's number fits.
  fits : (n : ℕ) → n < length es → FirstFits (entry_at es n)
  fits n within =
      let many = length_entries heads seconds in
      let is = entry_at_lem heads seconds n (omega arith) (omega arith) in
      let formed = well_formed es ordered n within in
      subst FirstFits (sym is) (words_of_entry (get_or heads n 0) (get_or seconds n 0) (λ ill. formed (is ∙ ill))).2

  number_fits : (A : Proposition) → A ∈ spelled es → NumberFits A
  number_fits (atom a) m =
      let s = numbered m in
      let below = subst FirstFits s.shape (fits s.place s.within) in omega arith
  number_fits false m = tt
  number_fits (A implies B) m = tt
  number_fits (A and B) m = tt
  number_fits (A or B) m = tt
  number_fits (K says A) m =
      let s = numbered m in
      let below = subst FirstFits s.shape.is (fits s.place s.within) in omega arith

  pub few_formulas : length es ≤ most_formulas
      → (ns : List ℕ) → ((n : ℕ) → n ∈ ns → n < length es) → FewFormulas (spell_all es ns)
  few_formulas few ns below = record {
    formulas = spelled es;
    few = omega (arith, length_spelled es);
    holds = λ A m. let (n, stands, is) = Memᴰ.of_map (spell es) ns m in spelt_in (below n stands) is;
    has_operands = has_operands;
    numbered = number_fits;
  }

-- No proposition's number is above the limit.
pub number_most : (es : List Entry) → length es ≤ most_formulas → (A : Proposition) → number es A ≤ most_formulas
unfolding number
number_most es few A = omega (arith, length_spelled es, position_most (spelled es) A)
