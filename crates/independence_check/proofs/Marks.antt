-- What a formula's mark says: laws for `marks_of`, kind by kind. Assumes nothing.
use Prim.Native.Nat.{ℕ}
use mathlib.Core.Bool.{Bool, false, ◌||◌}
use mathlib.Core.Path.{◌≡◌, refl, sym, ap, ap₂, ◌∙◌}
use mathlib.Core.Logic.{◌⊎◌, ⊎_elim}
use mathlib.Core.List.{List, map}
use lib.ListN.{get_or, get_or-map}
use Rattle.logic.specs.Proposition.{Proposition, false as falsum}
use Rattle.logic.specs.Sides.{Side, proving}
use Rattle.table.specs.declared.entry.Formula.{Formula}
use Rattle.table.specs.declared.entry.Principal.{Principal}
use Rattle.table.specs.declared.entry.Entry.{Entry}
use Rattle.table.specs.declared.entry.Entry.TheVariants.{Atom, False, Implies, And, Or, Says, IllFormed}
use Rattle.table.specs.Spelled.{among, proposition}
use Rattle.steps.specs.Figure1.{same}
use Rattle.independence.specs.Test.{proving_says}

-- ---- an entry's operands

module _ (K : ℕ) (made : List Proposition) where
  -- A number's mark is what holds of its formula; one that has no mark spells false, in which no says-formula stands.
  pub mark_of : (s : Side) {marks : List Bool} (n : ℕ) → marks ≡ map (proving_says same K s) made
      → get_or marks n false ≡ proving_says same K s (among made n)
  unfolding proving_says
  mark_of s n e =
      ap (λ (r : List Bool). get_or r n false) e ∙ get_or-map (proving_says same K s) made n falsum

  -- what holds of an entry whose kind is known
  pub of_kind : (s : Side) {e x : Entry} → e ≡ x
      → proving_says same K s (proposition made x) ≡ proving_says same K s (proposition made e)
  of_kind s is = ap (λ (x : Entry). proving_says same K s (proposition made x)) (sym is)

  -- ---- operands

  -- Two operands, the left one's mark for side t and the right one's for side s: one stands in either.
  pub in_either : (t s : Side) (a b : ℕ) {lefts rights : List Bool} {m n : Bool}
      → lefts ≡ map (proving_says same K t) made → rights ≡ map (proving_says same K s) made
      → m ≡ get_or lefts a false → n ≡ get_or rights b false
      → m || n ≡ proving_says same K t (among made a) || proving_says same K s (among made b)
  in_either t s a b l r e f = ap₂ ◌||◌ (e ∙ mark_of t a l) (f ∙ mark_of s b r)

  -- The operands of an and, and of an or, keep the side.
  pub keeps_side : (s : Side) {a b : Formula} {e : Entry} → e ≡ And a b ⊎ e ≡ Or a b
      → proving_says same K s (among made a.0) || proving_says same K s (among made b.0)
      ≡ proving_says same K s (proposition made e)
  unfolding proving_says
  keeps_side s = ⊎_elim (of_kind s) (of_kind s)

  -- What L says, on the proving side: it counts itself, where K speaks for L, or one stands in what is said.
  pub in_said : (L a : ℕ) {marks : List Bool} {m n : Bool} → marks ≡ map (proving_says same K proving) made
      → m ≡ same K L → n ≡ get_or marks a false → m || n ≡ same K L || proving_says same K proving (among made a)
  in_said L a is e f = ap₂ ◌||◌ e (f ∙ mark_of proving a is)

  -- ---- no operand

  -- In an atom, in false and in what is ill-formed no says-formula stands.
  pub none_inside : (s : Side) (e : Entry)
      → ((f g : Formula) → e ≡ Implies f g → ⊥) → ((f g : Formula) → e ≡ And f g → ⊥)
      → ((f g : Formula) → e ≡ Or f g → ⊥) → ((k : Principal) (f : Formula) → e ≡ Says k f → ⊥)
      → false ≡ proving_says same K s (proposition made e)
  unfolding proving_says
  none_inside s (Atom a) i n o h = refl
  none_inside s False i n o h = refl
  none_inside s (Implies f g) i n o h = absurd (i f g refl)
  none_inside s (And f g) i n o h = absurd (n f g refl)
  none_inside s (Or f g) i n o h = absurd (o f g refl)
  none_inside s (Says k f) i n o h = absurd (h k f refl)
  none_inside s IllFormed i n o h = refl
