-- The lines of a derivation determine its words, whichever list it is from. Assumes nothing.
use Prim.Native.Nat.{ℕ}
use mathlib.Core.Path.{◌≡◌, refl, sym, ap, ap₂, ◌∙◌}
use mathlib.Core.Option.{Option, none, some}
use mathlib.Core.List.{List, ◌∷◌, ◌++◌, map, map-append}
use Rattle.basics.specs.Word.{word}
use Rattle.logic.specs.Proposition.{Proposition}
use Rattle.logic.specs.Judgment.{Judgment}
use Rattle.logic.specs.Principals.{Relation}
use Rattle.logic.specs.Derivation.{Derivation, init, affirm, implies_right, implies_left, false_left, and_right, and_left, or_right_first, or_right_second, or_left, says_right, says_left}
use Rattle.steps.specs.Trace.{Line, lines}
use Rattle.steps.specs.Words.{words}

-- "A step word is code × 4,096 + the named formula's number; where the rule names none that part is 0." (01)
abbrev number_named : (Proposition → ℕ) → Option Proposition → ℕ
number_named number none = 0
number_named number (some A) = number A

abbrev word_of : (Proposition → ℕ) → Line → ℕ
word_of number l = word l.code (number_named number l.named)

-- the words of two premises, one after the other
joined : (number : Proposition → ℕ) (first second : List Line)
    → map (word_of number) first ++ map (word_of number) second ≡ map (word_of number) (first ++ second)
joined number first second = sym (map-append (word_of number) first second)

-- one word before them
cons : {w : ℕ} {xs ys : List ℕ} → xs ≡ ys → w ∷ xs ≡ w ∷ ys
cons {w} = ap (◌∷◌ w)

module _ {R : Relation} (number : Proposition → ℕ) where
  words_by_lines : {Γ : List Proposition} {γ : Judgment} (D : Derivation R Γ γ)
      → words number D ≡ map (word_of number) (lines D)
  words_by_lines (init m) = refl
  words_by_lines (affirm D) = cons (words_by_lines D)
  words_by_lines (implies_right D) = cons (words_by_lines D)
  words_by_lines (implies_left m D E) =
      cons (ap₂ ◌++◌ (words_by_lines D) (words_by_lines E) ∙ joined number (lines D) (lines E))
  words_by_lines (false_left m) = refl
  words_by_lines (and_right D E) =
      cons (ap₂ ◌++◌ (words_by_lines D) (words_by_lines E) ∙ joined number (lines D) (lines E))
  words_by_lines (and_left m D) = cons (words_by_lines D)
  words_by_lines (or_right_first D) = cons (words_by_lines D)
  words_by_lines (or_right_second D) = cons (words_by_lines D)
  words_by_lines (or_left m D E) =
      cons (ap₂ ◌++◌ (words_by_lines D) (words_by_lines E) ∙ joined number (lines D) (lines E))
  words_by_lines (says_right D) = cons (words_by_lines D)
  words_by_lines (says_left m o D) = cons (words_by_lines D)

module _ {R : Relation} {Γ Δ : List Proposition} {γ δ : Judgment} (D : Derivation R Γ γ) (E : Derivation R Δ δ)
    (same : lines E ≡ lines D) where
  -- Derivations with the same lines have the same words.
  pub words_of_same_lines : (number : Proposition → ℕ) → words number D ≡ words number E
  words_of_same_lines number =
      words_by_lines number D ∙ ap (map (word_of number)) (sym same) ∙ sym (words_by_lines number E)
