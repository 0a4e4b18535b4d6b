-- What the writer of formulas asks for: the text of a number is made of those of its operands. Assumes nothing.
use Prim.Native.Nat.{ℕ, ◌≤◌, ◌<◌}
use mathlib.Core.Path.{◌≡◌, refl, sym, ap, ◌∙◌}
use mathlib.Core.Logic.{◌⊎◌, ⊎_elim}
use mathlib.Core.List.{List, []}
use lib.ListN.{take}
use Rattle.text.specs.Ascii.{ascii}
use Rattle.text.proofs.Places.{fill_then}
use Rattle.logic.specs.Proposition.{false}
use Rattle.table.specs.declared.entry.Atom as A
use Rattle.table.specs.declared.entry.Formula.{Formula}
use Rattle.table.specs.declared.entry.Principal.{Principal}
use Rattle.table.specs.declared.entry.Entry.{Entry}
use Rattle.table.specs.declared.entry.Entry.TheVariants.{Atom, False, Implies, And, Or, Says, IllFormed}
use Rattle.table.specs.Tests.{entry_at}
use Rattle.table.specs.Spelled.{proposition, spelled, spell}
use Rattle.table.proofs.Spelled.{made_before, among_lower, among_higher}
use Rattle.sentences.specs.Formula.{proposition_text}
use Rattle.formula_write.specs.Operand.{operand_text, left_text, word_text, right_text, in_brackets}
use Rattle.formula_write.proofs.Filled.{Filled, filled_as}

-- The text of a number is that of its entry.
pub filled_entry : (old : List ℕ) (p : ℕ) (es : List Entry) (n : ℕ) {e x : Entry} {out : List ℕ} {r : ℕ}
    → e ≡ entry_at es n → e ≡ x
    → Filled old p (proposition_text (proposition (spelled (take n es)) x)) out r
    → Filled old p (proposition_text (spell es n)) out r
filled_entry old p es n is kind f =
    filled_as old p
    (ap proposition_text (sym (made_before es n ∙ ap (proposition (spelled (take n es))) (sym is ∙ kind)))) f

-- The text of false is that of an entry that is false or ill-formed.
pub filled_false : (old : List ℕ) (p : ℕ) (es : List Entry) (n : ℕ) {e : Entry} {out : List ℕ} {r : ℕ}
    → e ≡ entry_at es n → (e ≡ False) ⊎ (e ≡ IllFormed) → Filled old p (proposition_text false) out r
    → Filled old p (proposition_text (spell es n)) out r
filled_false old p es n is kind f =
    ⊎_elim (λ k. filled_entry old p es n is k f) (λ k. filled_entry old p es n is k f) kind

-- A lower operand has the text of its number,
pub filled_lower : (old : List ℕ) (p : ℕ) (es : List Entry) (n m : ℕ) {out : List ℕ} {r : ℕ} → m < n
    → Filled old p (proposition_text (spell es m)) out r → Filled old p (operand_text es n m) out r
filled_lower old p es n m l f = filled_as old p (ap proposition_text (sym (among_lower es n m l))) f

-- and any other that of false.
pub filled_higher : (old : List ℕ) (p : ℕ) (es : List Entry) (n m : ℕ) {out : List ℕ} {r : ℕ} → n ≤ m
    → Filled old p (proposition_text false) out r → Filled old p (operand_text es n m) out r
filled_higher old p es n m l f = filled_as old p (ap proposition_text (sym (among_higher es n m l))) f

-- ---- compound entries

-- An entry that is of none of the compound kinds has none of the three parts,
no_part : (P : Entry → List ℕ) (e : Entry)
    → ((a b : Formula) → e ≡ Implies a b → ⊥) → ((a b : Formula) → e ≡ And a b → ⊥)
    → ((a b : Formula) → e ≡ Or a b → ⊥) → ((k : Principal) (a : Formula) → e ≡ Says k a → ⊥)
    → ((a : A.Atom) → P (Atom a) ≡ []) → P False ≡ [] → P IllFormed ≡ [] → P e ≡ []
no_part P (Atom a) i n o s p q r = p a
no_part P False i n o s p q r = q
no_part P IllFormed i n o s p q r = r
no_part P (Implies a b) i n o s p q r = absurd (i a b refl)
no_part P (And a b) i n o s p q r = absurd (n a b refl)
no_part P (Or a b) i n o s p q r = absurd (o a b refl)
no_part P (Says k b) i n o s p q r = absurd (s k b refl)

module _ (es : List Entry) (n : ℕ) (e : Entry)
    (implies : (a b : Formula) → e ≡ Implies a b → ⊥) (and : (a b : Formula) → e ≡ And a b → ⊥)
    (or : (a b : Formula) → e ≡ Or a b → ⊥) (says : (k : Principal) (a : Formula) → e ≡ Says k a → ⊥) where
  pub no_left : left_text es n e ≡ []
  no_left = no_part (left_text es n) e implies and or says (λ a. refl) refl refl

  pub no_right : right_text es n e ≡ []
  no_right = no_part (right_text es n) e implies and or says (λ a. refl) refl refl

pub no_word : (e : Entry)
    → ((a b : Formula) → e ≡ Implies a b → ⊥) → ((a b : Formula) → e ≡ And a b → ⊥)
    → ((a b : Formula) → e ≡ Or a b → ⊥) → ((k : Principal) (a : Formula) → e ≡ Says k a → ⊥)
    → word_text e ≡ []
no_word e i n o s = no_part word_text e i n o s (λ a. refl) refl refl

-- and one that is of none of the other kinds has the text that they make.
compound_text : (es : List Entry) (n : ℕ) (e : Entry)
    → ((a : A.Atom) → e ≡ Atom a → ⊥) → (e ≡ False → ⊥) → (e ≡ IllFormed → ⊥)
    → in_brackets (left_text es n e) (word_text e) (right_text es n e)
    ≡ proposition_text (proposition (spelled (take n es)) e)
unfolding proposition_text
compound_text es n (Atom a) p q r = absurd (p a refl)
compound_text es n False p q r = absurd (q refl)
compound_text es n IllFormed p q r = absurd (r refl)
compound_text es n (Implies a b) p q r = refl
compound_text es n (And a b) p q r = refl
compound_text es n (Or a b) p q r = refl
compound_text es n (Says k b) p q r = refl

-- Five parts, one after the other, are the text of a number whose entry is compound.
pub filled_compound : (old : List ℕ) (p : ℕ) (es : List Entry) (n : ℕ) (e : Entry) {a b c d out : List ℕ}
    {f g h i r : ℕ}
    → e ≡ entry_at es n
    → ((x : A.Atom) → e ≡ Atom x → ⊥) → (e ≡ False → ⊥) → (e ≡ IllFormed → ⊥)
    → Filled old p (ascii "(") a f
    → Filled a f (left_text es n e) b g
    → Filled b g (word_text e) c h
    → Filled c h (right_text es n e) d i
    → Filled d i (ascii ")") out r
    → Filled old p (proposition_text (spell es n)) out r
filled_compound old p es n e is no_atom no_false well_formed first left word right last =
    filled_entry old p es n is refl
    (filled_as old p (compound_text es n e no_atom no_false well_formed)
    (fill_then old p (ascii "(") _ first
    (fill_then _ _ (left_text es n e) _ left
    (fill_then _ _ (word_text e) _ word (fill_then _ _ (right_text es n e) (ascii ")") right last)))))
