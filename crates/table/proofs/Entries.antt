-- A table of two arrays, entry by entry, and an entry's words (specs/Laws.antt, `EntryOfWords` and `WordsOfEntry`).
-- Assumes nothing.
use Prim.Native.Nat.{ℕ, zero, suc, ◌<◌, ◌≤◌, min}
use native.Mathlib.Omega.{arith}
use mathlib.Core.Path.{◌≡◌, refl, sym, ap, ap₂, ◌∙◌}
use mathlib.Core.List.{List, [], ◌∷◌}
use lib.ListN.{length, get_or, get_or-eq_default}
use lib.Dec.{eqb}
use borrow.Author.Tests.{eqb-true}
use Rattle.basics.specs.Choice.{both}
use Rattle.basics.specs.Limits.{most_formulas, most_atoms, most_principals}
use Rattle.basics.specs.Word.{radix, word, upper, lower}
use Rattle.basics.proofs.Words.{word_of_both, both_of_word, lowers_are}
use Rattle.basics.proofs.Choice.{both_true, pick_cases}
use Rattle.table.specs.declared.entry.Entry.{Entry}
use Rattle.table.specs.declared.entry.Entry.TheVariants.{Atom, False, Implies, And, Or, Says, IllFormed}
use Rattle.table.specs.Entry.{kinds, entry, head_of, second_of}
use Rattle.table.specs.Tests.{entries, entry_at}
use Rattle.table.specs.Laws.{FirstFits, EntryOfWords, WordsOfEntry}

-- ---- the entries of two arrays

-- There are as many as both arrays have.
pub length_entries : (hs ss : List ℕ) → length (entries hs ss) ≡ min (length hs) (length ss)
unfolding entries
length_entries [] ss = omega arith
length_entries (h ∷ hs) [] = omega arith
length_entries (h ∷ hs) (s ∷ ss) = omega (arith, length_entries hs ss)

-- Arrays of one length F have F entries.
pub length_entries_equal : (hs ss : List ℕ) → length hs ≡ length ss → length (entries hs ss) ≡ length hs
length_entries_equal hs ss e = omega (arith, length_entries hs ss)

-- Entry n is made of the two words at n.
pub entry_at_lem : (hs ss : List ℕ) (n : ℕ) → n < length hs → n < length ss → entry_at (entries hs ss) n ≡ entry (get_or hs n 0) (get_or ss n 0)
unfolding entries
entry_at_lem [] ss n l m = absurd (omega arith)
entry_at_lem (h ∷ hs) [] n l m = absurd (omega arith)
entry_at_lem (h ∷ hs) (s ∷ ss) zero l m = refl
entry_at_lem (h ∷ hs) (s ∷ ss) (suc n) l m = entry_at_lem hs ss n (omega arith) (omega arith)

-- Where either array ends, the table does.
pub no_entry : (hs ss : List ℕ) (n : ℕ) → min (length hs) (length ss) ≤ n → entry_at (entries hs ss) n ≡ IllFormed
no_entry hs ss n l = get_or-eq_default (entries hs ss) IllFormed (omega (arith, length_entries hs ss))

-- ---- an entry's head and second

-- an operand that fits beside a kind is taken apart from it
of_words : (kind one two : ℕ) → one < radix → entry (word kind one) two ≡ get_or (kinds one two) kind IllFormed
unfolding entry
of_words kind one two fits =
    let (u, l) = both_of_word kind one fits in
    ap₂ (λ (k o : ℕ). get_or (kinds o two) k IllFormed) u l

-- what fits an atom, a principal or a formula fits beside a kind
below_atoms : {n : ℕ} → n < most_atoms → n < radix
below_atoms l = omega (arith, lowers_are.0)

below_principals : {n : ℕ} → n < most_principals → n < radix
below_principals l = omega (arith, lowers_are.1)

below_formulas : {n : ℕ} → n < most_formulas → n < radix
below_formulas l = omega (arith, lowers_are.2)

pub entry_of_words : EntryOfWords
entry_of_words (Atom a) fits = of_words 0 a.0 0 (below_atoms fits)
entry_of_words False fits = of_words 1 0 0 (omega arith)
entry_of_words (Implies f g) fits = of_words 2 f.0 g.0 (below_formulas fits)
entry_of_words (And f g) fits = of_words 3 f.0 g.0 (below_formulas fits)
entry_of_words (Or f g) fits = of_words 4 f.0 g.0 (below_formulas fits)
entry_of_words (Says k f) fits = of_words 5 k.0 f.0 (below_principals fits)
entry_of_words IllFormed fits = absurd fits

-- The entry has these words, unless it is ill-formed.
abbrev Has : ℕ → ℕ → Entry → Type 0
Has head second e = ¬ (e ≡ IllFormed) → (head_of e ≡ head) × (second_of e ≡ second) × FirstFits e

-- what is ill-formed has any
ill_formed : {head second : ℕ} → Has head second IllFormed
ill_formed formed = absurd (formed refl)

-- kind by kind, in the order of `kinds`
has_by_kind : (kind one two : ℕ) → one < radix → Has (word kind one) two (get_or (kinds one two) kind IllFormed)
has_by_kind zero one two fits =
    pick_cases (Has (word 0 one) two) (eqb two 0)
    (λ t formed. (refl, sym (eqb-true two 0 t), fits))
    (λ t. ill_formed)
has_by_kind (suc zero) one two fits =
    pick_cases (Has (word 1 one) two) (both (eqb one 0) (eqb two 0))
    (λ t formed. let (p, q) = (both_true _ _).0 t in (ap (word 1) (sym (eqb-true one 0 p)), sym (eqb-true two 0 q), tt))
    (λ t. ill_formed)
has_by_kind (suc (suc zero)) one two fits = λ formed. (refl, refl, fits)
has_by_kind (suc (suc (suc zero))) one two fits = λ formed. (refl, refl, fits)
has_by_kind (suc (suc (suc (suc zero)))) one two fits = λ formed. (refl, refl, fits)
has_by_kind (suc (suc (suc (suc (suc zero))))) one two fits = λ formed. (refl, refl, fits)
has_by_kind (suc (suc (suc (suc (suc (suc kind)))))) one two fits = ill_formed

pub words_of_entry : WordsOfEntry
unfolding entry
words_of_entry head second formed =
    rw (word_of_both head) at (has_by_kind (upper head) (lower head) second (omega arith) formed)

-- So a well-formed entry fixes its head and second.
pub entry_fixes : (h s h' s' : ℕ) → entry h s ≡ entry h' s' → ¬ (entry h s ≡ IllFormed) → (h ≡ h') × (s ≡ s')
entry_fixes h s h' s' e formed =
    let (head, second, _) = words_of_entry h s formed in
    let (head', second', _) = words_of_entry h' s' (λ f. formed (e ∙ f)) in
    (sym head ∙ ap head_of e ∙ head', sym second ∙ ap second_of e ∙ second')
