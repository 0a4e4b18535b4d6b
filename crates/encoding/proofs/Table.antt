-- The table of formulas in order (specs/Table.antt, `TablesAre`). In order: one entry, and its words; the words of all;
-- what they spell; tests 4 and 5. Assumes nothing.
use Prim.Native.Nat.{ℕ, zero, suc, ◌<◌, ◌≤◌}
use native.Mathlib.Omega.{arith}
use mathlib.Core.Path.{◌≡◌, refl, sym, ap, ap₂, subst, ◌∙◌}
use mathlib.Core.List.Memᴰ
use mathlib.Core.List.{List, [], ◌∷◌, ◌++◌, map, append-nil}
use lib.ListN.{length, length-append, length-map, get_or-append}
use lib.Seq.{append_snoc, get_or_at}
use Rattle.basics.specs.Membership.{◌∈◌}
use Rattle.basics.specs.Limits.{most_formulas}
use Rattle.basics.proofs.Membership.{first, second}
use Rattle.logic.specs.Proposition.{Proposition, atom, false, ◌implies◌, ◌and◌, ◌or◌, ◌says◌}
use Rattle.table.specs.declared.entry.Formula.{Formula}
use Rattle.table.specs.declared.entry.Entry.{Entry}
use Rattle.table.specs.declared.entry.Entry.TheVariants.{Atom, False, Implies, And, Or, Says, IllFormed}
use Rattle.table.specs.Entry.{formula, entry, head_of, second_of}
use Rattle.table.specs.Tests.{entries, entry_at, well_formed_at}
use Rattle.table.specs.Spelled.{among, proposition, spelled_after, spelled, spell}
use Rattle.table.specs.Number.{position}
use Rattle.table.specs.Laws as Entries
use Rattle.table.specs.Laws.{FirstFits, Ordered, NoneRepeated}
use Rattle.table.proofs.Entries.{entry_of_words, entry_at_lem}
use Rattle.table.proofs.Ordered.{well_formed_is}
use Rattle.table.proofs.Spelled.{made_of_operands}
use Rattle.encoding.specs.Bounds.{NumberFits, operands}
use Rattle.encoding.specs.Subformulas.{TableOrder}
use Rattle.encoding.specs.Laid.{IsWord, AreWords}
use Rattle.encoding.specs.Table.{entry_of, table_of, heads_of, seconds_of, TablesAre}
use Rattle.encoding.proofs.Position.{member_of, among_in, in_position, position_in, at_position}
use Rattle.encoding.proofs.Subformulas.{in_order_operands}

-- ---- one entry

module _ (formulas : List Proposition) where
  -- Its operands are those of the proposition, by their positions,
  abbrev numbered_by : Proposition → Formula
  numbered_by C = formula (position formulas C)

  operands_are : (A : Proposition) → Entries.operands (entry_of formulas A) ≡ map numbered_by (operands A)
  operands_are (atom a) = refl
  operands_are false = refl
  operands_are (A implies B) = refl
  operands_are (A and B) = refl
  operands_are (A or B) = refl
  operands_are (K says A) = refl

  -- so what is below n are they.
  operands_below : (n : ℕ) (A : Proposition) → ((C : Proposition) → C ∈ operands A → position formulas C < n)
      → (f : Formula) → f ∈ Entries.operands (entry_of formulas A) → f.0 < n
  operands_below n A below f m =
      let (C, stands, is) = Memᴰ.of_map numbered_by (operands A) (member_of (operands_are A) m) in
      subst (λ (g : Formula). g.0 < n) is (below C stands)

  -- Its first operand fits beside its kind.
  first_fits : (A : Proposition) → NumberFits A
      → ((C : Proposition) → C ∈ operands A → position formulas C < most_formulas) → FirstFits (entry_of formulas A)
  first_fits (atom a) number below = omega arith
  first_fits false number below = tt
  first_fits (A implies B) number below = below A first
  first_fits (A and B) number below = below A first
  first_fits (A or B) number below = below A first
  first_fits (K says A) number below = omega arith

  -- It spells the proposition, where its operands are made.
  spells_it : (made : List Proposition) (A : Proposition)
      → ((C : Proposition) → C ∈ operands A → among made (position formulas C) ≡ C)
      → proposition made (entry_of formulas A) ≡ A
  spells_it made (atom a) are = refl
  spells_it made false are = refl
  spells_it made (A implies B) are = ap₂ ◌implies◌ (are A first) (are B second)
  spells_it made (A and B) are = ap₂ ◌and◌ (are A first) (are B second)
  spells_it made (A or B) are = ap₂ ◌or◌ (are A first) (are B second)
  spells_it made (K says A) are = ap (λ C. K says C) (are A first)

-- ---- the words of entries

-- What fits beside its kind has a head of 16 bits, and a second of 16 bits where its operands' numbers have no more.
head_word : (e : Entry) → FirstFits e → IsWord (head_of e)
head_word (Atom a) fits = omega arith
head_word False fits = omega arith
head_word (Implies f g) fits = omega arith
head_word (And f g) fits = omega arith
head_word (Or f g) fits = omega arith
head_word (Says k f) fits = omega arith
head_word IllFormed fits = absurd fits

second_word : (e : Entry) → ((f : Formula) → f ∈ Entries.operands e → IsWord f.0) → IsWord (second_of e)
second_word (Atom a) below = omega arith
second_word False below = omega arith
second_word (Implies f g) below = below g second
second_word (And f g) below = below g second
second_word (Or f g) below = below g second
second_word (Says k f) below = below f first
second_word IllFormed below = omega arith

-- The words of entries, taken apart, are the entries.
taken_apart : (es : List Entry) → ((e : Entry) → e ∈ es → FirstFits e) → entries (map head_of es) (map second_of es) ≡ es
unfolding entries
taken_apart [] fit = refl
taken_apart (e ∷ es) fit = ap₂ ◌∷◌ (entry_of_words e (fit e first)) (taken_apart es (λ d m. fit d (Memᴰ.tail m)))

-- ---- the table

-- There are as many heads and seconds as formulas.
pub length_heads : (formulas : List Proposition) → length (heads_of formulas) ≡ length formulas
length_heads formulas = length-map (table_of formulas) head_of ∙ length-map formulas (entry_of formulas)

pub length_seconds : (formulas : List Proposition) → length (seconds_of formulas) ≡ length formulas
length_seconds formulas = length-map (table_of formulas) second_of ∙ length-map formulas (entry_of formulas)

entry_of_lem : (formulas As : List Proposition) (i : ℕ) → i < length As
    → entry_at (map (entry_of formulas) As) i ≡ entry_of formulas (among As i)
entry_of_lem formulas [] i within = absurd (omega arith)
entry_of_lem formulas (A ∷ As) zero within = refl
entry_of_lem formulas (A ∷ As) (suc i) within = entry_of_lem formulas As i (omega arith)

module _ (formulas : List Proposition) (in_order : TableOrder formulas) (few : length formulas ≤ most_formulas)
    (numbered : (B : Proposition) → B ∈ formulas → NumberFits B) where
  abbrev es : List Entry
  es = table_of formulas

  -- an operand stands in the table
  operand_in : (A : Proposition) → A ∈ formulas
      → (C : Proposition) → C ∈ operands A → position formulas C < length formulas
  operand_in A stands C m = position_in (in_order_operands in_order A C stands m)

  fits : (A : Proposition) → A ∈ formulas → FirstFits (entry_of formulas A)
  fits A stands = first_fits formulas A (numbered A stands) (λ C m. omega (arith, operand_in A stands C m))

  -- what holds of the entry of each formula holds of each entry
  each_entry : (P : Entry → Type 0) → ((A : Proposition) → A ∈ formulas → P (entry_of formulas A))
      → (e : Entry) → e ∈ es → P e
  each_entry P all e m = let (A, stands, is) = Memᴰ.of_map (entry_of formulas) formulas m in subst P is (all A stands)

  -- what holds of the word of each entry holds of each word
  each_word : (word : Entry → ℕ) → ((A : Proposition) → A ∈ formulas → IsWord (word (entry_of formulas A)))
      → AreWords (map word es)
  each_word word all w m =
      let (e, stands, is) = Memᴰ.of_map word es m in
      subst IsWord is (each_entry (λ d. IsWord (word d)) all e stands)

  pub head_words : AreWords (heads_of formulas)
  head_words = each_word head_of (λ A stands. head_word (entry_of formulas A) (fits A stands))

  pub second_words : AreWords (seconds_of formulas)
  second_words =
      each_word second_of
      (λ A stands.
      let below = operands_below formulas (length formulas) A (operand_in A stands) in
      second_word (entry_of formulas A) (λ f m. omega (arith, below f m)))

  words_are : entries (heads_of formulas) (seconds_of formulas) ≡ es
  words_are = taken_apart es (each_entry FirstFits fits)

  -- where these are made, and those to come
  spells_after : (made As : List Proposition) → made ++ As ≡ formulas
      → spelled_after made (map (entry_of formulas) As) ≡ formulas
  unfolding spelled_after
  spells_after made [] all = sym (append-nil made) ∙ all
  spells_after made (A ∷ As) all =
      let n : ℕ = length made in
      let here : A ≡ among formulas n =
      sym (get_or_at made A As false n refl) ∙ ap (λ (l : List Proposition). among l n) all in
      let within : n < length formulas = omega (arith, length-append made (A ∷ As), ap length all) in
      let is = spells_it formulas made A
      (λ C m.
      let lower = in_order.operands_first n within C (subst (λ (B : Proposition). C ∈ operands B) here m) in
      sym (get_or-append made (A ∷ As) false (position formulas C) lower)
      ∙ ap (λ (l : List Proposition). among l (position formulas C)) all
      ∙ at_position (in_position formulas C (omega arith))) in
      ap (λ (B : Proposition). spelled_after (made ++ B ∷ []) (map (entry_of formulas) As)) is
      ∙ spells_after (made ++ A ∷ []) As (append_snoc made A As ∙ all)

  spells_all : spelled es ≡ formulas
  unfolding spelled
  spells_all = spells_after [] formulas refl

  well_formed : Ordered es
  well_formed i l =
      let within : i < length formulas = omega (arith, length-map formulas (entry_of formulas)) in
      let A = among formulas i in
      ap (well_formed_at i) (entry_of_lem formulas formulas i within)
      ∙ (well_formed_is i (entry_of formulas A)).1 (
        λ ill. subst FirstFits ill (fits A (among_in formulas i within)),
        operands_below formulas i A (in_order.operands_first i within),
      )

  -- equal words are those of equal entries, which spell the same
  unlike : NoneRepeated (heads_of formulas) (seconds_of formulas)
  unlike i j before l same_head same_second =
      let heads = heads_of formulas in
      let seconds = seconds_of formulas in
      let many-heads = length_heads formulas in
      let many-seconds = length_seconds formulas in
      let at_i = entry_at_lem heads seconds i (omega arith) (omega arith) in
      let at_j = entry_at_lem heads seconds j l (omega arith) in
      let by-words : entry_at (entries heads seconds) i ≡ entry_at (entries heads seconds) j =
      at_i ∙ ap₂ entry same_head same_second ∙ sym at_j in
      let same-entry : entry_at es i ≡ entry_at es j =
      subst (λ (l : List Entry). entry_at l i ≡ entry_at l j) words_are by-words in
      let same-spelt : spell es i ≡ spell es j =
      made_of_operands es well_formed i
      ∙ ap (proposition (spelled es)) same-entry
      ∙ sym (made_of_operands es well_formed j) in
      in_order.none_twice i j before (omega arith)
      (subst (λ (l : List Proposition). among l i ≡ among l j) spells_all same-spelt)

pub tables_are : TablesAre
tables_are formulas in_order few numbered = record {
  taken_apart = words_are formulas in_order few numbered;
  spells = spells_all formulas in_order few numbered;
  ordered = well_formed formulas in_order few numbered;
  none_repeated = unlike formulas in_order few numbered;
}
