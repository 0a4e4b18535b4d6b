-- What a word names (specs/Naming.antt). In order: which rules name a formula; who is among the named; on a trace, line
-- by line; on a derivation, rule by rule. Assumes nothing.
use Prim.Native.Nat.{ℕ, zero, suc, ◌<◌}
use native.Mathlib.Omega.{arith}
use mathlib.Core.Bool.{Bool, true, false, true≢false}
use mathlib.Core.Path.{◌≡◌, refl, sym, ap, ◌∙◌}
use mathlib.Core.Logic.{◌⊎◌, inl, inr, ⊎_elim}
use mathlib.Core.Option.{some, none}
use mathlib.Core.List.Memᴰ
use mathlib.Core.List.{List, [], ◌∷◌, ◌++◌, append-nil, append_assoc}
use lib.ListN.{length, get_or, get_or-map}
use Rattle.basics.specs.Choice.{pick}
use Rattle.basics.specs.Membership.{◌∈◌}
use Rattle.basics.specs.Limits.{most_formulas}
use Rattle.basics.specs.Word.{upper, lower}
use Rattle.basics.proofs.Membership.{first, member_at, place_of, at_place, word_place}
use Rattle.logic.specs.Proposition.{Proposition, ◌says◌}
use Rattle.logic.specs.Judgment.{Judgment}
use Rattle.logic.specs.Principals.{Relation}
use Rattle.logic.specs.Derivation.{Derivation, init, affirm, implies_right, implies_left, false_left, and_right, and_left, or_right_first, or_right_second, or_left, says_right, says_left}
use Rattle.logic.specs.Named.{says_left_names}
use Rattle.table.specs.Spelled.{spell}
use Rattle.steps.specs.Step.{Rule, rules, unknown}
use Rattle.steps.specs.Trace as Trace
use Rattle.steps.specs.Trace.{Line, line, lines, line_of, trace}
use Rattle.steps.specs.Naming.{namings, is_naming, NamingIsNamed, named, named_numbers, is_says_left, NamingSamples, Names, NamedOnTrace, SaysLeftLines}
use Rattle.steps.proofs.Trace.{line_per_word}
use Rattle.steps.proofs.ByWord.{lines_by_word}

-- ---- which rules name a formula

pub naming_is_named : NamingIsNamed
unfolding is_naming
naming_is_named speaks es code n =
    sym (get_or-map (λ (r : Rule). Trace.named_by es r n) (rules speaks es) code unknown)
    ∙ get_or-map (λ (b : Bool). pick b (some (spell es n)) none) namings code false

pub naming_samples : NamingSamples
unfolding named_numbers is_naming
naming_samples = (refl, refl)

-- ---- who is among the named

-- A word whose code is picked and names a formula, and the number that it names.
record Naming (picks : ℕ → Bool) (ws : List ℕ) (n : ℕ) : Type 0 where
  word : ℕ
  stands : word ∈ ws
  picked : picks (upper word) ≡ true
  naming : is_naming (upper word) ≡ true
  names : n ≡ lower word

module _ (picks : ℕ → Bool) where
  -- what one word adds
  adds : (w n : ℕ) → picks (upper w) ≡ true → is_naming (upper w) ≡ true → n ≡ lower w
      → n ∈ pick (picks (upper w)) (pick (is_naming (upper w)) (lower w ∷ []) []) []
  adds w n t u e = rw (t, u) (Memᴰ.head e)

  added_by : (w n : ℕ) (b c : Bool) → n ∈ pick b (pick c (lower w ∷ []) []) []
      → (b ≡ true) × (c ≡ true) × (n ≡ lower w)
  added_by w n true true m = (refl, refl, Memᴰ.eq_of_singleton m)
  added_by w n true false m = absurd (Memᴰ.not-nil m)
  added_by w n false c m = absurd (Memᴰ.not-nil m)

  to_named : (w : ℕ) {ws : List ℕ} (n : ℕ) → w ∈ ws → picks (upper w) ≡ true → is_naming (upper w) ≡ true → n ≡ lower w
      → n ∈ named_numbers picks ws
  unfolding named_numbers
  to_named w n (Memᴰ.head {x = x} {xs = xs} is) t u e =
      Memᴰ.append_left (named_numbers picks xs)
      (adds x n (ap (λ (v : ℕ). picks (upper v)) (sym is) ∙ t) (ap (λ (v : ℕ). is_naming (upper v)) (sym is) ∙ u)
      (e ∙ ap lower is))
  to_named w n (Memᴰ.tail {x = x} {xs = xs} m) t u e =
      Memᴰ.append_right (pick (picks (upper x)) (pick (is_naming (upper x)) (lower x ∷ []) []) [])
      (to_named w n m t u e)

  of_named : (ws : List ℕ) (n : ℕ) → n ∈ named_numbers picks ws → Naming picks ws n
  unfolding named_numbers
  of_named [] n m = absurd (Memᴰ.not-nil m)
  of_named (w ∷ ws) n m =
      ⊎_elim
      (λ i.
      let (t, u, e) = added_by w n (picks (upper w)) (is_naming (upper w)) i in
      record { word = w; stands = first; picked = t; naming = u; names = e })
      (λ i.
      let later = of_named ws n i in
      record {
        word = later.word;
        stands = Memᴰ.tail later.stands;
        picked = later.picked;
        naming = later.naming;
        names = later.names;
      })
      (Memᴰ.append_cases (pick (picks (upper w)) (pick (is_naming (upper w)) (lower w ∷ []) []) []) m)

-- A word can name no more formulas than a table can have.
pub named_below : (picks : ℕ → Bool) (ws : List ℕ) (n : ℕ) → n ∈ named_numbers picks ws → n < most_formulas
named_below picks ws n m = let e = (of_named picks ws n m).names in omega arith

-- One word more at the end.
module _ (picks : ℕ → Bool) where
  abbrev by_word : ℕ → List ℕ
  by_word w = pick (picks (upper w)) (named w) []

  pub named_last : (ws : List ℕ) (w : ℕ) → named_numbers picks (ws ++ (w ∷ [])) ≡ named_numbers picks ws ++ by_word w
  unfolding named_numbers
  named_last [] w = append-nil (by_word w)
  named_last (a ∷ ws) w =
      ap (λ (l : List ℕ). by_word a ++ l) (named_last ws w)
      ∙ sym (append_assoc (by_word a) (named_numbers picks ws) (by_word w))

-- ---- on a trace

-- what a rule names by a number, where it names a formula
spelled_by : (b : Bool) (B A : Proposition) → pick b (some B) none ≡ some A → (b ≡ true) × (B ≡ A)
spelled_by true B A e = (refl, cc)
spelled_by false B A e = absurd (true≢false cc)

pub named_on_trace : (speaks : ℕ → ℕ → Bool) → NamedOnTrace speaks
named_on_trace speaks picks limit es os ws closes A = (
  λ named.
      let (i, l, at) = place_of named.stands in
      let few = line_per_word speaks limit es os ws closes in
      let below : i < length ws = omega arith in
      let (o, rest, left, is) = lines_by_word speaks limit es os ws closes i below in
      let w : ℕ = get_or ws i 0 in
      let same : named.line ≡ line_of speaks es w o = let e = sym at ∙ is in cc in
      let (naming, spells) = spelled_by (is_naming (upper w)) (spell es (lower w)) A
      (sym (naming_is_named speaks es (upper w) (lower w)) ∙ ap (λ (l : Line). l.named) (sym same) ∙ named.names) in
      let picked = ap (λ (l : Line). picks l.code) (sym same) ∙ named.picked in
      let among = to_named picks w (lower w) (member_at ws i below) picked naming refl in
      Memᴰ.cast (sym spells) (Memᴰ.map (spell es) among),
  λ m.
      let (n, among, spells) = Memᴰ.of_map (spell es) (named_numbers picks ws) m in
      let by = of_named picks ws n among in
      let (i, l, at) = word_place by.stands in
      let (o, rest, left, is) = lines_by_word speaks limit es os ws closes i l in
      let w : ℕ = get_or ws i 0 in
      let naming = ap (λ (v : ℕ). is_naming (upper v)) at ∙ by.naming in
      let number : n ≡ lower w = by.names ∙ ap lower (sym at) in
      record {
        line = line_of speaks es w o;
        stands = at_place (trace speaks limit es ws os) i is;
        picked = ap (λ (v : ℕ). picks (upper v)) at ∙ by.picked;
        names =
            naming_is_named speaks es (upper w) (lower w)
            ∙ ap (λ (b : Bool). pick b (some (spell es (lower w))) none) naming
            ∙ ap some (ap (spell es) (sym number) ∙ spells);
      },
)

-- ---- on a derivation

module _ {A : Proposition} where
  names_first : {l : Line} {ls : List Line} → is_says_left l.code ≡ true → l.named ≡ some A
      → Names is_says_left (l ∷ ls) A
  names_first {l} t e = record { line = l; stands = first; picked = t; names = e }

  names_more : {ls more : List Line} → ((l : Line) → l ∈ ls → l ∈ more) → Names is_says_left ls A
      → Names is_says_left more A
  names_more all n = record {
    line = n.line;
    stands = all n.line n.stands;
    picked = n.picked;
    names = n.names;
  }

  -- The first line names it, or a later one does.
  names_or : {l : Line} {ls : List Line} → Names is_says_left (l ∷ ls) A
      → ((is_says_left l.code ≡ true) × (l.named ≡ some A)) ⊎ Names is_says_left ls A
  names_or n =
      ⊎_elim
      (λ e.
      inl (ap (λ (k : Line). is_says_left k.code) (sym e) ∙ n.picked, ap (λ (k : Line). k.named) (sym e) ∙ n.names))
      (λ m. inr (record { line = n.line; stands = m; picked = n.picked; names = n.names }))
      (Memᴰ.cases_cons n.stands)

  -- A line of another rule adds none.
  other_rule : (l : Line) {ls : List Line} → is_says_left l.code ≡ false → Names is_says_left (l ∷ ls) A
      → Names is_says_left ls A
  other_rule l t n = ⊎_elim (λ (u, _). absurd (true≢false (sym u ∙ t))) (λ m. m) (names_or n)

  -- Of two lists one names it.
  names_either : (ls more : List Line) → Names is_says_left (ls ++ more) A
      → Names is_says_left ls A ⊎ Names is_says_left more A
  names_either ls more n =
      ⊎_elim
      (λ m. inl (record { line = n.line; stands = m; picked = n.picked; names = n.names }))
      (λ m. inr (record { line = n.line; stands = m; picked = n.picked; names = n.names }))
      (Memᴰ.append_cases ls n.stands)

  no_line : ¬ Names is_says_left [] A
  no_line n = Memᴰ.not-nil n.stands

  later : (l : Line) {ls : List Line} → Names is_says_left ls A → Names is_says_left (l ∷ ls) A
  later l n = names_more (λ k. Memᴰ.tail) n

-- Of two derivations, one after the other.
module _ {A : Proposition} (ls ms : List Line) (As Bs : List Proposition) where
  to_either : (Names is_says_left ls A → A ∈ As) → (Names is_says_left ms A → A ∈ Bs)
      → Names is_says_left (ls ++ ms) A → A ∈ As ++ Bs
  to_either left right n =
      ⊎_elim (λ i. Memᴰ.append_left Bs (left i)) (λ i. Memᴰ.append_right As (right i)) (names_either ls ms n)

  of_either : (A ∈ As → Names is_says_left ls A) → (A ∈ Bs → Names is_says_left ms A)
      → A ∈ As ++ Bs → Names is_says_left (ls ++ ms) A
  of_either left right i =
      ⊎_elim (λ j. names_more (λ l. Memᴰ.append_left ms) (left j))
      (λ j. names_more (λ l. Memᴰ.append_right ls) (right j))
      (Memᴰ.append_cases As i)

module _ {R : Relation} {A : Proposition} where
  to_names : {Γ : List Proposition} {γ : Judgment} (D : Derivation R Γ γ) → Names is_says_left (lines D) A
      → A ∈ says_left_names D
  to_names (init m) n = absurd (no_line (other_rule _ refl n))
  to_names (affirm D) n = to_names D (other_rule _ refl n)
  to_names (implies_right D) n = to_names D (other_rule _ refl n)
  to_names (implies_left m D E) n = to_either _ _ _ _ (to_names D) (to_names E) (other_rule _ refl n)
  to_names (false_left m) n = absurd (no_line (other_rule _ refl n))
  to_names (and_right D E) n = to_either _ _ _ _ (to_names D) (to_names E) (other_rule _ refl n)
  to_names (and_left m D) n = to_names D (other_rule _ refl n)
  to_names (or_right_first D) n = to_names D (other_rule _ refl n)
  to_names (or_right_second D) n = to_names D (other_rule _ refl n)
  to_names (or_left m D E) n = to_either _ _ _ _ (to_names D) (to_names E) (other_rule _ refl n)
  to_names (says_right D) n = to_names D (other_rule _ refl n)
  to_names (says_left {K = K} {A = B} m r D) n =
      ⊎_elim (λ (t, e). let same : A ≡ K says B = cc in Memᴰ.head same)
      (λ i. Memᴰ.tail (to_names D i))
      (names_or n)

  of_names : {Γ : List Proposition} {γ : Judgment} (D : Derivation R Γ γ) → A ∈ says_left_names D
      → Names is_says_left (lines D) A
  of_names (init m) i = absurd (Memᴰ.not-nil i)
  of_names (affirm D) i = later _ (of_names D i)
  of_names (implies_right D) i = later _ (of_names D i)
  of_names (implies_left m D E) i = later _ (of_either _ _ _ _ (of_names D) (of_names E) i)
  of_names (false_left m) i = absurd (Memᴰ.not-nil i)
  of_names (and_right D E) i = later _ (of_either _ _ _ _ (of_names D) (of_names E) i)
  of_names (and_left m D) i = later _ (of_names D i)
  of_names (or_right_first D) i = later _ (of_names D i)
  of_names (or_right_second D) i = later _ (of_names D i)
  of_names (or_left m D E) i = later _ (of_either _ _ _ _ (of_names D) (of_names E) i)
  of_names (says_right D) i = later _ (of_names D i)
  of_names (says_left m r D) i =
      ⊎_elim (λ e. names_first refl (ap some (sym e))) (λ j. later _ (of_names D j)) (Memᴰ.cases_cons i)

pub says_left_lines : (R : Relation) → SaysLeftLines R
says_left_lines R Γ γ D A = (to_names D, of_names D)
