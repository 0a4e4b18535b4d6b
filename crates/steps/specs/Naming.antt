-- What a word names. "A step word is code × 4,096 + the named formula's number; where the rule names none that part is
-- 0." (01) Proved in proofs/Naming.antt. Assumes nothing.
use Rattle.std.specs.Prelude.{ℕ, ◌+◌, Bool, true, false, ◌≡◌, ◌↔◌, List, [], ◌∷◌, ◌++◌, map, get_or, eqb}
use Rattle.std.proofs.Math.Option.{some, none}
use Rattle.basics.specs.Choice.{pick}
use Rattle.basics.specs.Membership.{◌∈◌}
use Rattle.basics.specs.Word.{word, upper, lower}
use Rattle.logic.specs.Proposition.{Proposition}
use Rattle.logic.specs.Judgment.{Judgment}
use Rattle.logic.specs.Principals.{Relation}
use Rattle.logic.specs.Derivation.{Derivation}
use Rattle.logic.specs.Named.{says_left_names}
use Rattle.table.specs.declared.entry.Entry.{Entry}
use Rattle.table.specs.Spelled.{spell, spell_all}
use Rattle.steps.specs.Obligation.{Obligation}
use Rattle.steps.specs.Step.{rules, unknown}
use Rattle.steps.specs.Runs.{Closes}
use Rattle.steps.specs.Trace as Trace
use Rattle.steps.specs.Trace.{Line, lines, trace}

-- which rules name a formula, in the order of the codes; what is no rule names none
abbrev pub namings : List Bool
namings =
    true ∷ false ∷ false ∷ true ∷ true ∷ false ∷ true ∷ false ∷ false ∷ true ∷ false ∷ true ∷ []

unfoldable pub is_naming : ℕ → Bool
is_naming code = get_or namings code false

-- These are the rules that the machine's table has as naming one.
abbrev pub NamingIsNamed : Type 0
NamingIsNamed =
    (speaks : ℕ → ℕ → Bool) (es : List Entry) (code n : ℕ)
    → Trace.named_by es (get_or (rules speaks es) code unknown) n ≡ pick (is_naming code) (some (spell es n)) none

-- the number that a word names, where its rule names a formula
abbrev pub named : ℕ → List ℕ
named w = pick (is_naming (upper w)) (lower w ∷ []) []

-- the numbers that the words name whose codes a test picks, in the order of the words
unfoldable pub named_numbers : (ℕ → Bool) → List ℕ → List ℕ
named_numbers picks [] = []
named_numbers picks (w ∷ ws) = pick (picks (upper w)) (named w) [] ++ named_numbers picks ws

-- 11 | says left
abbrev pub is_says_left : ℕ → Bool
is_says_left code = eqb code 11

-- Of each code's word that has 20 more than the code as its part: 01's "named hypothesis" column; what says left names.
abbrev pub NamingSamples : Type 0
NamingSamples =
    let ws : List ℕ =
    map (λ code. word code (20 + code)) (0 ∷ 1 ∷ 2 ∷ 3 ∷ 4 ∷ 5 ∷ 6 ∷ 7 ∷ 8 ∷ 9 ∷ 10 ∷ 11 ∷ 12 ∷ []) in
    (named_numbers (λ code. true) ws ≡ 20 ∷ 23 ∷ 24 ∷ 26 ∷ 29 ∷ 31 ∷ [])
    × (named_numbers is_says_left ws ≡ 31 ∷ [])

-- ---- on a trace, and on a derivation

-- Of these lines one with a code that a test picks names A.
pub record Names (picks : ℕ → Bool) (ls : List Line) (A : Proposition) : Type 0 where
  pub line : Line
  pub stands : line ∈ ls
  pub picked : picks line.code ≡ true
  pub names : line.named ≡ some A

-- On a run that closes, the lines name what the words' numbers spell.
abbrev pub NamedOnTrace : (ℕ → ℕ → Bool) → Type 0
NamedOnTrace speaks =
    (picks : ℕ → Bool) (limit : ℕ) (es : List Entry) (os : List Obligation) (ws : List ℕ)
    → Closes speaks limit es os ws → (A : Proposition)
    → Names picks (trace speaks limit es ws os) A ↔ A ∈ spell_all es (named_numbers picks ws)

-- The says lefts of a derivation name what its lines with code 11 name.
abbrev pub SaysLeftLines : Relation → Type 0
SaysLeftLines R =
    (Γ : List Proposition) (γ : Judgment) (D : Derivation R Γ γ) (A : Proposition)
    → Names is_says_left (lines D) A ↔ A ∈ says_left_names D
