-- What the functions ask for that measure lines: the length of each part, and of the parts together. Assumes nothing.
use Prim.Native.Nat.{ℕ, ◌+◌, ◌≤◌}
use native.Mathlib.Omega.{arith}
use mathlib.Core.Bool.{Bool, true, false}
use mathlib.Core.Path.{◌≡◌, sym, ap, ap₂, ◌∙◌}
use mathlib.Core.List.{List, ◌++◌}
use lib.ListN.{length, length-append, length-take, length-map}
use Rattle.basics.specs.Word.{upper, lower}
use Rattle.text.specs.Ascii.{ascii}
use Rattle.text.specs.Decimal.{decimal}
use Rattle.table.specs.declared.entry.Entry.{Entry}
use Rattle.table.specs.Spelled.{spelled, spell}
use Rattle.table.proofs.Spelled.{length_spelled}
use Rattle.steps.specs.declared.goal.Goal.{Goal}
use Rattle.steps.specs.Carried.{judgment}
use Rattle.steps.specs.Trace.{Line}
use Rattle.goals.specs.Kept.{line_at}
use Rattle.sentences.specs.Formula.{proposition_text, goal_text}
use Rattle.sentences.specs.Sentences.{rule_name, named_text, line_text}
use Rattle.formula_write.specs.Length.{capped, length_of, Holds}
use Rattle.steps.specs.Naming.{is_naming}
use Rattle.sentences_write.specs.NamedAt.{named_at}
use Rattle.formula_write.proofs.Lengths.{length_after}
use Rattle.sentences_write.proofs.Named.{named_text_lem}

-- A blank and the formula, where the rule names one,
pub length_named : (es : List Entry) (code n : ℕ) {naming : Bool} {f r : ℕ} → naming ≡ is_naming code → naming ≡ true
    → f ≡ length_of (spell es n) → r ≡ capped (1 + f) → r ≡ capped (length (named_at es code n))
unfolding ascii named_text length_of
length_named es code n e is f r =
    length_after (ascii " ") (proposition_text (spell es n)) f r
    ∙ ap (λ (l : List ℕ). capped (length l)) (named_text_lem es code n e is)

-- and nothing where it names none.
pub length_unnamed : (es : List Entry) (code n : ℕ) {naming : Bool} → naming ≡ is_naming code → naming ≡ false
    → 0 ≡ capped (length (named_at es code n))
unfolding named_text
length_unnamed es code n e is = ap (λ (l : List ℕ). capped (length l)) (named_text_lem es code n e is)

-- ---- a line

-- sums that stop growing: of two such, and of one and a number
sum_both : (x y : ℕ) {a b r : ℕ} → a ≡ capped x → b ≡ capped y → r ≡ capped (a + b) → r ≡ capped (x + y)
sum_both x y e f g = omega arith

sum_more : (x n : ℕ) {a r : ℕ} → a ≡ capped x → r ≡ capped (a + n) → r ≡ capped (x + n)
sum_more x n e f = omega arith

-- a line's length, by its parts: a blank, " for " and the line feed have 7 bytes
line_long : (i : ℕ) (l : Line)
    → length (line_text i l) ≡ length (decimal i) + 7 + length (rule_name l.code) + length (named_text l.named) +
    length (goal_text l.goal)
unfolding ascii line_text
line_long i l =
    let name = rule_name l.code in
    let named = named_text l.named in
    let goal = goal_text l.goal in
    let feed = ascii "\n" in
    let word = ascii " for " ++ (goal ++ feed) in
    omega (
      arith,
      length-append (decimal i) (ascii " " ++ (name ++ (named ++ word))),
      length-append name (named ++ word),
      length-append named word,
      length-append goal feed,
    )

-- The line of a step, by the parts that are summed one after the other.
pub length_line : (es : List Entry) (i w : ℕ) (g : Goal) {code n digits name named goal one two three r : ℕ}
    → code ≡ upper w → n ≡ lower w
    → digits ≡ length (decimal i) → one ≡ capped (digits + 7)
    → name ≡ length (rule_name code) → two ≡ capped (one + name)
    → named ≡ capped (length (named_at es code n)) → three ≡ capped (two + named)
    → goal ≡ capped (length (goal_text (judgment es g))) → r ≡ capped (three + goal)
    → r ≡ capped (length (line_text i (line_at es w g)))
length_line es i w g {one} of_code of_named e₁ s₁ e₂ s₂ e₃ s₃ e₄ s₄ =
    let number : ℕ = length (decimal i) + 7 in
    let name : ℕ = length (rule_name (upper w)) in
    let named : ℕ = length (named_at es (upper w) (lower w)) in
    let goal : ℕ = length (goal_text (judgment es g)) in
    let first = s₁ ∙ ap (λ (k : ℕ). capped (k + 7)) e₁ in
    let second = sum_more number name first
    (s₂ ∙ ap (λ (k : ℕ). capped (one + k)) (e₂ ∙ ap (λ (c : ℕ). length (rule_name c)) of_code)) in
    let third = sum_both (number + name) named second
    (e₃ ∙ ap₂ (λ (c m : ℕ). capped (length (named_at es c m))) of_code of_named) s₃ in
    sum_both (number + name + named) goal third e₄ s₄ ∙ ap (λ (k : ℕ). capped k) (sym (line_long i (line_at es w g)))

-- ---- the lengths at hand

-- Words that hold a table's lengths are no fewer.
pub holds_enough : (es : List Entry) (ls : List ℕ) → Holds es ls → length es ≤ length ls
holds_enough es ls h =
    omega (
      arith,
      ap (length {A = ℕ}) h,
      length-take (length es) ls,
      length-map (spelled es) length_of,
      length_spelled
          es,
    )
