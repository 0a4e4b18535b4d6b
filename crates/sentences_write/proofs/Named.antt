-- What the writer of lines asks for: the formula that a rule names, if any, and the parts of a line. Assumes nothing.
use Prim.Native.Nat.{ℕ}
use mathlib.Core.Bool.{Bool, true, false}
use mathlib.Core.Path.{◌≡◌, sym, ap, ap₂, ◌∙◌}
use mathlib.Core.Option.{some, none}
use mathlib.Core.List.{List, ◌++◌}
use Rattle.basics.specs.Choice.{pick}
use Rattle.basics.specs.Word.{upper, lower}
use Rattle.text.specs.Ascii.{ascii}
use Rattle.text.specs.Decimal.{decimal}
use Rattle.text.proofs.Places.{fill_then}
use Rattle.table.specs.declared.entry.Entry.{Entry}
use Rattle.table.specs.Spelled.{spell}
use Rattle.steps.specs.declared.goal.Goal.{Goal}
use Rattle.steps.specs.Carried.{judgment}
use Rattle.steps.specs.Figure1.{same}
use Rattle.steps.specs.Naming.{is_naming}
use Rattle.steps.proofs.Naming.{naming_is_named}
use Rattle.goals.specs.Kept.{line_at}
use Rattle.sentences.specs.Formula.{proposition_text, goal_text}
use Rattle.sentences.specs.Sentences.{rule_name, named_text, line_text}
use Rattle.sentences_write.specs.NamedAt.{named_at}
use Rattle.formula_write.proofs.Filled.{Filled, filled_as, filled_none}

-- the text of what a rule names, where it is known whether it names a formula
pub named_text_lem : (es : List Entry) (code n : ℕ) {naming b : Bool} → naming ≡ is_naming code → naming ≡ b
    → named_text (pick b (some (spell es n)) none) ≡ named_at es code n
named_text_lem es code n e is =
    ap (λ (t : Bool). named_text (pick t (some (spell es n)) none)) (sym is ∙ e)
    ∙ ap named_text (sym (naming_is_named same es code n))

-- A blank and the formula are written where the rule names one,
pub filled_named : (old : List ℕ) (p : ℕ) (es : List Entry) (code n : ℕ) {naming : Bool} {out : List ℕ} {r : ℕ}
    → naming ≡ is_naming code → naming ≡ true → Filled old p (ascii " " ++ proposition_text (spell es n)) out r
    → Filled old p (named_at es code n) out r
unfolding named_text
filled_named old p es code n e is f = filled_as old p (named_text_lem es code n e is) f

-- and nothing where it names none.
pub filled_unnamed : (old : List ℕ) (p : ℕ) (es : List Entry) (code n : ℕ) {naming : Bool}
    → naming ≡ is_naming code → naming ≡ false → Filled old p (named_at es code n) old p
unfolding named_text
filled_unnamed old p es code n e is = filled_as old p (named_text_lem es code n e is) (filled_none old p)

-- Seven parts, one after the other, are the line of a step.
pub filled_line : (old : List ℕ) (p : ℕ) (es : List Entry) (i w : ℕ) (g : Goal) {code n : ℕ}
    {o₁ o₂ o₃ o₄ o₅ o₆ out : List ℕ} {q₁ q₂ q₃ q₄ q₅ q₆ r : ℕ}
    → code ≡ upper w → n ≡ lower w
    → Filled old p (decimal i) o₁ q₁
    → Filled o₁ q₁ (ascii " ") o₂ q₂
    → Filled o₂ q₂ (rule_name code) o₃ q₃
    → Filled o₃ q₃ (named_at es code n) o₄ q₄
    → Filled o₄ q₄ (ascii " for ") o₅ q₅
    → Filled o₅ q₅ (goal_text (judgment es g)) o₆ q₆
    → Filled o₆ q₆ (ascii "\n") out r
    → Filled old p (line_text i (line_at es w g)) out r
unfolding line_text
filled_line old p es i w g {code} {n} of_code of_named number blank name named word goal feed =
    fill_then old p (decimal i) _ number
    (fill_then _ _ (ascii " ") _ blank
    (fill_then _ _ (rule_name (upper w)) _ (filled_as _ _ (ap rule_name of_code) name)
    (fill_then _ _ (named_at es (upper w) (lower w)) _
    (filled_as _ _ (ap₂ (λ (c m : ℕ). named_at es c m) of_code of_named) named)
    (fill_then _ _ (ascii " for ") _ word (fill_then _ _ (goal_text (judgment es g)) (ascii "\n") goal feed)))))
