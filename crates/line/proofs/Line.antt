-- What is left of lent bytes where a line is written into them. Assumes nothing.
use Prim.Native.Nat.{ℕ, ◌≤◌}
use native.Mathlib.Omega.{arith}
use mathlib.Core.Bool.{Bool, true, false}
use mathlib.Core.Path.{◌≡◌, refl, sym, ap, subst, ◌∙◌}
use mathlib.Core.List.{List}
use lib.Dec.{leb}
use lib.ListN.{length, take}
use lib.Seq.{length-take-le}
use borrow.Author.Tests.{leb-true}
use Rattle.basics.specs.Choice.{pick}
use Rattle.basics.specs.Written.{written, written_at}
use Rattle.basics.proofs.Written.{written_length}
use Rattle.text.specs.Fill.{place_after}
use Rattle.text.proofs.Places.{fill_fits}
use Rattle.line.specs.Line.{line_after, line_count}

-- What a call owes that writes a line into lent bytes: the count, the bytes, and that so many bytes can be read from
-- their start.
abbrev pub Owed : List ℕ → List ℕ → ℕ → List ℕ → Type 0
Owed before line count after =
    (count ≡ line_count before line)
    × ((after ≡ line_after before line) × ((count ≤ length after) × (count ≡ length (take count after))))

-- A line without room isn't written,
pub owed_none : (before line : List ℕ) → leb (length line) (length before) ≡ false → Owed before line 0 before
owed_none before line e = (
  sym (ap (λ (t : Bool). pick t (length line) 0) e),
  (sym (ap (λ (t : Bool). pick t (written before line) before) e), (omega arith, refl)),
)

-- and one with room is filled in from the start.
pub owed_all : (before : List ℕ) {line text after : List ℕ} {count : ℕ} → line ≡ text → leb (length line) (length before) ≡ true
    → (after ≡ written_at before 0 text) × (count ≡ place_after before 0 text) → Owed before line count after
owed_all before {line} {text} {after} {count} same e f =
    let filled : after ≡ written before line = f.0 ∙ ap (written before) (sym same) in
    let fits = leb-true (length line) (length before) e in
    let whole : count ≡ length line = f.1 ∙ ap (place_after before 0) (sym same) ∙ fill_fits before 0 line (omega arith) ∙ omega arith in
    let long : length after ≡ length before = ap length filled ∙ written_length before line in
    let within : count ≤ length after = omega arith in (
      whole ∙ sym (ap (λ (t : Bool). pick t (length line) 0) e),
      (filled ∙ sym (ap (λ (t : Bool). pick t (written before line) before) e), (within, sym (length-take-le count after within))),
    )

-- What is owed for a line is owed for the same line.
pub owed_same : (before : List ℕ) {line text after : List ℕ} {count : ℕ} → line ≡ text → Owed before text count after
    → Owed before line count after
owed_same before {after = after} {count} same = subst (λ (l : List ℕ). Owed before l count after) (sym same)
