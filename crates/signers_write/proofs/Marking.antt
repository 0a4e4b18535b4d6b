-- Flags of the formulas that says lefts name (src/list.rt): word by word, and the signers by them. Assumes nothing.
use Prim.Native.Nat.{ℕ, ◌+◌, ◌<◌, ◌≤◌, min}
use native.Mathlib.Omega.{arith}
use native.Mathlib.Numerals.{add-one}
use mathlib.Core.Bool.{Bool, true, false}
use mathlib.Core.Path.{◌≡◌, sym, ap, ◌∙◌}
use mathlib.Core.List.{List, []}
use lib.ListN.{length, get_or, take, set, replicate}
use lib.Seq.{take_all, take-suc}
use borrow.Author.Tests.{ne_eqb}
use Rattle.basics.specs.Choice.{pick}
use Rattle.basics.specs.Limits.{most_formulas}
use Rattle.basics.specs.Word.{upper, lower}
use Rattle.marks.specs.Flagged.{flagged, set_all}
use Rattle.marks.proofs.Flagged.{set_all_append, set_all_one, set_all_none, set_all_has}
use Rattle.table.specs.Tests.{entries}
use Rattle.table.proofs.Entries.{length_entries}
use Rattle.steps.specs.Naming.{is_naming, named, named_numbers, is_says_left}
use Rattle.steps.proofs.Naming.{named_below, named_last}
use Rattle.signers.specs.Signers.{signers}
use Rattle.signers.proofs.Each.{alike_signers}
use Rattle.signers_write.specs.Arrays.{arrays_signers}

-- ---- one word

module _ (flags : List Bool) (w : ℕ) where
  pub says_left_marked : upper w ≡ 11
      → set flags (lower w) true ≡ set_all flags (pick (is_says_left (upper w)) (named w) [])
  unfolding is_naming
  says_left_marked e = rw e (sym (set_all_one flags (lower w)))

  pub others_not : ¬ (upper w ≡ 11) → flags ≡ set_all flags (pick (is_says_left (upper w)) (named w) [])
  others_not other =
      sym (set_all_none flags)
      ∙ ap (λ (t : Bool). set_all flags (pick t (named w) [])) (sym (ne_eqb (upper w) 11 other))

-- ---- all words

module _ (flags : List Bool) (ws : List ℕ) (i : ℕ) where
  -- the flags of what the words before a place name
  abbrev before : ℕ → List Bool
  before j = set_all flags (named_numbers is_says_left (take j ws))

  pub flags_next : {now next : List Bool} → now ≡ before i → i < length ws
      → next ≡ set_all now (pick (is_says_left (upper (get_or ws i 0))) (named (get_or ws i 0)) [])
      → next ≡ before (i + 1)
  flags_next h l is =
      let w : ℕ = get_or ws i 0 in
      is
      ∙ ap (λ (l : List Bool). set_all l (pick (is_says_left (upper w)) (named w) [])) h
      ∙ sym (set_all_append flags (named_numbers is_says_left (take i ws)) (pick (is_says_left (upper w)) (named w) []))
      ∙ ap (set_all flags) (sym (named_last is_says_left (take i ws) w))
      ∙ ap (λ (l : List ℕ). set_all flags (named_numbers is_says_left l)) (sym (take-suc ws i 0 l))
      ∙ ap before (sym (add-one i))

  pub flags_all : {now : List Bool} → now ≡ before i → length ws ≤ i
      → now ≡ set_all flags (named_numbers is_says_left ws)
  flags_all h l = h ∙ ap (λ (l : List ℕ). set_all flags (named_numbers is_says_left l)) (take_all i ws l)

-- With no word none is set.
pub flags_none : (flags : List Bool) → flags ≡ set_all flags (named_numbers is_says_left [])
unfolding named_numbers
flags_none flags = sym (set_all_none flags)

-- ---- the signers by flags

-- Flags for all formulas of the table, or for all that a word can name, are enough.
pub signers_by_flags : (hs ss ns ws : List ℕ) {flags marked : List Bool} → flags ≡ replicate (length flags) false
    → min (length hs) most_formulas ≤ length flags
    → marked ≡ set_all flags (named_numbers is_says_left ws)
    → signers (entries hs ss) ns (flagged marked) ≡ arrays_signers hs ss ns ws
signers_by_flags hs ss ns ws {flags} {marked} clear enough is =
    let all : List Bool = set_all (replicate (length flags) false) (named_numbers is_says_left ws) in
    ap (λ (l : List Bool). signers (entries hs ss) ns (flagged l))
    (is ∙ ap (λ (l : List Bool). set_all l (named_numbers is_says_left ws)) clear)
    ∙ alike_signers (entries hs ss) ns (flagged all) ns (named_numbers is_says_left ws)
    (λ n. (λ m. m, λ m. m))
    (λ n l.
    let (to, from) = set_all_has (length flags) (named_numbers is_says_left ws) n in (
      λ m. (to m).1,
      λ m.
          let few = named_below is_says_left ws n m in
          let within = length_entries hs ss in
          from (omega arith, m),
    ))
