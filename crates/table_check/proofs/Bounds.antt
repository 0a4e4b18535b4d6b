-- An entry is well-formed at a number exactly when its operands are below their kind's bounds. Assumes nothing.
use Prim.Native.Nat.{ℕ, zero, suc, ◌<◌, ◌≤◌}
use native.Mathlib.Omega.{arith}
use mathlib.Core.Bool.{Bool, true, false, ◌&&◌}
use mathlib.Core.Path.{◌≡◌, refl, ◌∙◌}
use lib.ListN.{get_or}
use lib.Dec.{eqb, ltb}
use borrow.Author.Tests.{eqb-true, eqb-false, lt-ltb, le-ltb}
use Rattle.basics.specs.Choice.{both}
use Rattle.basics.specs.Word.{upper, lower}
use Rattle.basics.specs.Limits.{most_atoms, most_principals}
use Rattle.basics.proofs.Choice.{both_none, pick_cases}
use Rattle.table.specs.declared.entry.Entry.{Entry}
use Rattle.table.specs.declared.entry.Entry.TheVariants.{IllFormed}
use Rattle.table.specs.Entry.{kinds, entry}
use Rattle.table.specs.Tests.{well_formed_at}
use Rattle.table_check.specs.Bounds.{first_bound, second_bound}

some : (n : ℕ) → (n ≡ 0 → ⊥) → 1 ≤ n
some zero other = absurd (other refl)
some (suc n) other = omega arith

-- What is below 1 is 0.
below_one : (n : ℕ) (b : Bool) → eqb n 0 ≡ b → ltb n 1 ≡ b
below_one n true t = lt-ltb n 1 (omega (arith, eqb-true n 0 t))
below_one n false t = le-ltb n 1 (some n (eqb-false n 0 t))

-- kind by kind, in the order of `kinds`
by_kind_lem :
    (kind one two i : ℕ) → one < most_atoms
    → both (ltb one (first_bound kind i)) (ltb two (second_bound kind i)) ≡ well_formed_at i (get_or (kinds one two) kind IllFormed)
by_kind_lem zero one two i small =
    pick_cases (λ (e : Entry). both (ltb one most_atoms) (ltb two 1) ≡ well_formed_at i e) (eqb two 0)
    (λ t. rw (lt-ltb one most_atoms small, below_one two true t))
    (λ t. rw (lt-ltb one most_atoms small, below_one two false t))
by_kind_lem (suc zero) one two i small =
    rw (below_one one (eqb one 0) refl, below_one two (eqb two 0) refl)
    (pick_cases (λ (e : Entry). both (eqb one 0) (eqb two 0) ≡ well_formed_at i e) (both (eqb one 0) (eqb two 0)) (λ t. t) (λ t. t))
by_kind_lem (suc (suc zero)) one two i small = refl
by_kind_lem (suc (suc (suc zero))) one two i small = refl
by_kind_lem (suc (suc (suc (suc zero)))) one two i small = refl
by_kind_lem (suc (suc (suc (suc (suc zero))))) one two i small = rw (lt-ltb one most_principals small)
by_kind_lem (suc (suc (suc (suc (suc (suc kind)))))) one two i small =
    rw (le-ltb (suc (suc (suc (suc (suc (suc kind)))))) 2 (omega arith), le-ltb (suc (suc (suc (suc (suc (suc kind)))))) 6 (omega arith), le-ltb two 0 (omega arith))
    (both_none (ltb one (first_bound (suc (suc (suc (suc (suc (suc kind)))))) i)))

-- So the test of the operands is test 4 of the entry.
pub bounded :
    (i head second : ℕ)
    → both (ltb (lower head) (first_bound (upper head) i)) (ltb second (second_bound (upper head) i)) ≡ well_formed_at i (entry head second)
unfolding entry
bounded i head second = by_kind_lem (upper head) (lower head) second i (omega arith)

-- Both tests are made, whatever the first answers.
and_both : (a b : Bool) → (a && b) ≡ both a b
and_both true b = refl
and_both false b = refl

-- As the code asks it, of the kind, the first operand and the bounds that it has of the head and the number.
pub asked :
    (i head second : ℕ) {kind one f s : ℕ} → kind ≡ upper head → one ≡ lower head → f ≡ first_bound kind i → s ≡ second_bound kind i
    → (ltb one f && ltb second s) ≡ well_formed_at i (entry head second)
asked i head second {kind} {one} {f} {s} k o g h =
    and_both (ltb one f) (ltb second s) ∙ rw (g, h, k, o) (bounded i head second)
