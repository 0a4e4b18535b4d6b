-- The index of test 5: how it begins, and takes one entry more. Assumes nothing.
use Prim.Native.Nat.{ℕ, zero, suc, ◌+◌, ◌*◌, ◌<◌, ◌≤◌}
use native.Mathlib.Decide.{ℕ_discrete}
use native.Mathlib.Omega.{arith}
use mathlib.Core.List.{List}
use mathlib.Core.Path.{◌≡◌, refl, sym, ap, ◌∙◌}
use lib.ListN.{length, get_or, set, replicate, length-set}
use lib.Seq.{get_or-set_same, get_or-set_other}
use borrow.Author.Count.{below_more}
use Rattle.table_check.specs.Index.{Meets, here, further, Found, Indexed}

-- Of zeros, each is 0.
pub zeros : (n p : ℕ) → get_or (replicate {A = ℕ} n 0) p 0 ≡ 0
zeros zero p = refl
zeros (suc n) zero = refl
zeros (suc n) (suc p) = zeros n p

-- A slot that is empty stands on no path: what is written there leaves the others as they were,
pub kept : (slots : List ℕ) (e v p l : ℕ) → get_or slots e 0 ≡ 0 → get_or slots p 0 ≡ l + 1 → get_or (set slots e v) p 0 ≡ l + 1
kept slots e v p l empty holds = get_or-set_other slots e p v 0 (λ is. omega (arith, ap (λ q. get_or slots q 0) is)) ∙ holds

-- and every path too.
pub meets_kept :
    (roots : ℕ) (slots : List ℕ) (k e v : ℕ) → get_or slots e 0 ≡ 0 → {p x : ℕ}
    → Meets roots slots k p x → Meets roots (set slots e v) k p x
meets_kept roots slots k e v empty {p} {x} (here h) = here (kept slots e v p k empty h)
meets_kept roots slots k e v empty {p} {x} (further j h m) = further j (kept slots e v p j empty h) (meets_kept roots slots k e v empty m)

module _ (hs ss : List ℕ) (roots : ℕ) where
  -- Entry n is written into an empty slot e, to which its own path leads.
  module _ (slots : List ℕ) (n e : ℕ) (old : Indexed hs ss roots slots n) (small : n < length hs) (empty : get_or slots e 0 ≡ 0)
      (at : e < roots + 2 * n) where
    its : get_or (set slots e (n + 1)) e 0 ≡ n + 1
    its = get_or-set_same slots e (n + 1) 0 (omega (arith, old.room))

    known_more : (p : ℕ) → Dec (p ≡ e) → get_or (set slots e (n + 1)) p 0 ≤ n + 1
    known_more p (yes is) = rw is (omega (arith, its))
    known_more p (no isnt) = omega (arith, get_or-set_other slots e p (n + 1) 0 isnt, old.known p)

    rises_more : (p j : ℕ) → Dec (p ≡ e) → get_or (set slots e (n + 1)) p 0 ≡ j + 1 → p < roots + 2 * j
    rises_more p j (yes is) l = omega (arith, its, ap (λ q. get_or (set slots e (n + 1)) q 0) is)
    rises_more p j (no isnt) l = old.rises p j (sym (get_or-set_other slots e p (n + 1) 0 isnt) ∙ l)

    pub indexed_more : Found hs ss roots (set slots e (n + 1)) n n → Indexed hs ss roots (set slots e (n + 1)) (n + 1)
    indexed_more path =
        record {
          some_root = old.some_root;
          room = omega (arith, length-set slots e (n + 1));
          few = omega (arith, length-set slots e (n + 1));
          known = λ p. known_more p (ℕ_discrete p e);
          rises = λ p j. rises_more p j (ℕ_discrete p e);
          each =
              below_more (λ k. Found hs ss roots (set slots e (n + 1)) k k) n
              (λ k l. meets_kept roots slots k e (n + 1) empty (old.each k l))
              path;
        }
