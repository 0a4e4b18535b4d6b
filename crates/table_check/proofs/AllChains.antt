-- The search along all chains, by which test 5 answers where the index would be slow. Assumes nothing.
use Prim.Native.Nat.{ℕ, ◌+◌, ◌<◌, ◌≤◌}
use native.Mathlib.Decide.{ℕ_discrete}
use native.Mathlib.Omega.{arith}
use mathlib.Core.Bool.{Bool, true, false, true≢false}
use mathlib.Core.List.{List}
use mathlib.Core.Path.{◌≡◌, refl, sym, ap, ◌∙◌}
use lib.Dec.{ltb}
use lib.ListN.{length, get_or}
use borrow.Author.Tests.{ltb-true, ltb-false}
use Rattle.std.specs.Bool.{then_some}
use Rattle.basics.specs.Place.{Nowhere}
use Rattle.basics.specs.First.{first}
use Rattle.basics.proofs.First.{no_place}
use Rattle.table.specs.Tests.{repeated_entry}
use Rattle.table_check.specs.Index.{is_repeated}
use Rattle.table_check.specs.Chains.{NextFrom, FirstOfHead}
use Rattle.table_check.proofs.Scan.{untrue, same_parts, repeats, repeated_at, repeated_nowhere}

module _ (hs ss : List ℕ) where
  -- The heads of the entries before i are done: of the entries with such a head, `found` is the first that is repeated,
  -- if there is one.
  pub record Done (i found : ℕ) : Type 0 where
    pub within : found ≤ length hs
    pub repeated : found < length hs → is_repeated hs ss found ≡ true
    pub none_before : (j k : ℕ) → j < i → k < found → get_or hs k 0 ≡ get_or hs j 0 → is_repeated hs ss k ≡ false

  -- At first there is none.
  pub done_none : Done 0 (length hs)
  done_none =
      record {
        within = omega arith;
        repeated = λ l. absurd (omega arith);
        none_before = λ j k l. absurd (omega arith);
      }

  module _ (i found : ℕ) (d : Done i found) where
    -- The head of entry i is done, too, where none of its entries before `found` is repeated.
    head_done : ((k : ℕ) → k < found → get_or hs k 0 ≡ get_or hs i 0 → is_repeated hs ss k ≡ false) → Done (i + 1) found
    head_done none =
        record {
          within = d.within;
          repeated = d.repeated;
          none_before = λ j k l before is. one j k l before is (ℕ_discrete j i);
        }
      where
        one : (j k : ℕ) → j < i + 1 → k < found → get_or hs k 0 ≡ get_or hs j 0 → Dec (j ≡ i) → is_repeated hs ss k ≡ false
        one j k l before is (yes e) = none k before (is ∙ ap (λ n. get_or hs n 0) e)
        one j k l before is (no e) = d.none_before j k (omega (arith, e)) before is

    -- Entry i is the first with its head, and the search along the chain answered.
    pub done_chain : (r : ℕ) → FirstOfHead hs ss (get_or hs i 0) found r → Done (i + 1) r
    done_chain r new =
        record {
          within = omega (arith, new.within, d.within);
          repeated = λ l. found_one l (ℕ_discrete r found);
          none_before = λ j k l before is. one j k l before is (ℕ_discrete j i);
        }
      where
        found_one : r < length hs → Dec (r ≡ found) → is_repeated hs ss r ≡ true
        found_one l (yes e) = rw e (d.repeated (omega arith))
        found_one l (no e) = new.repeated (omega (arith, new.within, e))

        one : (j k : ℕ) → j < i + 1 → k < r → get_or hs k 0 ≡ get_or hs j 0 → Dec (j ≡ i) → is_repeated hs ss k ≡ false
        one j k l before is (yes e) = new.none_before k before (is ∙ ap (λ n. get_or hs n 0) e)
        one j k l before is (no e) = d.none_before j k (omega (arith, e)) (omega (arith, new.within)) is

    -- It is not: its head is done.
    pub done_before : (f : ℕ) → i < length hs → NextFrom hs (get_or hs i 0) 0 f → ¬ (f ≡ i) → Done (i + 1) found
    done_before f small next other =
        let past : ¬ (i < f) = λ l. next.none_between i (omega arith) l small refl in
        let before : f < i = omega (arith, past, other) in
        head_done (λ k l is. d.none_before f k before l (is ∙ sym (next.its (omega arith))))

    -- No other entry before `found` comes after it in its chain.
    pub done_last : (p : ℕ) → NextFrom hs (get_or hs i 0) (i + 1) p → found ≤ p → Done (i + 1) found
    done_last p next end = head_done (λ k l is. one k l is (ℕ_discrete k i))
      where
        one : (k : ℕ) → k < found → get_or hs k 0 ≡ get_or hs i 0 → Dec (k ≡ i) → is_repeated hs ss k ≡ false
        one k l is (yes e) =
            untrue (is_repeated hs ss k)
            (λ t.
            let (j, before, same) = repeats hs ss k t in
            true≢false (sym t ∙ d.none_before j k (omega arith) l (same_parts hs ss k j same).0))
        one k l is (no e) =
            let past : ¬ (i + 1 ≤ k) = λ later. next.none_between k later (omega arith) (omega (arith, d.within)) is in
            d.none_before k k (omega (arith, past, e)) l refl

    -- With all heads done, 5 has its answer.
    module _ (end : found ≤ i) where
      none : first (is_repeated hs ss) found ≡ Nowhere
      none = (no_place (is_repeated hs ss) found).1 (λ k l. d.none_before k k (omega arith) l refl)

      answer : (b : Bool) → ltb found (length hs) ≡ b → then_some b found ≡ repeated_entry hs ss
      answer true e = let l = ltb-true found (length hs) e in repeated_at hs ss found l none (d.repeated l)
      answer false e = repeated_nowhere hs ss found (omega (arith, ltb-false found (length hs) e, d.within)) none

      pub done_all : then_some (ltb found (length hs)) found ≡ repeated_entry hs ss
      done_all = answer (ltb found (length hs)) refl
