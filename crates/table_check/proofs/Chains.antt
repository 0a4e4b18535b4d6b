-- The chains of test 5: how they are made, and one entry's turn in the search along a chain. Assumes nothing.
use Prim.Native.Nat.{ℕ, ◌+◌, ◌<◌, ◌≤◌}
use native.Mathlib.Decide.{ℕ_discrete}
use native.Mathlib.Omega.{arith}
use mathlib.Core.Bool.{true, false}
use mathlib.Core.List.{List}
use mathlib.Core.Path.{◌≡◌, sym, ap, subst, ◌∙◌}
use lib.ListN.{length, get_or, set, replicate, length-set, length-replicate, get_or-replicate}
use lib.Seq.{get_or-set_same, get_or-set_other}
use Rattle.basics.specs.Limits.{most_formulas}
use Rattle.table.specs.Tests.{same}
use Rattle.table_check.specs.Index.{is_repeated}
use Rattle.table_check.specs.Chains.{NextFrom, Chained, Notes}
use Rattle.table_check.proofs.Scan.{untrue, repeats, earlier_same, same_parts, same_whole}
use Rattle.table_check.proofs.Trees.{zeros}

module _ (hs : List ℕ) where
  -- At first no entry is chained, and `first` has a number at each head that is no entry.
  pub chained_none :
      (n m : ℕ) → length hs ≤ most_formulas → ((i : ℕ) → i < length hs → get_or hs i 0 < n) → length hs ≤ m
      → Chained hs (replicate n most_formulas) (replicate m 0) (length hs)
  chained_none n m few low room =
      record {
        few = few;
        head_room = λ i l. omega (arith, low i l, length-replicate {A = ℕ} n most_formulas);
        next_room = omega (arith, length-replicate {A = ℕ} m 0);
        firsts = λ head l.
            rw (get_or-replicate n head most_formulas 0 (omega (arith, length-replicate {A = ℕ} n most_formulas)))
            record { from = few; low = omega arith; its = λ l. absurd (omega arith); none_between = λ k a b l. absurd (omega arith) };
        nexts = λ i a l. absurd (omega arith);
      }

  -- At first entry 0 stands at each second.
  pub notes_none : (n : ℕ) → most_formulas ≤ n → Notes hs (replicate n 0)
  notes_none n room =
      record { room = omega (arith, length-replicate {A = ℕ} n 0); entry = λ second some. omega (arith, zeros n second) }

module _ (hs ss : List ℕ) (head : ℕ) where
  -- At the second of entry k stands an entry before j that has this second and the head.
  pub record Noted (seen : List ℕ) (j k : ℕ) : Type 0 where
    pub before : get_or seen (get_or ss k 0) 0 < j
    pub its_head : get_or hs (get_or seen (get_or ss k 0) 0) 0 ≡ head
    pub its_second : get_or ss (get_or seen (get_or ss k 0) 0) 0 ≡ get_or ss k 0

  -- The search along the chain of the head has come to entry j, or to its end: all before j are noted, and of those
  -- none is repeated but `found`.
  pub record InChain (bound : ℕ) (seen : List ℕ) (found j : ℕ) : Type 0 where
    pub notes : Notes hs seen
    pub within : found ≤ bound
    pub has_head : found < bound → get_or hs found 0 ≡ head
    pub repeated : found < bound → is_repeated hs ss found ≡ true
    pub none_before : (k : ℕ) → k < found → k < j → get_or hs k 0 ≡ head → is_repeated hs ss k ≡ false
    pub its : j < length hs → get_or hs j 0 ≡ head
    pub noted : (k : ℕ) → k < length hs → k < j → get_or hs k 0 ≡ head → Noted seen j k

  module _ (bound : ℕ) (seen : List ℕ) (found j : ℕ) (s : InChain bound seen found j) where
    -- It finds entry j, where an earlier one is the same.
    pub chain_finds : (k : ℕ) → j < found → j < length hs → k < j → same hs ss j k ≡ true → InChain bound seen j j
    chain_finds k l inside before e =
        record {
          notes = s.notes;
          within = omega (arith, s.within);
          has_head = λ less. s.its inside;
          repeated = λ less. earlier_same hs ss j k before e;
          none_before = λ i less before is. s.none_before i (omega arith) before is;
          its = s.its;
          noted = s.noted;
        }

    -- Else it notes entry j and goes on.
    module _ (p : ℕ) (few : bound ≤ length hs) (small : j < length hs) (room : get_or ss j 0 < length seen) (next : NextFrom hs head (j + 1) p)
        (other : get_or seen (get_or ss j 0) 0 < j → same hs ss j (get_or seen (get_or ss j 0) 0) ≡ true → ⊥) where
      abbrev more : List ℕ
      more = set seen (get_or ss j 0) j

      -- Entry j is not repeated: else what stands at its second would be the same.
      not_repeated : is_repeated hs ss j ≡ false
      not_repeated =
          untrue (is_repeated hs ss j)
          (λ t.
          let (m, before, e) = repeats hs ss j t in
          let (heads, seconds) = same_parts hs ss j m e in
          let n = s.noted m (omega arith) before (sym heads ∙ s.its small) in
          other (subst (λ q. get_or seen q 0 < j) (sym seconds) n.before)
          (same_whole hs ss j (get_or seen (get_or ss j 0) 0)
          (s.its small ∙ sym (subst (λ q. get_or hs (get_or seen q 0) 0 ≡ head) (sym seconds) n.its_head))
          (sym (subst (λ q. get_or ss (get_or seen q 0) 0 ≡ q) (sym seconds) n.its_second))))

      -- No entry between j and the next has the head.
      up_to : (k : ℕ) → k < p → k < length hs → get_or hs k 0 ≡ head → k ≤ j
      up_to k l inside is =
          let past : ¬ (j + 1 ≤ k) = λ later. next.none_between k later l inside is in
          omega (arith, past)

      notes_more : (second : ℕ) → 0 < length hs → Dec (second ≡ get_or ss j 0) → get_or more second 0 < length hs
      notes_more second some (yes e) = rw (e, get_or-set_same seen (get_or ss j 0) j 0 room) small
      notes_more second some (no e) = rw (get_or-set_other seen (get_or ss j 0) second j 0 e) (s.notes.entry second some)

      none_more : (k : ℕ) → k < found → k ≤ j → get_or hs k 0 ≡ head → Dec (k ≡ j) → is_repeated hs ss k ≡ false
      none_more k l most is (yes e) = rw e not_repeated
      none_more k l most is (no e) = s.none_before k l (omega arith) is

      noted_more : (k : ℕ) → k < length hs → k ≤ j → get_or hs k 0 ≡ head → Dec (k ≡ j) → Dec (get_or ss k 0 ≡ get_or ss j 0) → Noted more p k
      noted_more k l most is d (yes e) =
          let at = ap (λ q. get_or more q 0) e ∙ get_or-set_same seen (get_or ss j 0) j 0 room in
          record {
            before = omega (arith, at, next.from);
            its_head = ap (λ q. get_or hs q 0) at ∙ s.its small;
            its_second = ap (λ q. get_or ss q 0) at ∙ sym e;
          }
      noted_more k l most is (yes d) (no e) = absurd (e (ap (λ q. get_or ss q 0) d))
      noted_more k l most is (no d) (no e) =
          let at = get_or-set_other seen (get_or ss j 0) (get_or ss k 0) j 0 e in
          let old = s.noted k l (omega arith) is in
          record {
            before = omega (arith, at, old.before, next.from);
            its_head = ap (λ q. get_or hs q 0) at ∙ old.its_head;
            its_second = ap (λ q. get_or ss q 0) at ∙ old.its_second;
          }

      pub chain_goes_on : InChain bound more found p
      chain_goes_on =
          record {
            notes =
                record {
                  room = omega (arith, s.notes.room, length-set seen (get_or ss j 0) j);
                  entry = λ second some. notes_more second some (ℕ_discrete second (get_or ss j 0));
                };
            within = s.within;
            has_head = s.has_head;
            repeated = s.repeated;
            none_before = λ k l before is. none_more k l (up_to k before (omega (arith, s.within)) is) is (ℕ_discrete k j);
            its = next.its;
            noted = λ k l before is. noted_more k l (up_to k before l is) is (ℕ_discrete k j) (ℕ_discrete (get_or ss k 0) (get_or ss j 0));
          }
