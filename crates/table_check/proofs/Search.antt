-- The search through a tree, by which test 5 answers whether an entry stands earlier. Assumes nothing.
use Prim.Native.Nat.{ℕ, ◌+◌, ◌*◌, ◌/◌, ◌-◌, ◌<◌, ◌≤◌}
use native.Mathlib.Omega.{arith}
use mathlib.Core.Bool.{true, false, true≢false}
use mathlib.Core.List.{List}
use mathlib.Core.Path.{◌≡◌, refl, sym, subst, ◌∙◌}
use lib.ListN.{length, get_or, set}
use lib.Seq.{get_or-set_same}
use Rattle.table.specs.Tests.{same}
use Rattle.table_check.specs.Index.{onward, Meets, here, further, is_repeated, Found, Indexed}
use Rattle.table_check.proofs.Scan.{untrue, earlier_same, repeats}
use Rattle.table_check.proofs.Trees.{kept, indexed_more}

-- From an empty slot nothing is met.
meets_none : (roots : ℕ) (slots : List ℕ) (k p x : ℕ) → get_or slots p 0 ≡ 0 → Meets roots slots k p x → ⊥
meets_none roots slots k p x empty (here h) = omega arith
meets_none roots slots k p x empty (further j h m) = omega arith

-- From a slot with a link to another entry, what is met is met further on.
meets_onward :
    (roots : ℕ) (slots : List ℕ) (k j p x : ℕ) → get_or slots p 0 ≡ j + 1 → (j ≡ k → ⊥) → Meets roots slots k p x
    → Meets roots slots k (onward roots j x) (x / 2)
meets_onward roots slots k j p x link other (here h) = absurd (other (omega arith))
meets_onward roots slots k j p x link other (further l h m) =
    let is : l ≡ j = omega arith in
    subst (λ n. Meets roots slots k (onward roots n x) (x / 2)) is m

module _ (hs ss : List ℕ) (roots : ℕ) (slots : List ℕ) (i : ℕ) where
  -- The search for entry i has come to slot p, which holds a link, with the bits x: an earlier entry that is the same
  -- is met from there. And entry i is found where it is met from there, once it is written into a slot e that is empty
  -- yet.
  pub record Searched (p x link : ℕ) : Type 0 where
    pub holds : link ≡ get_or slots p 0
    pub earlier : link ≤ i
    pub before : p < roots + 2 * i
    pub ahead : (k : ℕ) → k < i → same hs ss i k ≡ true → Meets roots slots k p x
    pub leads : (e : ℕ) → get_or slots e 0 ≡ 0 → Meets roots (set slots e (i + 1)) i p x → Found hs ss roots (set slots e (i + 1)) i i

  module _ (index : Indexed hs ss roots slots i) where
    module _ (p x link : ℕ) (s : Searched p x link) where
      -- It goes on where there is a link,
      module _ (some : 0 < link) where
        its : get_or slots p 0 ≡ link - 1 + 1
        its = omega (arith, s.holds)

        -- to a higher slot,
        pub search_rises : p < roots + 2 * (link - 1)
        search_rises = index.rises p (link - 1) its

        -- if the entry there is not the same as i
        pub search_steps :
            same hs ss i (link - 1) ≡ false → Searched (onward roots (link - 1) x) (x / 2) (get_or slots (onward roots (link - 1) x) 0)
        search_steps other =
            record {
              holds = refl;
              earlier = index.known (onward roots (link - 1) x);
              before = omega (arith, s.earlier);
              ahead = λ k l e.
                  meets_onward roots slots k (link - 1) p x its
                  (λ is. true≢false (sym e ∙ subst (λ n. same hs ss i n ≡ false) is other))
                  (s.ahead k l e);
              leads = λ e empty m. s.leads e empty (further (link - 1) (kept slots e (i + 1) p (link - 1) empty its) m);
            }

        -- (if it is, one is found),
        pub search_finds : same hs ss i (link - 1) ≡ true → is_repeated hs ss i ≡ true
        search_finds = earlier_same hs ss i (link - 1) (omega (arith, s.earlier))

      -- and ends where there is none:
      module _ (none : link ≤ 0) where
        empty : get_or slots p 0 ≡ 0
        empty = omega (arith, s.holds)

        -- no entry is the same,
        pub search_ends : is_repeated hs ss i ≡ false
        search_ends =
            untrue (is_repeated hs ss i)
            (λ t. let (j, l, e) = repeats hs ss i t in meets_none roots slots j p x empty (s.ahead j l e))

        -- and entry i is written there.
        pub search_writes : i < length hs → Indexed hs ss roots (set slots p (i + 1)) (i + 1)
        search_writes small =
            indexed_more hs ss roots slots i p index small empty s.before
            (s.leads p empty (here (get_or-set_same slots p (i + 1) 0 (omega (arith, s.before, index.room)))))
