-- The loop over the steps: what is written of the goals and what remains, and what a turn makes of it. Assumes nothing.
use Prim.Native.Nat.{ℕ, ◌+◌, ◌-◌, ◌≤◌, ◌<◌}
use native.Mathlib.Omega.{arith}
use native.Mathlib.Numerals.{add-one}
use mathlib.Core.Bool.{Bool, true, false, true≢false, false≢true}
use mathlib.Core.Path.{◌≡◌, refl, sym, ap, ◌∙◌}
use mathlib.Core.List.{List, [], ◌∷◌, ◌++◌, append_assoc, append-nil, map, map-append}
use lib.ListN.{length, get_or, drop, set, length-append, length-map, drop_of_length-le, length-set}
use lib.Seq.{drop-cons}
use borrow.Author.Tests.{le-leb, lt-leb}
use Rattle.basics.specs.Limits.{most_depth}
use Rattle.basics.specs.Word.{upper, lower}
use Rattle.basics.specs.Written.{written}
use Rattle.basics.proofs.Written.{written_none, written_store}
use Rattle.table.specs.declared.entry.Entry.{Entry}
use Rattle.steps.specs.declared.opened.Opened as O
use Rattle.steps.specs.declared.opened.Opened.TheVariants as Opening
use Rattle.steps.specs.declared.opened.Premise.{Premise}
use Rattle.steps.specs.declared.goal.Goal.{Goal}
use Rattle.steps.specs.Step.{rules, unknown}
use Rattle.steps.specs.Run.{after}
use Rattle.steps.specs.PremiseCounts.{premise_counts}
use Rattle.steps.specs.Figure1.{same}
use Rattle.steps.proofs.Cases.{OfPremises}
use Rattle.steps.proofs.PremiseCounts.{Counted}
use Rattle.premises.specs.declared.premises.Premises.{Premises}
use Rattle.premises.specs.Premises.{opened, first_of, last_of}
use Rattle.rules.specs.Tested.{tested}
use Rattle.premises.proofs.Counts.{Taken, none_opened, one_opened, two_opened}
use Rattle.rules.proofs.TestedCounts.{tested_counts}
use Rattle.goals.specs.declared.kept.Kept.{Kept}
use Rattle.goals.specs.Goals.{kept, goal_kept, kept_as, premises_kept, opens_freely, goals_from, goals_of, numbers_of, affirms_of}
use Rattle.goals.specs.Next.{is_refused}
use Rattle.goals.proofs.Stack.{at, waiting, waiting_length, pushed, popped}

-- ---- what is written

-- Of all the goals, the first i are written over two lists, and the rest remain.
pub record Done (all : List Kept) (numbers₀ affirms₀ numbers affirms : List ℕ) (i : ℕ) (rest : List Kept) : Type 0 where
  pub done : List Kept
  pub counted : length done ≡ i
  pub is : all ≡ done ++ rest
  pub numbers_are : numbers ≡ written numbers₀ (numbers_of done)
  pub affirms_are : affirms ≡ written affirms₀ (affirms_of done)

pub done_none : (all : List Kept) (numbers affirms : List ℕ) → Done all numbers affirms numbers affirms 0 all
done_none all numbers affirms = record {
  done = [];
  counted = refl;
  is = refl;
  numbers_are = sym (written_none numbers);
  affirms_are = sym (written_none affirms);
}

-- one word more
stored : (f : Kept → ℕ) (old list : List ℕ) (done : List Kept) (i : ℕ) (k : Kept) → length done ≡ i
    → list ≡ written old (map f done) → set list i (f k) ≡ written old (map f (done ++ (k ∷ [])))
stored f old list done i k counted is =
    let at : length (map f done) ≡ i = length-map done f ∙ counted in
    rw (is, ← at, map-append f done (k ∷ [])) (written_store old (map f done) (f k))

module _ {all : List Kept} {numbers₀ affirms₀ numbers affirms : List ℕ} {i : ℕ} where
  -- The next goal is written.
  pub done_next : {k : Kept} {rest : List Kept} {numbers' affirms' : List ℕ}
      → Done all numbers₀ affirms₀ numbers affirms i (k ∷ rest)
      → numbers' ≡ set numbers i k.number → affirms' ≡ set affirms i k.affirms
      → Done all numbers₀ affirms₀ numbers' affirms' (i + 1) rest
  done_next {k} {rest} h n b =
      let counted = h.counted in record {
        done = h.done ++ (k ∷ []);
        counted = omega (arith, length-append h.done (k ∷ []));
        is = h.is ∙ sym (append_assoc h.done (k ∷ []) rest);
        numbers_are = n ∙ stored (λ k. k.number) numbers₀ numbers h.done i k counted h.numbers_are;
        affirms_are = b ∙ stored (λ k. k.affirms) affirms₀ affirms h.done i k counted h.affirms_are;
      }

  -- Nothing remains.
  pub done_all : Done all numbers₀ affirms₀ numbers affirms i []
      → (numbers ≡ written numbers₀ (numbers_of all)) × (affirms ≡ written affirms₀ (affirms_of all))
  done_all h =
      let is = h.is ∙ append-nil h.done in
      (rw is h.numbers_are, rw is h.affirms_are)

-- ---- a turn

not_refused : (x : O.Opened) → is_refused x ≡ false → Taken x
not_refused (Opening.Refused number) e = absurd (true≢false e)
not_refused Opening.Closed e = tt
not_refused (Opening.One a) e = tt
not_refused (Opening.Two a b) e = tt

module _ (es : List Entry) where
  -- the goals from the next step on, after a step that opens x for a goal that is kept by n
  abbrev pub onward : O.Opened → ℕ → List ℕ → List Kept → List Kept
  onward x n ws ks = after x (λ number. []) (λ ps. goals_from es ws (premises_kept n ps ++ ks))

  -- No goal is open, or too many wait.
  pub none_open : (ws : List ℕ) → goals_from es ws [] ≡ []
  unfolding goals_from
  none_open [] = refl
  none_open (w ∷ ws) = refl

  too_many : (ws : List ℕ) (k : Kept) (ks : List Kept) → most_depth < length ks → goals_from es ws (k ∷ ks) ≡ []
  unfolding goals_from
  too_many [] k ks l = refl
  too_many (w ∷ ws) k ks l = rw (lt-leb (length ks) most_depth l)

  -- The goal of the step at i, and then what it opens.
  pub turn : (steps : List ℕ) (i : ℕ) (k : Kept) (ks : List Kept) {x : O.Opened} → i < length steps
      → length ks ≤ most_depth → x ≡ opens_freely es (get_or steps i 0) (goal_kept es k)
      → goals_from es (drop i steps) (k ∷ ks) ≡ k ∷ onward x k.number (drop (i + 1) steps) ks
  unfolding goals_from
  turn steps i k ks l few is = rw (drop-cons steps i 0 l, le-leb (length ks) most_depth few, is, add-one i)

  -- What it opens, by what is asked of it: whether it is refused, and how many premises its code has.
  module _ (n : ℕ) (ws : List ℕ) (ks : List Kept) where
    pub on_refused : (x : O.Opened) → is_refused x ≡ true → onward x n ws ks ≡ []
    on_refused (Opening.Refused number) e = refl
    on_refused Opening.Closed e = absurd (false≢true e)
    on_refused (Opening.One a) e = absurd (false≢true e)
    on_refused (Opening.Two a b) e = absurd (false≢true e)

    module _ (code : ℕ) (g : Goal) (x : O.Opened) (counts : OfPremises (Counted code) x) (e : is_refused x ≡ false)
        {c : ℕ} (c-is : c ≡ get_or premise_counts code 0) where
      pub on_closed : c ≡ 0 → onward x n ws ks ≡ goals_from es ws ks
      on_closed none = ap (λ y. onward y n ws ks) (none_opened code x counts (not_refused x e) (sym c-is ∙ none))

      pub on_one : c ≡ 1 → onward x n ws ks ≡ goals_from es ws (kept_as n (first_of g x).goal ∷ ks)
      on_one one =
          let is = one_opened code g x counts (not_refused x e) (sym c-is ∙ one) in
          ap (λ y. onward y n ws ks) is ∙ ap (λ y. goals_from es ws (kept_as n (first_of g y).goal ∷ ks)) (sym is)

      pub on_two : 1 < c
          → onward x n ws ks ≡ goals_from es ws (kept_as n (first_of g x).goal ∷ kept_as n (last_of g x).goal ∷ ks)
      on_two two =
          ap (λ y. onward y n ws ks)
          (two_opened code g x counts (not_refused x e) (λ none. omega (arith, c-is)) (λ one. omega (arith, c-is)))

      -- Two premises where as many wait as may.
      pub on_full : 1 < c → length ks ≡ most_depth → onward x n ws ks ≡ []
      on_full two full =
          on_two two ∙ too_many ws (kept_as n (first_of g x).goal) (kept_as n (last_of g x).goal ∷ ks) (omega arith)

-- ---- a turn of the code

-- The goals of the steps before i are written; from the next goal and those that wait come the rest.
pub record Reached
    (es : List Entry) (steps : List ℕ) (goal : ℕ) (numbers₀ affirms₀ numbers affirms : List ℕ) (later : List Kept)
    (count : ℕ) (next : Kept) (i : ℕ)
    : Type 0 where
  pub so_far : i ≤ length steps
  pub few : count ≤ most_depth
  pub room : length later ≡ most_depth
  pub is_done :
      Done (goals_of es steps goal) numbers₀ affirms₀ numbers affirms i
      (goals_from es (drop i steps) (next ∷ waiting later count))

-- That of step i is written too, and the rule of its code leaves these premises for the goal g, as many as its row has.
pub record Turned
    (es : List Entry) (steps : List ℕ) (goal : ℕ) (numbers₀ affirms₀ numbers affirms : List ℕ) (later : List Kept)
    (count number i code : ℕ) (g : Goal) (ps : Premises)
    : Type 0 where
  pub so_far : i + 1 ≤ length steps
  pub few : count ≤ most_depth
  pub room : length later ≡ most_depth
  pub is_done :
      Done (goals_of es steps goal) numbers₀ affirms₀ numbers affirms (i + 1)
      (onward es (opened g ps) number (drop (i + 1) steps) (waiting later count))
  pub counts : OfPremises (Counted code) (opened g ps)

-- Before the first step, the goal is open and none waits.
pub reached_none : (es : List Entry) (steps : List ℕ) (goal : ℕ) (numbers affirms : List ℕ) (later : List Kept)
    → length later ≡ most_depth
    → Reached es steps goal numbers affirms numbers affirms later 0 (kept goal 0) 0
unfolding waiting
reached_none es steps goal numbers affirms later room = record {
  so_far = omega arith;
  few = omega arith;
  room = room;
  is_done = done_none (goals_of es steps goal) numbers affirms;
}

-- all are written
abbrev pub Writes : List Entry → List ℕ → ℕ → List ℕ → List ℕ → List ℕ → List ℕ → Type 0
Writes es steps goal numbers₀ affirms₀ numbers affirms =
    (numbers ≡ written numbers₀ (numbers_of (goals_of es steps goal)))
    × (affirms ≡ written affirms₀ (affirms_of (goals_of es steps goal)))

module _ {es : List Entry} {steps : List ℕ} {goal : ℕ} {numbers₀ affirms₀ numbers affirms : List ℕ} {later : List Kept}
    {count i : ℕ} where
  module _ {next : Kept} (h : Reached es steps goal numbers₀ affirms₀ numbers affirms later count next i) where
    -- No step is left.
    pub steps_end : length steps ≤ i → Writes es steps goal numbers₀ affirms₀ numbers affirms
    unfolding goals_from
    steps_end l = done_all (rw (drop_of_length-le steps l) at h.is_done)

    -- The goal is stored, and the rule of the step's code applied to it.
    pub turned : {numbers' affirms' : List ℕ} {code part : ℕ} {here : Goal} {ps : Premises}
        → i < length steps → numbers' ≡ set numbers i next.number → affirms' ≡ set affirms i next.affirms
        → here ≡ goal_kept es next → code ≡ upper (get_or steps i 0) → part ≡ lower (get_or steps i 0)
        → opened here ps ≡ tested (get_or (rules same es) code unknown) true part here
        → Turned es steps goal numbers₀ affirms₀ numbers' affirms' later count next.number i code here ps
    turned {code = code} {part} {here} {ps} l n b goal_is code_is part_is x-is =
        let opens : opened here ps ≡ opens_freely es (get_or steps i 0) (goal_kept es next) =
        x-is ∙ rw (goal_is, code_is, part_is) in
        let fits : length (waiting later count) ≤ most_depth = rw waiting_length h.few in
        let on = turn es steps i next (waiting later count) l fits opens in record {
          so_far = omega arith;
          few = h.few;
          room = h.room;
          is_done = done_next (rw on at h.is_done) n b;
          counts = rw x-is (tested_counts es code true part here);
        }

  module _ {number code : ℕ} {g : Goal} {ps : Premises}
      (h : Turned es steps goal numbers₀ affirms₀ numbers affirms later count number i code g ps) where
    -- Refused: the goals end.
    pub ends_refused : {r : Bool} → r ≡ is_refused (opened g ps) → r ≡ true
        → Writes es steps goal numbers₀ affirms₀ numbers affirms
    ends_refused r-is e =
        let on = on_refused es number (drop (i + 1) steps) (waiting later count) (opened g ps) (sym r-is ∙ e) in
        done_all (rw on at h.is_done)

    -- Not refused, and c is the count of its code.
    module _ {r : Bool} {c : ℕ} (r-is : r ≡ is_refused (opened g ps)) (e : r ≡ false)
        (c-is : c ≡ get_or premise_counts code 0) where
      -- Nothing is open any more, or more wait than may: the goals end.
      pub ends_closed : c ≡ 0 → count ≡ 0 → Writes es steps goal numbers₀ affirms₀ numbers affirms
      unfolding waiting
      ends_closed z none =
          let on = on_closed es number (drop (i + 1) steps) (waiting later count) code g (opened g ps) h.counts
          (sym r-is ∙ e) c-is z in
          let empty : waiting later count ≡ [] = rw none in
          done_all (rw (on, empty, none_open es (drop (i + 1) steps)) at h.is_done)

      pub ends_full : 1 < c → count ≡ most_depth → Writes es steps goal numbers₀ affirms₀ numbers affirms
      ends_full two full =
          let all-wait = waiting_length later count ∙ full in
          let on = on_full es number (drop (i + 1) steps) (waiting later count) code g (opened g ps) h.counts
          (sym r-is ∙ e) c-is two all-wait in
          done_all (rw on at h.is_done)

      -- No premise: the last that waits is next.
      pub goes_back : c ≡ 0 → ¬ (count ≡ 0)
          → Reached es steps goal numbers₀ affirms₀ numbers affirms later (count - 1) (at later (count - 1)) (i + 1)
      goes_back z some =
          let on = on_closed es number (drop (i + 1) steps) (waiting later count) code g (opened g ps) h.counts
          (sym r-is ∙ e) c-is z in
          let top = popped later count (omega (arith, some)) in record {
            so_far = h.so_far;
            few = omega (arith, h.few);
            room = h.room;
            is_done = rw (on, top) at h.is_done;
          }

      -- One premise: it is next.
      pub goes_on : {first : Premise} {next : Kept} → ¬ (c ≡ 0) → c ≤ 1
          → first ≡ first_of g (opened g ps) → next ≡ kept_as number first.goal
          → Reached es steps goal numbers₀ affirms₀ numbers affirms later count next (i + 1)
      goes_on z most first_is next-is =
          let on = on_one es number (drop (i + 1) steps) (waiting later count) code g (opened g ps) h.counts
          (sym r-is ∙ e) c-is (omega (arith, z)) in
          record {
            so_far = h.so_far;
            few = h.few;
            room = h.room;
            is_done = rw (next-is, first_is) (rw on at h.is_done);
          }

      -- Two: the first is next and the last waits.
      pub goes_down : {first last : Premise} {next k : Kept} → 1 < c → ¬ (count ≡ most_depth)
          → first ≡ first_of g (opened g ps) → next ≡ kept_as number first.goal
          → last ≡ last_of g (opened g ps) → k ≡ kept_as number last.goal
          → Reached es steps goal numbers₀ affirms₀ numbers affirms (set later count k) (count + 1) next (i + 1)
      goes_down {k = k} two some first_is next-is last-is k-is =
          let room = h.room in
          let few = h.few in
          let less : count < most_depth = omega (arith, some) in
          let on = on_two es number (drop (i + 1) steps) (waiting later count) code g (opened g ps) h.counts
          (sym r-is ∙ e) c-is two in
          let top = pushed later count k (omega arith) in record {
            so_far = h.so_far;
            few = omega arith;
            room = length-set later count k ∙ room;
            is_done = rw (top, next-is, first_is, k-is, last-is) (rw on at h.is_done);
          }
