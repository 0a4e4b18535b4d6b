-- Laws of the trail: what is held is shown and has a place, and is taken back. In order: words that are the same; how
-- many are marked; one hypothesis more; what is taken back. Assumes nothing.
use Prim.Native.Nat.{ℕ, zero, suc, ◌+◌, ◌/◌, ◌<◌, ◌≤◌, min}
use native.Mathlib.Omega.{arith}
use native.Mathlib.Numerals.{add-one}
use mathlib.Core.Bool.{Bool, true, false, false≢true}
use mathlib.Core.Path.{◌≡◌, refl, sym, ap, ◌∙◌, subst}
use mathlib.Core.List.{List}
use lib.Dec.{eqb, ltb}
use lib.ListN.{length, get_or, set, length-set}
use lib.Seq.{get_or-set_same, get_or-set_other}
use borrow.Author.Tests.{eqb-true, eqb-false, eq-eqb, ne_eqb, ltb-true, ltb-false, lt-ltb, le-ltb}
use Rattle.basics.specs.Choice.{pick, both}
use Rattle.basics.proofs.Choice.{pick_cases, both_true}
use Rattle.hypotheses.specs.Slots.{half, is_held, is_new, held_one, count_one, unmarked, released_to, released}
use Rattle.hypotheses.proofs.Slots.{release_end}
use Rattle.hypotheses.specs.Trail.{SameUpTo, Kept, marked, Live, Undoes}

-- A test is true or false.
decide : {P : Type 0} (b : Bool) → (b ≡ true → P) → (b ≡ false → P) → P
decide true p q = p refl
decide false p q = q refl

-- ---- words that are the same

pub same_refl : (n : ℕ) (s : List ℕ) → SameUpTo n s s
same_refl n s = record { same_length = refl; same_words = λ i l. refl }

pub same_trans : {n : ℕ} {s t u : List ℕ} → SameUpTo n s t → SameUpTo n t u → SameUpTo n s u
same_trans a b = record {
  same_length = b.same_length ∙ a.same_length;
  same_words = λ i l. b.same_words i l ∙ a.same_words i l;
}

pub same_less : {m n : ℕ} {s t : List ℕ} → m ≤ n → SameUpTo n s t → SameUpTo m s t
same_less less a = record { same_length = a.same_length; same_words = λ i l. a.same_words i (omega arith) }

pub same_half : {n : ℕ} {s t : List ℕ} → SameUpTo n s t → half t ≡ half s
same_half a = ap (λ (k : ℕ). k / 2) a.same_length

-- A word written leaves the others.
half_set : (s : List ℕ) (i x : ℕ) → half (set s i x) ≡ half s
half_set s i x = ap (λ (k : ℕ). k / 2) (length-set s i x)

-- the word at j once x is written at i
word_set : (s : List ℕ) (i x j : ℕ) → i < length s → get_or (set s i x) j 0 ≡ pick (eqb i j) x (get_or s j 0)
word_set s i x j l = pick_cases (λ (y : ℕ). get_or (set s i x) j 0 ≡ y) (eqb i j)
    (λ e. rw (← eqb-true i j e) (get_or-set_same s i x 0 l))
    (λ e. get_or-set_other s i j x 0 (λ q. eqb-false i j e (sym q)))

-- One word written in both.
same_set : {n : ℕ} {s t : List ℕ} (i x : ℕ) → i < length s → SameUpTo n s t → SameUpTo n (set s i x) (set t i x)
same_set {n} {s} {t} i x l a = record {
  same_length = length-set t i x ∙ a.same_length ∙ sym (length-set s i x);
  same_words = λ j m. word_set t i x j (omega (arith, a.same_length)) ∙ ap (pick (eqb i j) x) (a.same_words j m) ∙
      sym (word_set s i x j l);
}

-- ---- how many are marked

-- no more than there are numbers
marked_most : (s : List ℕ) (n : ℕ) → marked s n ≤ n
unfolding marked
marked_most s zero = omega arith
marked_most s (suc n) =
    pick_cases (λ (k : ℕ). marked s n + k ≤ suc n) (eqb (get_or s n 0) 0) (λ e. omega (arith, marked_most s n))
    (λ e. omega (arith, marked_most s n))

-- and fewer where one isn't marked
marked_fewer : (s : List ℕ) (n i : ℕ) → i < n → get_or s i 0 ≡ 0 → marked s n < n
unfolding marked
marked_fewer s zero i l e = elim l [ ]
marked_fewer s (suc n) i l e =
    pick_cases (λ (k : ℕ). marked s n + k < suc n) (eqb (get_or s n 0) 0)
    (λ f. omega (arith, marked_most s n))
    (λ f. let less : i < n = omega (arith, other f) in omega (arith, marked_fewer s n i less e))
  where
    other : eqb (get_or s n 0) 0 ≡ false → ¬ (i ≡ n)
    other f q = eqb-false (get_or s n 0) 0 f (subst (λ (j : ℕ). get_or s j 0 ≡ 0) q e)

-- Words that are the same have as many marks.
marked_same : (s t : List ℕ) (n : ℕ) → ((i : ℕ) → i < n → get_or t i 0 ≡ get_or s i 0) → marked t n ≡ marked s n
unfolding marked
marked_same s t zero same = refl
marked_same s t (suc n) same = rw (same n (omega arith), marked_same s t n (λ i l. same i (omega arith)))

-- One mark more.
marked_more : (s t : List ℕ) (n i : ℕ) → i < n → get_or s i 0 ≡ 0 → get_or t i 0 ≡ 1
    → ((j : ℕ) → j < n → ¬ (j ≡ i) → get_or t j 0 ≡ get_or s j 0) → marked t n ≡ marked s n + 1
unfolding marked
marked_more s t zero i l e f same = elim l [ ]
marked_more s t (suc n) i l e f same = decide (eqb i n)
    (λ q.
    let is = eqb-true i n q in
    let old : get_or s n 0 ≡ 0 = rw (← is) e in
    let new : get_or t n 0 ≡ 1 = rw (← is) f in
    let rest = marked_same s t n (λ j m. same j (omega arith) (λ r. omega arith)) in
    rw (old, new, rest) (omega arith))
    (λ q.
    let other = eqb-false i n q in
    let rest = marked_more s t n i (omega arith) e f (λ j m d. same j (omega arith) d) in
    rw (same n (omega arith) (λ r. other (sym r)), rest) (omega arith))

-- There is a place for what isn't held yet,
pub live_room : {s : List ℕ} {held : ℕ} (n : ℕ) → Live s held → n < half s → get_or s n 0 ≡ 0 → held < half s
live_room {s} {held} n live l e = omega (arith, live.places, marked_fewer s (half s) n l e)

-- and the list is no longer than its half.
pub live_most : {s : List ℕ} {held : ℕ} → Live s held → held ≤ half s
live_most {s} {held} live = omega (arith, live.places, marked_most s (half s))

-- What isn't touched is kept.
pub kept_nothing : {s : List ℕ} {held : ℕ} → Kept held s s
kept_nothing {s} {held} = record { same = same_refl (half s + held) s }

-- A premise proved leaves the room that there was.
pub live_kept : {s t : List ℕ} {held : ℕ} → Live s held → Kept held s t → Live t held
live_kept {s} {t} {held} live kept =
    let as_many = marked_same s t (half s) (λ i l. kept.same.same_words i (omega arith)) in
    record { places = rw (same_half kept.same, as_many) live.places }

-- ---- one hypothesis more

-- What is new is below the half, isn't marked and has a place.
is_new_lem : (s : List ℕ) (held n : ℕ) → is_new s held n ≡ true → (n < half s) × (held < half s) × (get_or s n 0 ≡ 0)
is_new_lem s held n e =
    let (below, more) = (both_true (ltb n (half s)) (both (ltb held (half s)) (eqb (get_or s n 0) 0))).0 e in
    let (room, none) = (both_true (ltb held (half s)) (eqb (get_or s n 0) 0)).0 more in
    (ltb-true n (half s) below, ltb-true held (half s) room, eqb-true (get_or s n 0) 0 none)

-- What isn't new, and has a mark, is marked.
not_new : {s : List ℕ} {held : ℕ} (n : ℕ) → Live s held → is_new s held n ≡ false → n < half s → ¬ (get_or s n 0 ≡ 0)
not_new {s} {held} n live e l none =
    false≢true (sym e ∙ rw (
      lt-ltb n (half s) l,
      lt-ltb held (half s) (live_room n live l none),
      eq-eqb (get_or s n 0) 0
          none,
    ))

module _ (s : List ℕ) (held n : ℕ) where
  -- the slots once n has taken the next place
  abbrev taken : List ℕ
  taken = set (set s n 1) (half s + held) n

  module _ (l : n < half s) (r : held < half s) where
    half_taken : half taken ≡ half s
    half_taken = half_set (set s n 1) (half s + held) n ∙ half_set s n 1

    word_taken : (i : ℕ) → i < half s + held → get_or taken i 0 ≡ pick (eqb n i) 1 (get_or s i 0)
    word_taken i m =
        word_set (set s n 1) (half s + held) n i (omega (arith, length-set s n 1))
        ∙ rw (ne_eqb (half s + held) i (λ q. omega arith)) (word_set s n 1 i (omega arith))

    last_taken : get_or taken (half s + held) 0 ≡ n
    last_taken =
        word_set (set s n 1) (half s + held) n (half s + held) (omega (arith, length-set s n 1)) ∙ rw
        (eq-eqb (half s + held) (half s + held) refl)

    -- The mark taken away again, all is as it was but the place.
    untaken : get_or s n 0 ≡ 0 → SameUpTo (half s + held) s (set taken n 0)
    untaken none = record {
      same_length = length-set taken n 0 ∙ length-set (set s n 1) (half s + held) n ∙ length-set s n 1;
      same_words = λ i m.
          word_set taken n 0 i (omega (arith, length-set (set s n 1) (half s + held) n, length-set s n 1))
          ∙ decide (eqb n i)
          (λ q. rw (q, ← eqb-true n i q) (sym none))
          (λ q. rw (q) (word_taken i m ∙ rw q));
    }

-- n is held, and there is one hypothesis more, or nothing changes.
held_cases : (P : List ℕ → ℕ → Type 0) (s : List ℕ) (held n : ℕ)
    → (n < half s → held < half s → get_or s n 0 ≡ 0 → P (taken s held n) (held + 1))
    → (is_new s held n ≡ false → P s held)
    → P (held_one s held n) (count_one s held n)
held_cases P s held n new old = decide (is_new s held n)
    (λ e. let (l, r, none) = is_new_lem s held n e in rw e (new l r none))
    (λ e. rw e (old e))

pub live_hold : {s : List ℕ} {held : ℕ} (n : ℕ) → Live s held → Live (held_one s held n) (count_one s held n)
live_hold {s} {held} n live = held_cases Live s held n
    (λ l r none.
    let more = marked_more s (taken s held n) (half s) n l none
    (word_taken s held n l r n (omega arith) ∙ rw (eq-eqb n n refl))
    (λ j m d. word_taken s held n l r j (omega arith) ∙ rw (ne_eqb n j (λ q. d (sym q)))) in
    record { places = rw (half_taken s held n l r, more) (omega (arith, live.places)) })
    (λ e. live)

pub half_hold : (s : List ℕ) (held n : ℕ) → half (held_one s held n) ≡ half s
half_hold s held n = held_cases (λ t k. half t ≡ half s) s held n (λ l r none. half_taken s held n l r) (λ e. refl)

pub count_hold : (s : List ℕ) (held n : ℕ) → held ≤ count_one s held n
count_hold s held n = held_cases (λ t k. held ≤ k) s held n (λ l r none. omega arith) (λ e. omega arith)

-- The slots show it, and what they showed.
pub shows_hold : {s : List ℕ} {held : ℕ} (n i : ℕ) → Live s held → i < half s
    → is_held (held_one s held n) i ≡ pick (eqb n i) true (is_held s i)
shows_hold {s} {held} n i live m = held_cases (λ t k. is_held t i ≡ pick (eqb n i) true (is_held s i)) s held n
    (λ l r none.
    rw (half_taken s held n l r, word_taken s held n l r i (omega arith), lt-ltb i (half s) m)
    (decide (eqb n i) (λ q. rw q) (λ q. rw q)))
    (λ e. decide (eqb n i)
    (λ q.
    let is = eqb-true n i q in
    let mark = not_new n live e (omega (arith, is)) in
    rw (q, lt-ltb i (half s) m, ne_eqb (get_or s i 0) 0 (subst (λ (j : ℕ). ¬ (get_or s j 0 ≡ 0)) is mark)))
    (λ q. rw q))

-- ---- what is taken back

-- As many slots as before are left.
length_unmarked : (s : List ℕ) (n : ℕ) → length (unmarked s n) ≡ length s
length_unmarked s n = pick_cases (λ (t : List ℕ). length t ≡ length s) (ltb n (half s)) (λ e. length-set s n 0)
    (λ e. refl)

length_released : (from to : ℕ) (s : List ℕ) → length (released_to s from to) ≡ length s
unfolding released_to
length_released from zero s = refl
length_released from (suc to) s = pick_cases (λ (t : List ℕ). length t ≡ length s) (ltb to from) (λ e. refl)
    (λ e. let n = get_or s (half s + to) 0 in length_released from to (unmarked s n) ∙ length_unmarked s n)

pub undoes_length : {from held : ℕ} {before s : List ℕ} → Undoes from before held s → length s ≡ length before
undoes_length {from} {held} {before} {s} u = sym (length_released from (min held (half s)) s) ∙ u.leaves.same.same_length

same_unmarked : {m : ℕ} {s t : List ℕ} (n : ℕ) → SameUpTo m s t → SameUpTo m (unmarked s n) (unmarked t n)
same_unmarked {m} {s} {t} n a = rw (same_half a) (decide (ltb n (half s))
    (λ e. let l = ltb-true n (half s) e in rw e (same_set n 0 (omega arith) a))
    (λ e. rw e a))

-- From slots that are the same as far as the list goes, the same is taken back.
released_same : (from to : ℕ) {s t : List ℕ} → from ≤ to → SameUpTo (half s + to) s t
    → SameUpTo (half s + from) (released_to s from to) (released_to t from to)
unfolding released_to
released_same from zero l a = same_less (omega arith) a
released_same from (suc to) {s} {t} l a = decide (ltb to from)
    (λ e. rw e (same_less (omega (arith, ltb-true to from e)) a))
    (λ e.
    let n = get_or s (half s + to) 0 in
    let is : get_or t (half t + to) 0 ≡ n = rw (same_half a) (a.same_words (half s + to) (omega arith)) in
    let less = same_unmarked n (same_less {m = half s + to} (omega arith) a) in
    let h = ap (λ (k : ℕ). k / 2) (length_unmarked s n) in
    rw (e, is) (subst (λ (k : ℕ). SameUpTo (k + from) (released_to (unmarked s n) from to)
    (released_to (unmarked t n) from to)) h
    (released_same from to (omega (arith, ltb-false to from e)) (rw h less))))

-- Up to a place within the half, all of them are taken back.
released_within : (s : List ℕ) (from to : ℕ) → to ≤ half s → released s from to ≡ released_to s from to
released_within s from to l = ap (released_to s from) (omega arith)

-- Nothing has been added: nothing is taken back.
pub undoes_nothing : {s : List ℕ} {held : ℕ} → held ≤ half s → Undoes held s held s
undoes_nothing {s} {held} l =
    record {
      leaves = record {
        same = rw (released_within s held held l, release_end s held held (omega arith))
            (same_refl (half s + held) s);
      };
    }

-- Slots that are the same as far as the list goes undo the same.
pub undoes_kept : {from held : ℕ} {before s t : List ℕ} → from ≤ held → held ≤ half s → Undoes from before held s
    → Kept held s t
    → Undoes from before held t
undoes_kept {from} {held} {before} {s} {t} l most u kept =
    let within : held ≤ half t = omega (arith, same_half kept.same) in
    let back : SameUpTo (half before + from) before (released_to s from held) = rw (released_within s from held most) at
    u.leaves.same in
    let h : half s ≡ half before = ap (λ (k : ℕ). k / 2) (undoes_length u) in
    let more : SameUpTo (half before + from) (released_to s from held) (released_to t from held) = rw h at
    (released_same from held l kept.same) in
    record { leaves = record { same = rw (released_within t from held within) (same_trans back more) } }

-- What was held last is taken back first.
pub undoes_hold : {from held : ℕ} {before s : List ℕ} (n : ℕ) → from ≤ held → Live s held → Undoes from before held s
    → Undoes from before (count_one s held n) (held_one s held n)
unfolding released_to
undoes_hold {from} {held} {before} {s} n l live u = held_cases (λ t k. Undoes from before k t) s held n
    (λ m r none.
    let t = taken s held n in
    let h = half_taken s held n m r in
    let last : get_or t (half t + held) 0 ≡ n = rw h (last_taken s held n m r) in
    let same = undoes_kept l (live_most live) u (record { same = untaken s held n m r none }) in
    let h' = half_set t n 0 ∙ h in
    let back : SameUpTo (half before + from) before (released_to (set t n 0) from held)
    = rw (released_within (set t n 0) from held (omega (arith, h'))) at same.leaves.same in
    let off : unmarked t n ≡ set t n 0 = rw (lt-ltb n (half t) (omega (arith, h))) in
    let all : released t from (held + 1) ≡ released_to (set t n 0) from held =
    released_within t from (held + 1) (omega (arith, h)) ∙ rw (add-one held, le-ltb held from l, last, off) in
    record { leaves = record { same = rw all back } })
    (λ e. u)
