-- Laws of the walk: the machine's run from entry is the run from here, and what was held since can be taken back. In
-- order: what is held since; what the slots show; the run from here; how many premises; premises; a call for a premise;
-- depth and turns; the end. Assumes nothing.
use Prim.Native.Nat.{ℕ, suc, ◌+◌, ◌<◌, ◌≤◌}
use native.Mathlib.Omega.{arith}
use native.Mathlib.Numerals.{add-one}
use mathlib.Core.Path.{◌≡◌, refl, sym, ap, ap₂, ◌∙◌, subst}
use mathlib.Core.List.{List, [], ◌∷◌, ◌++◌, map}
use lib.ListN.{length, get_or}
use Rattle.basics.specs.Limits.{most_depth}
use Rattle.basics.specs.Word.{upper}
use Rattle.basics.specs.Membership.{holds}
use Rattle.basics.proofs.Membership.{holds_append}
use Rattle.table.specs.declared.entry.Entry.{Entry}
use Rattle.steps.specs.declared.goal.Goal.{Goal}
use Rattle.steps.specs.declared.opened.Premise.{Premise}
use Rattle.steps.specs.declared.opened.Opened.{Opened}
use Rattle.steps.specs.declared.opened.Opened.TheVariants as Opening
use Rattle.steps.specs.Verdict.{WalkVerdict}
use Rattle.steps.specs.Verdict as Verdicts
use Rattle.steps.specs.Obligation.{added, under}
use Rattle.steps.specs.Applies.{Takes}
use Rattle.steps.specs.Run.{after}
use Rattle.steps.specs.Figure1.{same, step}
use Rattle.steps.specs.Parts.{and_then, walk_from}
use Rattle.steps.specs.PremiseCounts.{premise_counts}
use Rattle.steps.proofs.Alike.{walk_named}
use Rattle.steps.proofs.Parts.{refused_at, uses_words, walk_done, walk_ends, walk_steps, one_after_another}
use Rattle.steps.proofs.Steps.{step_takes}
use Rattle.steps.proofs.Cases.{OfPremises}
use Rattle.steps.proofs.PremiseCounts.{Counted, step_counts}
use Rattle.hypotheses.specs.Slots.{half, shown, held_one, count_one, held_all, count_all, released}
use Rattle.hypotheses.specs.Trail.{Kept, Undoes}
use Rattle.hypotheses.proofs.Shown.{shows_shown}
use Rattle.hypotheses.proofs.Trail.{kept_nothing, same_half, live_most, live_kept, live_hold, half_hold, count_hold, undoes_nothing, undoes_kept, undoes_hold}
use Rattle.hypotheses.proofs.Held.{shown_all}
use Rattle.premises.specs.declared.premises.Premises.{Premises}
use Rattle.premises.specs.declared.premises.Premises.TheVariants as Shape
use Rattle.premises.specs.Premises.{opened, first_of, last_of}
use Rattle.premises.proofs.Counts.{Taken, shape_taken, none_opened, one_opened, two_opened}
use Rattle.walk.proofs.Turns.{Turns, turns}
use Rattle.walk.specs.declared.walk.Walk.{Walk}
use Rattle.walk.specs.declared.walk.Walked.{Walked}
use Rattle.walk.specs.declared.walk.Walked.TheVariants.{Done, Refused}
use Rattle.walk.specs.Walks.{onward, obligation_of, run_from, verdict_of, Ready, Left}

-- ---- what is held since

-- What was held since the count `from`, with these slots before, can be taken back, and there is room for more.
pub record Since (es : List Entry) (from : ℕ) (before : List ℕ) (slots : List ℕ) (held : ℕ) : Type 0 where
  pub undoes : Undoes from before held slots
  pub ready : Ready es slots held
  pub counted : from ≤ held

-- Nothing is held since.
pub since_nothing : {es : List Entry} {slots : List ℕ} {held : ℕ} → Ready es slots held → Since es held slots slots held
since_nothing ready = record { undoes = undoes_nothing (live_most ready.live); ready = ready; counted = omega arith }

module _ {es : List Entry} {from : ℕ} {before slots : List ℕ} {held : ℕ} (since : Since es from before slots held) where
  -- A premise has been proved.
  pub since_kept : {after : List ℕ} → Kept held slots after → Since es from before after held
  since_kept kept = record {
    undoes = undoes_kept since.counted (live_most since.ready.live) since.undoes kept;
    ready = record {
      marks = λ n l m. subst (λ (h : ℕ). n < h) (sym (same_half kept.same)) (since.ready.marks n l m);
      live = live_kept since.ready.live kept;
    };
    counted = since.counted;
  }

  -- One more is held.
  pub since_hold : (n : ℕ) → Since es from before (held_one slots held n) (count_one slots held n)
  since_hold n = record {
    undoes = undoes_hold n since.counted since.ready.live since.undoes;
    ready = record {
      marks = λ i l m. subst (λ (h : ℕ). i < h) (sym (half_hold slots held n)) (since.ready.marks i l m);
      live = live_hold n since.ready.live;
    };
    counted = let least = count_hold slots held n in let from-held = since.counted in omega arith;
  }

-- All that a premise adds is held.
pub since_all : {es : List Entry} {from : ℕ} {before slots : List ℕ} {held : ℕ} (ns : List ℕ)
    → Since es from before slots held
    → Since es from before (held_all slots held ns) (count_all slots held ns)
unfolding held_all count_all
since_all [] since = since
since_all {slots = slots} {held = held} (n ∷ ns) since =
    since_all {slots = held_one slots held n} {held = count_one slots held n} ns (since_hold since n)

-- A premise is proved, and what it added taken back: all is as it was.
pub held_back : {es : List Entry} {slots more during after : List ℕ} {held count : ℕ} (ns : List ℕ)
    → Ready es slots held
    → count ≡ count_all slots held ns → more ≡ held_all slots held ns → Kept count more during
    → after ≡ released during held count
    → Kept held slots after
held_back ns ready counts slots_held kept back =
    rw (back, counts) (since_kept (since_all ns (since_nothing ready)) (rw (counts, slots_held) at kept)).undoes.leaves

-- ---- what the slots show

-- A premise proved, the slots show what they showed.
pub shown_kept : {slots after : List ℕ} {held : ℕ} (i : ℕ) → i < half slots → Kept held slots after
    → holds (shown after) i ≡ holds (shown slots) i
shown_kept {slots} {after} {held} i l kept =
    let mark = kept.same.same_words i (omega arith) in
    sym (shows_shown after i) ∙ rw (same_half kept.same, mark) (shows_shown slots i)

-- ---- the run from here

-- The machine's run from entry is the run from here.
pub record On (es : List Entry) (steps before : List ℕ) (w₀ : Walk) (slots : List ℕ) (w : Walk) : Type 0 where
  pub run_here : run_from es steps before w₀ ≡ run_from es steps slots w
  pub since : Since es w₀.held before slots w.held
  pub forward : w₀.next ≤ w.next

-- At entry: the walk of the loop is the walk that was given.
pub on_entry : {es : List Entry} {steps slots : List ℕ} {w₀ w : Walk} → w ≡ w₀ → Ready es slots w₀.held
    → On es steps slots w₀ slots w
on_entry {es} {steps} {slots} {w₀} {w} e ready =
    rw e (record { run_here = refl; since = since_nothing ready; forward = omega arith })

-- The walk w is at a word, where the step leaves the premises x.
pub record Here (es : List Entry) (steps slots : List ℕ) (w : Walk) (x : Premises) : Type 0 where
  pub inside : w.next < length steps
  pub opens : opened w.goal x ≡ step es (get_or steps w.next 0) (obligation_of w slots)

-- A step that `open_truth` or `open_affirmation` opened there, for the walk's own goal g.
pub here_opened : {es : List Entry} {steps slots : List ℕ} {w : Walk} {g : Goal} {x : Premises} → w.goal ≡ g
    → w.next < length steps
    → opened g x ≡ step es (get_or steps w.next 0) (record { hypotheses = shown slots; goal = g; depth = w.depth })
    → Here es steps slots w x
here_opened own inside opens = record { inside = inside; opens = rw own opens }

-- what the machine answers for a premise from word n on
abbrev pub premise_from : List Entry → List ℕ → List ℕ → Walk → ℕ → Premise → WalkVerdict
premise_from es steps slots w n p = walk_from same most_depth es steps n (under (obligation_of w slots) p ∷ [])

-- ---- how many premises

-- Its code's count is c, and it isn't refused.
pub record Counts (es : List Entry) (steps slots : List ℕ) (w : Walk) (x : Premises) (c : ℕ) : Type 0 where
  pub here : Here es steps slots w x
  pub taken : Taken (opened w.goal x)
  pub count : c ≡ get_or premise_counts (upper (get_or steps w.next 0)) 0

-- What `premise_count` answers for the word's code counts so, where the step isn't refused.
pub counted : {es : List Entry} {steps slots : List ℕ} {w : Walk} {g : Goal} {x : Premises} {code c : ℕ} → w.goal ≡ g
    → w.next < length steps
    → opened g x ≡ step es (get_or steps w.next 0) (record { hypotheses = shown slots; goal = g; depth = w.depth })
    → ((n : ℕ) → ¬ (x ≡ Shape.Refused n)) → code ≡ upper (get_or steps w.next 0) → c ≡ get_or premise_counts code 0
    → Counts es steps slots w x c
counted {w = w} {x = x} own inside opens other upper_is count_is = record {
  here = here_opened own inside opens;
  taken = shape_taken x w.goal other;
  count = count_is ∙ ap (λ (n : ℕ). get_or premise_counts n 0) upper_is;
}

-- So it closes, or opens one premise, or two.
module _ {es : List Entry} {steps slots : List ℕ} {w : Walk} {x : Premises} {c : ℕ}
    (counts : Counts es steps slots w x c) where
  abbrev code : ℕ
  code = upper (get_or steps w.next 0)

  abbrev opening : Opened
  opening = opened w.goal x

  row_counts : OfPremises (Counted code) opening
  row_counts = rw counts.here.opens
      (step_counts same es most_depth (get_or steps w.next 0) (obligation_of w slots))

  pub opens_none : c ≡ 0 → opening ≡ Opening.Closed
  opens_none e = none_opened code opening row_counts counts.taken (sym counts.count ∙ e)

  pub opens_one : {q : Premise} → c ≡ 1 → q ≡ last_of w.goal opening → opening ≡ Opening.One q
  opens_one e last =
      one_opened code w.goal opening row_counts counts.taken (sym counts.count ∙ e) ∙ ap Opening.One (sym last)

  pub opens_two : {p q : Premise} → 2 ≤ c → p ≡ first_of w.goal opening → q ≡ last_of w.goal opening
      → opening ≡ Opening.Two p q
  opens_two many first last =
      two_opened code w.goal opening row_counts counts.taken (λ e. omega (arith, e, counts.count, many))
      (λ e. omega (arith, e, counts.count, many)) ∙ ap₂ Opening.Two (sym first) (sym last)

module _ {es : List Entry} {steps before slots : List ℕ} {w₀ w : Walk} (on : On es steps before w₀ slots w) where
  -- The words end.
  pub at_end : length steps ≤ w.next → {r : Walked} → r ≡ Refused 9 w.next
      → verdict_of r ≡ run_from es steps before w₀
  at_end l e = rw (e, on.run_here) (sym (walk_ends same most_depth es steps w.next (obligation_of w slots) [] l))

  module _ {x : Premises} (here : Here es steps slots w x) where
    -- the machine's answer at this word
    answers : run_from es steps before w₀
        ≡ after (opened w.goal x) (refused_at w.next) (λ ps. walk_from same most_depth es steps (suc w.next)
        (map (under (obligation_of w slots)) ps ++ []))
    answers = on.run_here ∙ rw here.opens (walk_steps same most_depth es steps w.next (obligation_of w slots) []
        here.inside)

    pub refused : {number : ℕ} → opened w.goal x ≡ Opening.Refused number → {r : Walked}
        → r ≡ Refused number w.next
        → verdict_of r ≡ run_from es steps before w₀
    refused e is = rw (is, answers, e)

    pub closed : opened w.goal x ≡ Opening.Closed → Verdicts.Closed (w.next + 1) ≡ run_from es steps before w₀
    closed e = rw (answers, e, walk_done same most_depth es) (ap Verdicts.Closed (add-one w.next))

    pub one : {p : Premise} → opened w.goal x ≡ Opening.One p
        → run_from es steps before w₀ ≡ premise_from es steps slots w (w.next + 1) p
    one {p} e = rw (answers, e) (ap (λ n. premise_from es steps slots w n p) (sym (add-one w.next)))

    two : {p q : Premise} → opened w.goal x ≡ Opening.Two p q
        → run_from es steps before w₀
        ≡ and_then (premise_from es steps slots w (w.next + 1) p) (λ n. premise_from es steps slots w n q)
    two {p} {q} e =
        rw (answers, e, add-one w.next)
        (one_after_another same most_depth es steps (suc w.next) (under (obligation_of w slots) p ∷ [])
        (under (obligation_of w slots) q ∷ []))

    -- ---- premises

    -- A premise is the walk that holds what it adds, in slots that a premise before it left.
    premise_is : (p : Premise) (n : ℕ) {slots' : List ℕ} → Kept w.held slots slots'
        → premise_from es steps slots w n p ≡ run_from es steps (held_all slots' w.held (added p.added))
        (onward w p.goal n (count_all slots' w.held (added p.added)))
    premise_is p n {slots'} kept =
        let ns = added p.added in
        walk_named same most_depth es _ n (record {
          same_goal = refl;
          same_depth = sym (add-one w.depth);
          same_named = λ i l m.
              let marked = on.since.ready.marks i l m in
              rw (
                holds_append (shown slots) ns i,
                ← shown_kept i marked kept,
                ← holds_append (shown slots') ns i,
              )
              (sym (shown_all ns i (live_kept on.since.ready.live kept) (omega (arith, same_half kept.same))));
        })

    -- What it adds can be taken back.
    pub since_premise : (p : Premise) {n count : ℕ} {slots' : List ℕ} {v : Walk}
        → count ≡ count_all slots w.held (added p.added) → slots' ≡ held_all slots w.held (added p.added)
        → v ≡ onward w p.goal n count
        → Since es w₀.held before slots' v.held
    since_premise p counts slots_held is = rw (is, slots_held, counts) (since_all (added p.added) on.since)

    -- The loop goes on with a premise.
    pub goes_on : (p : Premise) (n : ℕ) {g : Goal} {slots' slots'' : List ℕ} {count : ℕ} {v : Walk}
        → run_from es steps before w₀ ≡ premise_from es steps slots w n p → w.next ≤ n → Kept w.held slots slots'
        → count ≡ count_all slots' w.held (added p.added) → slots'' ≡ held_all slots' w.held (added p.added)
        → p.goal ≡ g → v ≡ onward w g n count
        → On es steps before w₀ slots'' v
    goes_on p n run later kept counts slots_held goal is = rw (is, ← goal, slots_held, counts) (record {
      run_here = run ∙ premise_is p n kept;
      since = since_all (added p.added) (since_kept on.since kept);
      forward = let f = on.forward in omega arith;
    })

    -- ---- a call for a premise

    -- The walk of a premise answers as the machine.
    pub called : (p : Premise) {slots' : List ℕ} {count : ℕ} {v : Walk} {verdict : WalkVerdict}
        → count ≡ count_all slots w.held (added p.added) → slots' ≡ held_all slots w.held (added p.added)
        → v ≡ onward w p.goal (w.next + 1) count → verdict ≡ run_from es steps slots' v
        → verdict ≡ premise_from es steps slots w (w.next + 1) p
    called p counts slots_held is e = e ∙ rw (is, slots_held) (sym (premise_is p (w.next + 1) kept_nothing))

    -- A premise is proved by a word or more.
    pub premise_past : (p : Premise) {r : Walked} {v : Walk}
        → verdict_of r ≡ premise_from es steps slots w (w.next + 1) p → r ≡ Done v
        → w.next + 1 < v.next
    premise_past p {r} {v} call is =
        let closed : premise_from es steps slots w (w.next + 1) p ≡ Verdicts.Closed v.next =
        sym call ∙ ap verdict_of is in
        let (least, most) = uses_words same most_depth es _ (w.next + 1) v.next
        (under (obligation_of w slots) p ∷ []) closed in
        omega arith

    -- What the only premise comes to, and so where it is proved.
    pub only_answered : {p : Premise} {verdict : WalkVerdict} → opened w.goal x ≡ Opening.One p
        → verdict ≡ premise_from es steps slots w (w.next + 1) p
        → verdict ≡ run_from es steps before w₀
    only_answered e call = call ∙ sym (one e)

    pub only_proved : {p : Premise} {r : Walked} {v : Walk} → opened w.goal x ≡ Opening.One p
        → verdict_of r ≡ premise_from es steps slots w (w.next + 1) p → r ≡ Done v
        → Verdicts.Closed v.next ≡ run_from es steps before w₀
    only_proved e call is = sym (ap verdict_of is) ∙ only_answered e call

    -- The first of two is refused, or proved, and then the second is due.
    pub first_refused : {p q : Premise} {r : Walked} {number place : ℕ} → opened w.goal x ≡ Opening.Two p q
        → verdict_of r ≡ premise_from es steps slots w (w.next + 1) p → r ≡ Refused number place
        → verdict_of r ≡ run_from es steps before w₀
    first_refused e call is = ap verdict_of is ∙ sym (two e ∙ rw (← call, is))

    pub first_proved : {p q : Premise} {r : Walked} {v : Walk} → opened w.goal x ≡ Opening.Two p q
        → verdict_of r ≡ premise_from es steps slots w (w.next + 1) p → r ≡ Done v
        → run_from es steps before w₀ ≡ premise_from es steps slots w v.next q
    first_proved e call is = two e ∙ rw (← call, is)

    -- ---- depth and turns

    -- The step is one of 01's rows, at a depth within the limit.
    takes_here : {y : Opened} → opened w.goal x ≡ y
        → OfPremises (Takes same es most_depth (get_or steps w.next 0) (obligation_of w slots)) y
    takes_here e = rw (← e, here.opens) (step_takes same most_depth es (get_or steps w.next 0) (obligation_of w slots))

    -- "10. The step's depth is above 512": where there is a premise, it is not.
    pub deep_one : {p : Premise} → opened w.goal x ≡ Opening.One p → w.depth ≤ most_depth
    deep_one e = (takes_here e).fits

    pub deep_two : {p q : Premise} → opened w.goal x ≡ Opening.Two p q → w.depth ≤ most_depth
    deep_two e = (takes_here e).fits

    -- Of two premises, which are truths.
    pub turns_here : {p q : Premise} → opened w.goal x ≡ Opening.Two p q → Turns w.goal (p ∷ q ∷ [])
    turns_here e = turns (takes_here e).applies

-- What a call for the walk v comes to, and what it leaves.
pub record Came (es : List Entry) (steps slots : List ℕ) (v : Walk) (r : Walked) (after : List ℕ) : Type 0 where
  pub verdict : verdict_of r ≡ run_from es steps slots v
  pub left : Left v slots r after

-- The goal is proved: what was held since is taken back.
pub done : (es : List Entry) (steps before : List ℕ) (w₀ : Walk) {slots after : List ℕ} {n held : ℕ} {g : Goal}
    {r : Walked}
    → Since es w₀.held before slots held → Verdicts.Closed n ≡ run_from es steps before w₀
    → r ≡ Done (record { goal = g; next = n; depth = w₀.depth; held = w₀.held })
    → after ≡ released slots w₀.held held
    → (verdict_of r ≡ run_from es steps before w₀) × Left w₀ before r after
done es steps before w₀ since run is back = rw (is, back) (run, (refl, refl, since.undoes.leaves))
