-- Slots that hold the statements: once they are held, and once a proof is closed. Assumes nothing.
use Prim.Native.Nat.{ℕ, ◌<◌}
use mathlib.Core.Path.{◌≡◌, refl, sym, ap, ◌∙◌, subst}
use mathlib.Core.List.{List, [], ◌∷◌}
use lib.ListN.{replicate}
use Rattle.basics.specs.Limits.{most_depth}
use Rattle.basics.proofs.Membership.{holds_append}
use Rattle.table.specs.declared.entry.Entry.{Entry}
use Rattle.table.specs.declared.entry.Formula.{Formula}
use Rattle.table.specs.Entry.{formula}
use Rattle.steps.specs.declared.goal.Goal.TheVariants.{True}
use Rattle.steps.specs.Obligation.{obligation}
use Rattle.steps.specs.Figure1.{same, walk}
use Rattle.steps.proofs.Alike.{walk_named}
use Rattle.hypotheses.specs.Slots.{shown, held_all, count_all}
use Rattle.hypotheses.specs.Trail.{Kept}
use Rattle.hypotheses.proofs.Held.{shown_all, shown_none, live_all, live_none, half_all}
use Rattle.walk.specs.Walks.{run_from, Marks, Holding, Empty}
use Rattle.walk.proofs.Walks.{shown_kept, since_nothing, since_kept}

-- The statements are held.
pub holding_all : {es : List Entry} (slots statements : List ℕ) → Empty slots → Marks es slots
    → {held : ℕ} {slots' : List ℕ} → held ≡ count_all slots 0 statements → slots' ≡ held_all slots 0 statements
    → Holding es statements slots' held
holding_all {es} slots statements empty marks counts holds-all = rw (counts, holds-all) (record {
  ready = record {
    marks = λ n l m. subst (λ (h : ℕ). n < h) (sym (half_all slots 0 statements)) (marks n l m);
    live = live_all statements (live_none slots);
  };
  shows = λ n l m. shown_all statements n (live_none slots) (marks n l m) ∙ rw
      (holds_append (shown slots) statements n, empty n);
})

-- A proof is closed.
pub holding_kept : {es : List Entry} {statements slots after : List ℕ} {held : ℕ} → Holding es statements slots held
    → Kept held slots after
    → Holding es statements after held
holding_kept h kept = record {
  ready = (since_kept (since_nothing h.ready) kept).ready;
  shows = λ n l m. shown_kept n (h.ready.marks n l m) kept ∙ h.shows n l m;
}

-- What is to be proved of a goal from slots that hold the statements is what is to be proved of it from these.
pub goal_run : {es : List Entry} {statements slots : List ℕ} {held : ℕ} (steps : List ℕ) (n : ℕ) {f : Formula}
    → Holding es statements slots held
    → f ≡ formula n → run_from es steps slots (record { goal = True f; next = 0; depth = 1; held = held }) ≡ walk es
    steps 0 (obligation statements n ∷ [])
goal_run {es} steps n h is = walk_named same most_depth es steps 0
    (record { same_goal = ap True is; same_depth = refl; same_named = h.shows })

-- Slots that are all 0 hold nothing.
pub empty_zeros : (k : ℕ) → Empty (replicate k 0)
empty_zeros k n = shown_none k n
