-- In a proof that closes, the goals that are kept are one for each step, and the lines at them are the trace
-- (specs/Goals.antt). In order: what is kept of a goal; a step; the walk; one for each step, and written. Assumes
-- nothing.
use Prim.Native.Nat.{ℕ, suc, ◌≤◌, ◌<◌}
use native.Mathlib.Omega.{arith}
use mathlib.Core.Bool.{true}
use mathlib.Core.Path.{◌≡◌, refl, sym, ap, ap₂, ◌∙◌}
use mathlib.Core.Option.{some}
use mathlib.Core.List.{List, [], ◌∷◌, ◌++◌, map}
use lib.ListN.{length, get_or, length-map}
use lib.Dec.{eqb, leb}
use borrow.Author.Tests.{eq-eqb, le-leb}
use Rattle.basics.specs.Limits.{most_depth}
use Rattle.basics.specs.Written.{written}
use Rattle.basics.proofs.Choice.{pick_cases}
use Rattle.table.specs.declared.entry.Formula.{Formula}
use Rattle.table.specs.declared.entry.Principal.{Principal}
use Rattle.table.specs.declared.entry.Entry.{Entry}
use Rattle.table.specs.declared.entry.Entry.TheVariants.{Atom, False, Implies, And, Or, Says, IllFormed}
use Rattle.table.specs.Entry.{formula}
use Rattle.table.specs.Tests.{entry_at}
use Rattle.steps.specs.declared.goal.Goal.{Goal}
use Rattle.steps.specs.declared.goal.Goal.TheVariants.{True, Affirms}
use Rattle.steps.specs.declared.opened.Premise.{Premise}
use Rattle.steps.specs.declared.opened.Opened as O
use Rattle.steps.specs.declared.opened.Opened.TheVariants as Opening
use Rattle.steps.specs.Verdict.{Closed}
use Rattle.steps.specs.Obligation.{Obligation, under}
use Rattle.steps.specs.Applies.{Applies, init, affirm, implies_right, implies_left, false_left, and_right, and_left, or_right_first, or_right_second, or_left, says_right, says_left}
use Rattle.steps.specs.Step.{rules, unknown, step}
use Rattle.steps.specs.Run.{after, walk}
use Rattle.steps.specs.Steps.{premises}
use Rattle.steps.specs.Trace.{Line, trace}
use Rattle.steps.specs.Figure1.{same}
use Rattle.steps.proofs.Steps.{step_opens}
use Rattle.steps.proofs.Closed.{walk_closed, run_closed}
use Rattle.steps.proofs.Parts.{after_opens}
use Rattle.steps.proofs.Figure1.{line_per_word}
use Rattle.rules.specs.Tested.{tested}
use Rattle.goals.specs.declared.kept.Kept.{Kept}
use Rattle.goals.specs.Kept.{affirmed_by, goal_at, line_at, lines_at}
use Rattle.goals.specs.Goals.{kept, goal_kept, kept_as, premises_kept, opens_freely, goals_from, numbers_of, affirms_of, goals_of, GoalPerStep, GoalsOfTrace, GoalsWritten}

-- ---- what is kept of a goal

-- A truth is no affirmation.
true_not_affirms : {k : Principal} {f g : Formula} → True f ≡ Affirms k g → ⊥
true_not_affirms e = let z : ◌≡◌ {A = ℕ} 0 1 = cc in omega arith

module _ (es : List Entry) where
  -- A truth is kept by its formula's number,
  truth_of : (n : ℕ) (f : Formula) (e : Entry) → affirmed_by e (True (formula n)) ≡ True f → formula n ≡ f
  truth_of n f (Says k a) e = absurd (true_not_affirms (sym e))
  truth_of n f (Atom a) e = cc
  truth_of n f False e = cc
  truth_of n f (Implies a b) e = cc
  truth_of n f (And a b) e = cc
  truth_of n f (Or a b) e = cc
  truth_of n f IllFormed e = cc

  truth_number : (n b : ℕ) (f : Formula) → goal_at es n b ≡ True f → n ≡ f.0
  truth_number n b f =
      pick_cases (λ g. g ≡ True f → n ≡ f.0) (eqb b 0)
      (λ t e. let is : formula n ≡ f = cc in ap (λ (h : Formula). h.0) is)
      (λ t e. ap (λ (h : Formula). h.0) (truth_of n f (entry_at es n) e))

  -- and the goal itself, where a premise has it too, as before.
  same_goal : (k : Kept) (g : Goal) → goal_kept es k ≡ g → goal_kept es (kept_as k.number g) ≡ g
  same_goal k (True f) = λ e. refl
  same_goal k (Affirms l f) =
      pick_cases (λ g. g ≡ Affirms l f → goal_at es k.number 1 ≡ Affirms l f) (eqb k.affirms 0)
      (λ t e. absurd (true_not_affirms e))
      (λ t e. e)

  -- The affirmation of code 10's premise is the one that its goal stands for.
  affirmation : (k : Kept) {f a : Formula} {l : Principal} → goal_kept es k ≡ True f → entry_at es f.0 ≡ Says l a
      → goal_kept es (kept_as k.number (Affirms l a)) ≡ Affirms l a
  affirmation k {f} is e = rw (truth_number k.number k.affirms f is, e)

  -- ---- a step

  -- The goals of these obligations are kept so, and behind each of them wait fewer than it is deep.
  abbrev Keeps : List Kept → List Obligation → Type 0
  Keeps [] [] = Unit {0}
  Keeps [] (o ∷ os) = ⊥
  Keeps (k ∷ ks) [] = ⊥
  Keeps (k ∷ ks) (o ∷ os) = (goal_kept es k ≡ o.goal) × ((length ks < o.depth) × Keeps ks os)

  module _ (k : Kept) (ks : List Kept) (o : Obligation) (os : List Obligation)
      (less : length ks < o.depth) (h : Keeps ks os) where
    -- So it is with the premises of a rule in the place of its conclusion,
    premises_keep : {hs : List ℕ} {c n : ℕ} {g : Goal} {ps : List Premise} → Applies same es hs c n g ps
        → goal_kept es k ≡ g
        → Keeps (premises_kept k.number ps ++ ks) (map (under o) ps ++ os)
    premises_keep (init m e) is = h
    premises_keep affirm is = (refl, (omega arith, h))
    premises_keep (implies_right e) is = (refl, (omega arith, h))
    premises_keep {g = g} (implies_left m e) is = (refl, (omega arith, (same_goal k g is, (omega arith, h))))
    premises_keep (false_left m e) is = h
    premises_keep (and_right e) is = (refl, (omega arith, (refl, (omega arith, h))))
    premises_keep {g = g} (and_left m e) is = (same_goal k g is, (omega arith, h))
    premises_keep (or_right_first e) is = (refl, (omega arith, h))
    premises_keep (or_right_second e) is = (refl, (omega arith, h))
    premises_keep {g = g} (or_left m e) is = (same_goal k g is, (omega arith, (same_goal k g is, (omega arith, h))))
    premises_keep (says_right e) is = (affirmation k is e, (omega arith, h))
    premises_keep {g = g} (says_left m e t) is = (same_goal k g is, (omega arith, h))

  -- which it opens where every formula counts as a hypothesis, too.
  opens_row : {hs : List ℕ} {c n : ℕ} {g : Goal} {ps : List Premise} → Applies same es hs c n g ps
      → premises (tested (get_or (rules same es) c unknown) true n g) ≡ some ps
  opens_row (init {f} m e) = rw (e, eq-eqb f.0 f.0 refl)
  opens_row affirm = refl
  opens_row (implies_right e) = rw e
  opens_row (implies_left m e) = rw e
  opens_row (false_left m e) = rw e
  opens_row (and_right e) = rw e
  opens_row (and_left m e) = rw e
  opens_row (or_right_first e) = rw e
  opens_row (or_right_second e) = rw e
  opens_row (or_left m e) = rw e
  opens_row (says_right e) = rw e
  opens_row (says_left m e t) = rw (e, t)

-- ---- the walk

module _ (es : List Entry) where
  abbrev lines_of : List ℕ → List Kept → List Line
  lines_of ws gs = lines_at es ws (numbers_of gs) (affirms_of gs)

  -- The goal of a step, and then those of its premises.
  goals_next : (w : ℕ) (ws : List ℕ) (k : Kept) (ks : List Kept) (ps : List Premise) → length ks ≤ most_depth
      → premises (opens_freely es w (goal_kept es k)) ≡ some ps
      → goals_from es (w ∷ ws) (k ∷ ks) ≡ k ∷ goals_from es ws (premises_kept k.number ps ++ ks)
  unfolding goals_from
  goals_next w ws k ks ps few e =
      let next : List Premise → List Kept = λ ps. goals_from es ws (premises_kept k.number ps ++ ks) in
      rw (le-leb (length ks) most_depth few)
      (ap (λ (gs : List Kept). k ∷ gs) (after_opens (opens_freely es w (goal_kept es k)) ps (λ number. []) next e))

  walk_lines : (ws : List ℕ) (p q : ℕ) (ks : List Kept) (os : List Obligation) → Keeps es ks os
      → walk same most_depth es ws p os ≡ Closed q → lines_of ws (goals_from es ws ks) ≡ trace same most_depth es ws os
  unfolding lines_at goals_from trace
  walk_lines [] p q ks os h e = refl
  walk_lines (w ∷ ws) p q [] [] h e = refl
  walk_lines (w ∷ ws) p q [] (o ∷ os) h e = absurd h
  walk_lines (w ∷ ws) p q (k ∷ ks) [] h e = absurd h
  walk_lines (w ∷ ws) p q (k ∷ ks) (o ∷ os) (is, (less, h)) e =
      let (ps, takes, closes) = walk_closed same most_depth es w ws p q o os e in
      let fits = takes.fits in
      let row = opens_row es takes.applies in
      let opens : premises (opens_freely es w (goal_kept es k)) ≡ some ps = rw is row in
      let keeps = premises_keep es k ks o os less h takes.applies is in
      let next : List Premise → List Line = λ ps. trace same most_depth es ws (map (under o) ps ++ os) in
      let steps = (step_opens same most_depth es w o ps).1 takes in
      ap (lines_of (w ∷ ws)) (goals_next w ws k ks ps (omega arith) opens)
      ∙ ap₂ (λ (l : Line) (ls : List Line). l ∷ ls) (ap (line_at es w) is)
      (walk_lines ws (suc p) q (premises_kept k.number ps ++ ks) (map (under o) ps ++ os) keeps closes
      ∙ sym (after_opens (step same es most_depth w o) ps (λ number. []) next steps))

pub goals_of_trace : GoalsOfTrace
goals_of_trace es ss n ws e =
    walk_lines es ws 0 (length ws) (kept n 0 ∷ []) _ (refl, (omega arith, tt)) (run_closed same most_depth es _ ws e)

-- ---- one for each step, and written

-- What follows a step is no longer than with its premises.
after_most : (x : O.Opened) (next : List Premise → List Kept) (n : ℕ) → ((ps : List Premise) → length (next ps) ≤ n)
    → length (after x (λ number. []) next) ≤ n
after_most (Opening.Refused number) next n h = omega arith
after_most Opening.Closed next n h = h _
after_most (Opening.One a) next n h = h _
after_most (Opening.Two a b) next n h = h _

module _ (es : List Entry) where
  -- There are no more goals than steps, and no more lines than goals.
  goals_most : (ws : List ℕ) (ks : List Kept) → length (goals_from es ws ks) ≤ length ws
  unfolding goals_from
  goals_most [] ks = omega arith
  goals_most (w ∷ ws) [] = omega arith
  goals_most (w ∷ ws) (k ∷ ks) =
      let next : List Premise → List Kept = λ ps. goals_from es ws (premises_kept k.number ps ++ ks) in
      let most = after_most (opens_freely es w (goal_kept es k)) next (length ws) (λ ps. goals_most ws _) in
      pick_cases (λ (gs : List Kept). length gs ≤ suc (length ws)) (leb (length ks) most_depth)
      {a = k ∷ after (opens_freely es w (goal_kept es k)) (λ number. []) next} {b = []} (λ t. omega arith)
      (λ t. omega arith)

  lines_most : (ws ns bs : List ℕ) → length (lines_at es ws ns bs) ≤ length ns
  unfolding lines_at
  lines_most [] ns bs = omega arith
  lines_most (w ∷ ws) [] bs = omega arith
  lines_most (w ∷ ws) (n ∷ ns) [] = omega arith
  lines_most (w ∷ ws) (n ∷ ns) (b ∷ bs) = let most = lines_most ws ns bs in omega arith

  -- Lines that are written over others, as far as the steps go.
  lines_written : (ws ns bs numbers affirms : List ℕ) → length ws ≤ length ns → length ws ≤ length bs
      → length ws ≤ length numbers → length ws ≤ length affirms
      → lines_at es ws (written numbers ns) (written affirms bs) ≡ lines_at es ws ns bs
  unfolding lines_at written
  lines_written [] ns bs numbers affirms h i j k = refl
  lines_written (w ∷ ws) [] bs numbers affirms h i j k = absurd (omega arith)
  lines_written (w ∷ ws) (n ∷ ns) [] numbers affirms h i j k = absurd (omega arith)
  lines_written (w ∷ ws) (n ∷ ns) (b ∷ bs) [] affirms h i j k = absurd (omega arith)
  lines_written (w ∷ ws) (n ∷ ns) (b ∷ bs) (m ∷ numbers) [] h i j k = absurd (omega arith)
  lines_written (w ∷ ws) (n ∷ ns) (b ∷ bs) (m ∷ numbers) (a ∷ affirms) h i j k =
      ap (λ (ls : List Line). line_at es w (goal_at es n b) ∷ ls)
      (lines_written ws ns bs numbers affirms (omega arith) (omega arith) (omega arith) (omega arith))

pub goal_per_step : GoalPerStep
goal_per_step es ss n ws e =
    let gs = goals_of es ws n in
    let lines = ap length (goals_of_trace es ss n ws e) ∙ line_per_word most_depth es _ ws e in
    let least = lines_most es ws (numbers_of gs) (affirms_of gs) in
    let most = goals_most es ws (kept n 0 ∷ []) in
    let same_count : length (numbers_of gs) ≡ length gs = length-map gs (λ k. k.number) in
    omega arith

pub goals_written : GoalsWritten
goals_written es ss n ws e numbers affirms i j =
    let gs = goals_of es ws n in
    let each = goal_per_step es ss n ws e in
    let ns : length (numbers_of gs) ≡ length gs = length-map gs (λ k. k.number) in
    let bs : length (affirms_of gs) ≡ length gs = length-map gs (λ k. k.affirms) in
    lines_written es ws (numbers_of gs) (affirms_of gs) numbers affirms (omega arith) (omega arith) i j
    ∙ goals_of_trace es ss n ws e
