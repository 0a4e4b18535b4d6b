-- One step is refused by the first reason that applies (specs/Reasons.antt), or opens the premises of the rule that
-- applies (specs/Applies.antt). In order: the twelve rules in the order of their codes; a step; its premises. To show
-- something of every step, show it of each row (`step_takes`). Assumes nothing.
use Prim.Native.Nat.{ℕ, ◌≤◌, ◌<◌}
use native.Mathlib.Omega.{arith}
use mathlib.Core.Bool.{Bool, true, false, true≢false}
use mathlib.Core.Path.{◌≡◌, refl, sym, ap, subst, ◌∙◌}
use mathlib.Core.Logic.{◌↔◌}
use mathlib.Core.Option.{none, some, none-ne-some}
use mathlib.Core.List.{List, [], ◌∷◌}
use lib.ListN.{length, get_or}
use lib.Dec.{eqb, ltb, leb}
use borrow.Author.Tests.{ltb-true, leb-true, leb-false, eqb-true, eqb-false, lt-ltb, le-leb, eq-eqb}
use Rattle.basics.specs.Membership.{holds}
use Rattle.basics.specs.Choice.{pick, both}
use Rattle.basics.specs.Word.{upper, lower}
use Rattle.basics.proofs.Choice.{both_true, pick_cases}
use Rattle.basics.proofs.Membership.{holds_member}
use Rattle.basics.proofs.Order.{first_is_lowest}
use Rattle.table.specs.declared.entry.Atom as A
use Rattle.table.specs.declared.entry.Formula.{Formula}
use Rattle.table.specs.declared.entry.Principal.{Principal}
use Rattle.table.specs.declared.entry.Entry.{Entry}
use Rattle.table.specs.declared.entry.Entry.TheVariants.{Atom, Says}
use Rattle.table.specs.Tests.{entry_at}
use Rattle.steps.specs.declared.goal.Goal.{Goal}
use Rattle.steps.specs.declared.goal.Goal.TheVariants.{True, Affirms}
use Rattle.steps.specs.declared.opened.Premise.{Premise}
use Rattle.steps.specs.declared.opened.Opened.{Opened}
use Rattle.steps.specs.declared.opened.Opened.TheVariants.{Refused, Closed, One, Two}
use Rattle.steps.specs.Obligation.{Obligation, adding}
use Rattle.steps.specs.Applies.{Named, Applies, init, affirm, implies_right, implies_left, false_left, and_right, and_left, or_right_first, or_right_second, or_left, says_right, says_left, Takes}
use Rattle.steps.specs.Reasons as Kind
use Rattle.steps.specs.Reasons.{row_of, too_deep, ReasonAt, FirstAt}
use Rattle.steps.specs.Rules as Rules
use Rattle.steps.specs.Rules.{served_by}
use Rattle.steps.specs.Step.{Rule, names, plain, unknown, rules, applied, opens, step}
use Rattle.steps.specs.Steps.{premises, StepRefused, StepOpens, StepTaken}
use Rattle.steps.proofs.Lowest.{Least, in_range}
use Rattle.steps.proofs.RuleReasons.{no_rule_of, needless, plain_goal, unheld, named_kind, named_goal, wrong_atom, unserved, unrefused}
use Rattle.steps.proofs.Cases.{OfOpened, of_opened, OfPremises, truth_cases, affirmation_cases, served_cases, atom_cases, false_cases, implies_cases, and_cases, or_cases, says_cases, Each, ◌then◌, get_d_cases}

-- ---- the twelve rules

module _ (speaks : ℕ → ℕ → Bool) (es : List Entry) {limit depth : ℕ} (hs : List ℕ) (shallow : depth ≤ limit) where
  -- what is opened as the rule of code c, with part n, on g: refused by the least reason, or the premises of 01's row
  abbrev Of : ℕ → ℕ → Goal → Opened → Type 0
  Of c n g x = OfOpened (Least speaks es limit depth hs c n g) (Applies speaks es hs c n g) x

  abbrev Opens : ℕ → Rule → Type 0
  Opens c rule = (n : ℕ) (g : Goal) → Of c n g (applied speaks es rule hs n g)

  -- a rule that names a hypothesis, and one that names nothing
  named : (c : ℕ) (b : Kind.Below) (k : Kind.Kind) → row_of c ≡ some (Kind.row b (some k)) → (rule : ℕ → Goal → Opened)
      → ((n : ℕ) → Named es hs n → (g : Goal) → Of c n g (rule n g)) → Opens c (names rule)
  named c b k is rule p n g =
      pick_cases (Of c n g) (both (ltb n (length es)) (holds hs n))
      (λ t.
      let (less, held) = (both_true (ltb n (length es)) (holds hs n)).0 t in
      p n record { in_table = ltb-true n (length es) less; is_held = (holds_member hs n).0 held } g)
      (λ t. unheld shallow c b k is n g (ltb n (length es)) (holds hs n) refl refl t)

  unnamed : (c : ℕ) (b : Kind.Below) → row_of c ≡ some (Kind.row b none) → (rule : Goal → Opened)
      → ((g : Goal) → Of c 0 g (rule g)) → Opens c (plain rule)
  unnamed c b is rule p n g =
      pick_cases (Of c n g) (eqb n 0)
      (λ t. subst (λ m. Of c m g (rule g)) (sym (eqb-true n 0 t)) (p g))
      (λ t. needless shallow c b is n g (eqb-false n 0 t))

  -- the two rules that compare: init the named atom with the goal,
  same_atom : (n : ℕ) → Named es hs n → (f : Formula) (a : A.Atom) → entry_at es f.0 ≡ Atom a
      → Of 0 n (True f) (pick (eqb n f.0) Closed (Refused 13))
  same_atom n h f a e =
      pick_cases (Of 0 n (True f)) (eqb n f.0)
      (λ t. let same = eqb-true n f.0 t in rw same (init (rw same at h) e))
      (λ t. wrong_atom shallow h f (eqb-false n f.0 t))

  -- says left the named principal with the goal's
  same_principal : (n : ℕ) → Named es hs n → (g : Goal) (k : Principal) (a : Formula) → entry_at es n ≡ Says k a
      → Of 11 n g (served_by speaks k g (One (adding g a)))
  same_principal n h g k a e =
      served_cases (Least speaks es limit depth hs 11 n) (Applies speaks es hs 11 n) speaks k (λ i. One (adding i a)) (λ l c. says_left h e)
      (λ l c t. unserved shallow n h (Affirms l c) k a e (λ u. true≢false (sym u ∙ t)))
      (λ f. unserved shallow n h (True f) k a e (λ u. u)) g

  -- of a code and a part: what refuses, and the row that applies
  abbrev least : ℕ → ℕ → Goal → ℕ → Type 0
  least c n = Least speaks es limit depth hs c n

  abbrev applies : ℕ → ℕ → Goal → List Premise → Type 0
  applies c n = Applies speaks es hs c n

  -- in the order of their codes
  each : Each Opens (rules speaks es)
  each =
      named 0 _ _ refl _
      (λ n h. truth_cases (least 0 n) (applies 0 n) _ (λ f. atom_cases (least 0 n (True f)) (applies 0 n (True f)) (entry_at es f.0) _ (same_atom n h f) (named_goal shallow 0 _ _ refl n h (True f)))
      (λ k f. named_goal shallow 0 _ _ refl n h (Affirms k f) (λ u. u)))
      then unnamed 1 _ refl _ (affirmation_cases (least 1 0) (applies 1 0) _ (λ k a. affirm) (λ f. plain_goal shallow 1 _ refl (True f) (λ u. u)))
      then unnamed 2 _ refl _
      (truth_cases (least 2 0) (applies 2 0) _ (λ f. implies_cases (least 2 0 (True f)) (applies 2 0 (True f)) (entry_at es f.0) _ (λ a b. implies_right) (plain_goal shallow 2 _ refl (True f)))
      (λ k f. plain_goal shallow 2 _ refl (Affirms k f) (λ u. u)))
      then named 3 _ _ refl _ (λ n h g. implies_cases (least 3 n g) (applies 3 n g) (entry_at es n) _ (λ a b. implies_left h) (named_kind shallow 3 _ _ refl n h g))
      then named 4 _ _ refl _ (λ n h g. false_cases (least 4 n g) (applies 4 n g) (entry_at es n) _ (false_left h) (named_kind shallow 4 _ _ refl n h g))
      then unnamed 5 _ refl _
      (truth_cases (least 5 0) (applies 5 0) _ (λ f. and_cases (least 5 0 (True f)) (applies 5 0 (True f)) (entry_at es f.0) _ (λ a b. and_right) (plain_goal shallow 5 _ refl (True f)))
      (λ k f. plain_goal shallow 5 _ refl (Affirms k f) (λ u. u)))
      then named 6 _ _ refl _ (λ n h g. and_cases (least 6 n g) (applies 6 n g) (entry_at es n) _ (λ a b. and_left h) (named_kind shallow 6 _ _ refl n h g))
      then unnamed 7 _ refl _
      (truth_cases (least 7 0) (applies 7 0) _ (λ f. or_cases (least 7 0 (True f)) (applies 7 0 (True f)) (entry_at es f.0) _ (λ a b. or_right_first) (plain_goal shallow 7 _ refl (True f)))
      (λ k f. plain_goal shallow 7 _ refl (Affirms k f) (λ u. u)))
      then unnamed 8 _ refl _
      (truth_cases (least 8 0) (applies 8 0) _ (λ f. or_cases (least 8 0 (True f)) (applies 8 0 (True f)) (entry_at es f.0) _ (λ a b. or_right_second) (plain_goal shallow 8 _ refl (True f)))
      (λ k f. plain_goal shallow 8 _ refl (Affirms k f) (λ u. u)))
      then named 9 _ _ refl _ (λ n h g. or_cases (least 9 n g) (applies 9 n g) (entry_at es n) _ (λ a b. or_left h) (named_kind shallow 9 _ _ refl n h g))
      then unnamed 10 _ refl _
      (truth_cases (least 10 0) (applies 10 0) _ (λ f. says_cases (least 10 0 (True f)) (applies 10 0 (True f)) (entry_at es f.0) _ (λ k a. says_right) (plain_goal shallow 10 _ refl (True f)))
      (λ k f. plain_goal shallow 10 _ refl (Affirms k f) (λ u. u)))
      then named 11 _ _ refl _ (λ n h g. says_cases (least 11 n g) (applies 11 n g) (entry_at es n) _ (same_principal n h g) (named_kind shallow 11 _ _ refl n h g))
      then tt

  -- tests 11 to 14
  code_opens : (c : ℕ) → Opens c (get_or (rules speaks es) c unknown)
  code_opens = get_d_cases Opens (rules speaks es) unknown each (λ c high n g. no_rule_of shallow c n g high)

-- ---- a step

module _ (speaks : ℕ → ℕ → Bool) (limit : ℕ) (es : List Entry) where
  -- the least reason is the first in the checking order
  abbrev LeastAt : ℕ → Obligation → ℕ → Type 0
  LeastAt w o m = Least speaks es limit o.depth o.hypotheses (upper w) (lower w) o.goal m

  first_least : (w : ℕ) (o : Obligation) (m : ℕ) → FirstAt speaks limit es w o m ↔ LeastAt w o m
  first_least w o m =
      let range : (n p : ℕ) → ReasonAt speaks limit es w o n → (1 ≤ n) × (n ≤ 15) × (¬ (n ≡ 8)) = λ n p why.
      let (lo, hi) = in_range n why in (omega arith, omega arith, λ e. omega arith) in
      let (to, from) = first_is_lowest (λ n p. ReasonAt speaks limit es w o n) range m 0 in (
        λ first. let (why, none-lower) = to first in record { applies = why; lowest = λ j other. not_lower m j (λ l. none-lower j 0 l other) },
        λ least. from (least.applies, λ n q l why. let k = least.lowest n why in omega arith),
      )
    where
      not_lower : (m j : ℕ) → ¬ (j < m) → m ≤ j
      not_lower m j l = omega (arith, l)

  -- tests 10 to 14
  step_exact : (w : ℕ) (o : Obligation) → OfOpened (LeastAt w o) (Takes speaks es limit w o) (step speaks es limit w o)
  unfolding step opens
  step_exact w o =
      pick_cases (OfOpened (LeastAt w o) (Takes speaks es limit w o)) (leb o.depth limit)
      (λ t.
      of_opened (Least speaks es limit o.depth o.hypotheses (upper w) (lower w) o.goal) (LeastAt w o)
      (Applies speaks es o.hypotheses (upper w) (lower w) o.goal) (Takes speaks es limit w o)
      (opens speaks es w o) (λ m least. least) (λ ps a. record { fits = leb-true o.depth limit t; applies = a })
      (code_opens speaks es o.hypotheses (leb-true o.depth limit t) (upper w) (lower w) o.goal))
      (λ t. record {
        applies = too_deep refl (leb-false o.depth limit t);
        lowest = λ j why. (in_range j why).0;
      })

  -- the premises of a step that is not refused
  pub step_takes : (w : ℕ) (o : Obligation) → OfPremises (Takes speaks es limit w o) (step speaks es limit w o)
  step_takes w o =
      of_opened (LeastAt w o) (λ n. Unit) (Takes speaks es limit w o) (Takes speaks es limit w o) (step speaks es limit w o) (λ m least. tt) (λ ps takes. takes) (step_exact w o)

  -- A word that takes o to premises has no reason against it.
  takes_unrefused : {w : ℕ} {o : Obligation} {ps : List Premise} → Takes speaks es limit w o ps → (m : ℕ) → ¬ ReasonAt speaks limit es w o m
  takes_unrefused {o = o} takes = unrefused takes.fits takes.applies

  -- What a step x opens is refused with m exactly when m is its least reason, and
  refused_by : (w : ℕ) (o : Obligation) (m : ℕ) (x : Opened) → OfOpened (LeastAt w o) (Takes speaks es limit w o) x → LeastAt w o m → x ≡ Refused m
  refused_by w o m (Refused n) h least =
      let i = h.lowest m least.applies in
      let j = least.lowest n h.applies in
      let e : n ≡ m = omega arith in ap Refused e
  refused_by w o m Closed h least = absurd (takes_unrefused h m least.applies)
  refused_by w o m (One a) h least = absurd (takes_unrefused h m least.applies)
  refused_by w o m (Two a b) h least = absurd (takes_unrefused h m least.applies)

  pub step_refused : StepRefused speaks limit es
  step_refused w o number =
      let (to, from) = first_least w o number in (
        λ e. from (subst (OfOpened (LeastAt w o) (Takes speaks es limit w o)) e (step_exact w o)),
        λ first. refused_by w o number (step speaks es limit w o) (step_exact w o) (to first),
      )

  -- ---- premises

  module _ (hs : List ℕ) where
    -- what the rule of a code opens
    abbrev Opening : ℕ → ℕ → Goal → Opened
    Opening c n g = applied speaks es (get_or (rules speaks es) c unknown) hs n g

    -- a rule that names a hypothesis is asked,
    asked : {n : ℕ} → Named es hs n → (rule : ℕ → Goal → Opened) (g : Goal) → applied speaks es (names rule) hs n g ≡ rule n g
    asked {n} h rule g = rw (lt-ltb n (length es) h.in_table, (holds_member hs n).1 h.is_held)

    -- and opens the premises of its row.
    opens_row : {c n : ℕ} {g : Goal} {ps : List Premise} → Applies speaks es hs c n g ps → premises (Opening c n g) ≡ some ps
    opens_row (init {f} h e) = rw (asked h (Rules.init speaks es) (True f), e, eq-eqb f.0 f.0 refl)
    opens_row affirm = refl
    opens_row (implies_right e) = rw e
    opens_row {g = g} (implies_left h e) = rw (asked h (Rules.implies_left speaks es) g, e)
    opens_row {g = g} (false_left h e) = rw (asked h (Rules.false_left speaks es) g, e)
    opens_row (and_right e) = rw e
    opens_row {g = g} (and_left h e) = rw (asked h (Rules.and_left speaks es) g, e)
    opens_row (or_right_first e) = rw e
    opens_row (or_right_second e) = rw e
    opens_row {g = g} (or_left h e) = rw (asked h (Rules.or_left speaks es) g, e)
    opens_row (says_right e) = rw e
    opens_row {g = g} (says_left h e t) = rw (asked h (Rules.says_left speaks es) g, e, t)

  -- what a step opens, its premises are taken to
  premises_taken : (w : ℕ) (o : Obligation) (ps : List Premise) (x : Opened)
      → OfPremises (Takes speaks es limit w o) x → premises x ≡ some ps → Takes speaks es limit w o ps
  premises_taken w o ps (Refused m) h e = absurd (none-ne-some ps e)
  premises_taken w o ps Closed h e = let same : [] ≡ ps = cc in rw (← same) h
  premises_taken w o ps (One a) h e = let same : a ∷ [] ≡ ps = cc in rw (← same) h
  premises_taken w o ps (Two a b) h e = let same : a ∷ b ∷ [] ≡ ps = cc in rw (← same) h

  pub step_opens : StepOpens speaks limit es
  unfolding step opens
  step_opens w o ps = (
    premises_taken w o ps (step speaks es limit w o) (step_takes w o),
    λ takes. rw (le-leb o.depth limit takes.fits) (opens_row o.hypotheses takes.applies),
  )

  -- Where no reason applies, the step is taken.
  taken : (w : ℕ) (o : Obligation) (x : Opened) → OfOpened (LeastAt w o) (Takes speaks es limit w o) x
      → ((number : ℕ) → ¬ ReasonAt speaks limit es w o number) → (ps : List Premise) × Takes speaks es limit w o ps
  taken w o (Refused m) h none_applies = absurd (none_applies m h.applies)
  taken w o Closed h none_applies = ([], h)
  taken w o (One a) h none_applies = (a ∷ [], h)
  taken w o (Two a b) h none_applies = (a ∷ b ∷ [], h)

  pub step_taken : StepTaken speaks limit es
  step_taken w o = (λ (ps, takes). takes_unrefused takes, taken w o (step speaks es limit w o) (step_exact w o))
