-- Hypotheses form a set, and what a refusal can be (specs/Alike.antt). In order: a step of obligations that are alike;
-- their walk; the number of a step's refusal; number and place of a run's. Assumes nothing.
use Prim.Native.Nat.{ℕ, suc, ◌+◌, ◌<◌, ◌≤◌}
use native.Mathlib.Omega.{arith}
use mathlib.Core.Bool.{Bool, true, false}
use mathlib.Core.Path.{◌≡◌, refl, ap, fun_ext}
use mathlib.Core.Logic.Iff
use mathlib.Core.List.{List, [], ◌∷◌, ◌++◌, map, Forall₂}
use lib.ListN.{length, get_or}
use lib.Dec.{eqb, ltb, leb}
use borrow.Author.Tests.{ltb-true}
use Rattle.std.specs.Prelude.{Err}
use Rattle.basics.specs.Choice.{pick, both}
use Rattle.basics.specs.Membership.{holds}
use Rattle.basics.specs.Word.{radix, upper, lower}
use Rattle.basics.proofs.Membership.{holds_member, holds_append}
use Rattle.basics.proofs.Choice.{pick_cases, same_test}
use Rattle.table.specs.declared.entry.Formula.{Formula}
use Rattle.table.specs.declared.entry.Principal.{Principal}
use Rattle.table.specs.declared.entry.Entry.{Entry}
use Rattle.table.specs.declared.entry.Entry.TheVariants.{Atom, False, Implies, And, Or, Says, IllFormed}
use Rattle.steps.specs.declared.goal.Goal.{Goal}
use Rattle.steps.specs.declared.goal.Goal.TheVariants.{True, Affirms}
use Rattle.steps.specs.declared.opened.Premise.{Premise}
use Rattle.steps.specs.declared.opened.Opened.{Opened}
use Rattle.steps.specs.declared.opened.Opened.TheVariants as Opening
use Rattle.steps.specs.Verdict.{WalkVerdict, Closed, Refused}
use Rattle.steps.specs.Obligation.{Obligation, added, under}
use Rattle.steps.specs.Needs.{truth, affirmation, by_kind}
use Rattle.steps.specs.Rules.{served_by}
use Rattle.steps.specs.Step.{Rule, names, plain, unknown, rules, applied, opens, step}
use Rattle.steps.specs.Run.{after, all_used, walk, run}
use Rattle.steps.specs.Alike.{Alike, HypothesesAreASet, RefusedInRange}
use Rattle.steps.proofs.Cases.{Each, get_d_cases}
use Rattle.steps.proofs.Parts.{refused_at}

-- ---- a step of obligations that are alike

-- the same goal at the same depth, from hypotheses that are the same as far as a step can name them
pub record AsNamed (es : List Entry) (o o' : Obligation) : Type 0 where
  pub same_goal : o.goal ≡ o'.goal
  pub same_depth : o.depth ≡ o'.depth
  pub same_named : (n : ℕ) → n < length es → n < radix → holds o.hypotheses n ≡ holds o'.hypotheses n

-- A second test counts only where the first is passed.
both_same : (t : Bool) {a b : Bool} → (t ≡ true → a ≡ b) → both t a ≡ both t b
both_same true e = e refl
both_same false e = refl

-- From the same set of numbers, whatever is named is the same.
alike_named : (es : List Entry) {o o' : Obligation} → Alike o o' → AsNamed es o o'
alike_named es {o} {o'} a = record {
  same_goal = a.same_goal;
  same_depth = a.same_depth;
  same_named = λ n l m. same_test (holds o.hypotheses n) (holds o'.hypotheses n)
      (Iff.trans (holds_member o.hypotheses n) (Iff.trans (a.same_set n)
      (Iff.symm (holds_member o'.hypotheses n))));
}

module _ (speaks : ℕ → ℕ → Bool) (es : List Entry) where
  -- A rule asks of the hypotheses only whether what it names is held, and a number of F or more never is.
  applied_alike : (rule : Rule) (hs hs' : List ℕ) (n : ℕ) (g : Goal) → (n < length es → holds hs n ≡ holds hs' n)
      → applied speaks es rule hs n g ≡ applied speaks es rule hs' n g
  applied_alike (names rule) hs hs' n g e =
      ap (λ t. pick t (rule n g) (Opening.Refused 12)) (both_same (ltb n (length es))
      (λ t. e (ltb-true n (length es) t)))
  applied_alike (plain rule) hs hs' n g e = refl
  applied_alike unknown hs hs' n g e = refl

  step_alike : (limit w : ℕ) {o o' : Obligation} → AsNamed es o o'
      → step speaks es limit w o ≡ step speaks es limit w o'
  unfolding step opens
  step_alike limit w {o} {o'} a =
      let rule = get_or (rules speaks es) (upper w) unknown in
      let n = lower w in
      rw (
        a.same_depth,
        a.same_goal,
        applied_alike rule o.hypotheses o'.hypotheses n o'.goal (λ l. a.same_named n l (omega arith)),
      )

-- ---- a walk of obligations that are alike

-- Premises of alike obligations are alike: the same is added to both.
holds_added : (hs hs' ns : List ℕ) (n : ℕ) → holds hs n ≡ holds hs' n → holds (hs ++ ns) n ≡ holds (hs' ++ ns) n
holds_added hs hs' ns n e = rw (holds_append hs ns n, holds_append hs' ns n, e)

module _ {es : List Entry} where
  under_alike : {o o' : Obligation} → AsNamed es o o' → (p : Premise) → AsNamed es (under o p) (under o' p)
  under_alike {o} {o'} a p = record {
    same_goal = refl;
    same_depth = ap suc a.same_depth;
    same_named = λ n l m. holds_added o.hypotheses o'.hypotheses (added p.added) n (a.same_named n l m);
  }

  -- What is open after a step is alike, one by one.
  open_alike : {o o' : Obligation} → AsNamed es o o' → (ps : List Premise) {os os' : List Obligation}
      → Forall₂ (AsNamed es) os os' → Forall₂ (AsNamed es) (map (under o) ps ++ os) (map (under o') ps ++ os')
  open_alike a [] l = l
  open_alike a (p ∷ ps) l = Forall₂.cons (under_alike a p) (open_alike a ps l)

module _ (speaks : ℕ → ℕ → Bool) (limit : ℕ) (es : List Entry) where
  walk_alike : (ws : List ℕ) (p : ℕ) (os os' : List Obligation)
      → Forall₂ (AsNamed es) os os' → walk speaks limit es ws p os ≡ walk speaks limit es ws p os'
  unfolding walk
  walk_alike [] p _ _ Forall₂.nil = refl
  walk_alike [] p _ _ (Forall₂.cons a l) = refl
  walk_alike (w ∷ ws) p _ _ Forall₂.nil = refl
  walk_alike (w ∷ ws) p _ _ (Forall₂.cons {a = o} {b = o'} {l₁ = os} {l₂ = os'} a l) =
      rw (step_alike speaks es limit w a)
      (ap (after (step speaks es limit w o') (refused_at p))
      (fun_ext (λ ps. walk_alike ws (suc p) (map (under o) ps ++ os) (map (under o') ps ++ os') (open_alike a ps l))))

  -- So the walk for one goal is the same from hypotheses that are the same as far as a step can name them.
  pub walk_named : (ws : List ℕ) (p : ℕ) {o o' : Obligation} → AsNamed es o o'
      → walk speaks limit es ws p (o ∷ []) ≡ walk speaks limit es ws p (o' ∷ [])
  walk_named ws p {o} {o'} a = walk_alike ws p (o ∷ []) (o' ∷ []) (Forall₂.cons a Forall₂.nil)

  pub hypotheses_are_a_set : HypothesesAreASet speaks limit es
  unfolding run
  hypotheses_are_a_set o o' a ws = ap (all_used (length ws)) (walk_named ws 0 (alike_named es a))

-- ---- the number of a step's refusal

-- What a step can open: a refusal is one of 10 to 14.
data Openable : Opened → Type 0 where
  ten : Openable (Opening.Refused 10)
  eleven : Openable (Opening.Refused 11)
  twelve : Openable (Opening.Refused 12)
  thirteen : Openable (Opening.Refused 13)
  fourteen : Openable (Opening.Refused 14)
  closed : Openable Opening.Closed
  one : {a : Premise} → Openable (Opening.One a)
  two : {a b : Premise} → Openable (Opening.Two a b)

-- by the kinds of a goal
truth_opens : (next : Formula → Opened) → ((f : Formula) → Openable (next f)) → (g : Goal) → Openable (truth g next)
truth_opens next p (True f) = p f
truth_opens next p (Affirms k f) = thirteen

affirmation_opens : (next : Principal → Formula → Opened) → ((k : Principal) (f : Formula) → Openable (next k f))
    → (g : Goal) → Openable (affirmation g next)
affirmation_opens next p (True f) = thirteen
affirmation_opens next p (Affirms k f) = p k f

served_opens : (speaks : ℕ → ℕ → Bool) (k : Principal) (next : Opened) → Openable next → (g : Goal) → Openable (served_by speaks k g next)
served_opens speaks k next p (True f) = fourteen
served_opens speaks k next p (Affirms l f) = pick_cases Openable (speaks k.0 l.0) (λ t. p) (λ t. fourteen)

-- by the kinds of an entry
module _ (anAtom aFalse : Opened) (anImplies anAnd anOr : Formula → Formula → Opened) (aSays : Principal → Formula → Opened) where
  kind_opens : Openable anAtom → Openable aFalse → ((f g : Formula) → Openable (anImplies f g)) → ((f g : Formula) → Openable (anAnd f g))
      → ((f g : Formula) → Openable (anOr f g)) → ((k : Principal) (f : Formula) → Openable (aSays k f))
      → (e : Entry) → Openable (by_kind anAtom aFalse anImplies anAnd anOr aSays e)
  kind_opens p q r s t u (Atom a) = p
  kind_opens p q r s t u False = q
  kind_opens p q r s t u (Implies f g) = r f g
  kind_opens p q r s t u (And f g) = s f g
  kind_opens p q r s t u (Or f g) = t f g
  kind_opens p q r s t u (Says k f) = u k f
  kind_opens p q r s t u IllFormed = thirteen

module _ (speaks : ℕ → ℕ → Bool) (es : List Entry) where
  -- tests 11 to 14, by each of the twelve rules
  abbrev Opens : ℕ → Rule → Type 0
  Opens c rule = (hs : List ℕ) (n : ℕ) (g : Goal) → Openable (applied speaks es rule hs n g)

  each : Each Opens (rules speaks es)
  each =
      search (truth_opens, affirmation_opens, served_opens, kind_opens, pick_cases Openable, eleven, twelve, thirteen, closed, one, two) depth 16

  -- tests 10 to 14
  step_opens : (limit w : ℕ) (o : Obligation) → Openable (step speaks es limit w o)
  unfolding step opens
  step_opens limit w o =
      pick_cases Openable (leb o.depth limit)
      (λ t. get_d_cases Opens (rules speaks es) unknown each (λ c high hs n g. eleven) (upper w) o.hypotheses (lower w) o.goal)
      (λ t. ten)

-- ---- number and place of a run's refusal

-- A refusal is one of 9 to `most`, and no place is past the last.
abbrev Within : ℕ → ℕ → WalkVerdict → Type 0
Within most last (Closed q) = q ≤ last
Within most last (Err r) = (9 ≤ r.number) × (r.number ≤ most) × (r.place ≤ last)

-- what follows a step at p
after_within : {x : Opened} → Openable x → (p last : ℕ) → p ≤ last → (next : List Premise → WalkVerdict)
    → ((ps : List Premise) → Within 14 last (next ps)) → Within 14 last (after x (refused_at p) next)
after_within ten p last l next w = omega arith
after_within eleven p last l next w = omega arith
after_within twelve p last l next w = omega arith
after_within thirteen p last l next w = omega arith
after_within fourteen p last l next w = omega arith
after_within closed p last l next w = w _
after_within one p last l next w = w _
after_within two p last l next w = w _

-- test 15
all_used_within : (n : ℕ) (v : WalkVerdict) → Within 14 n v → Within 15 n (all_used n v)
all_used_within n (Closed p) w = pick_cases (Within 15 n) (eqb p n) (λ t. w) (λ t. omega arith)
all_used_within n (Err r) w = omega arith

module _ (speaks : ℕ → ℕ → Bool) (limit : ℕ) (es : List Entry) where
  walk_within : (ws : List ℕ) (p last : ℕ) → p + length ws ≤ last → (os : List Obligation) → Within 14 last (walk speaks limit es ws p os)
  unfolding walk
  walk_within [] p last l [] = omega arith
  walk_within [] p last l (o ∷ os) = omega arith
  walk_within (w ∷ ws) p last l [] = omega arith
  walk_within (w ∷ ws) p last l (o ∷ os) =
      after_within (step_opens speaks es limit w o) p last (omega arith) (λ ps. walk speaks limit es ws (suc p) (map (under o) ps ++ os))
      (λ ps. walk_within ws (suc p) last (omega arith) (map (under o) ps ++ os))

  pub refused_in_range : RefusedInRange speaks limit es
  unfolding run
  refused_in_range ws os number p e =
      rw e at (all_used_within (length ws) (walk speaks limit es ws 0 os) (walk_within ws 0 (length ws) (omega arith) os))
