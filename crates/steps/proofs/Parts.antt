-- The walk part by part: the theorems of specs/Parts.antt, and what one word does at a place of a file. Assumes
-- nothing.
use Prim.Native.Nat.{ℕ, suc, ◌+◌, ◌-◌, ◌<◌, ◌≤◌}
use native.Mathlib.Omega.{arith}
use native.Mathlib.Nat.{suc-add}
use mathlib.Core.Bool.{Bool}
use mathlib.Core.Path.{◌≡◌, refl, sym, ap, ◌∙◌}
use mathlib.Core.Option.{some, none-ne-some}
use mathlib.Core.List.{List, [], ◌∷◌, ◌++◌, append_assoc, map}
use lib.ListN.{length, get_or, drop, length-append, drop_of_length-le}
use lib.Seq.{drop-cons, drop-nil, drop-drop}
use Rattle.std.specs.Prelude.{Err}
use Rattle.table.specs.declared.entry.Entry.{Entry}
use Rattle.steps.specs.declared.opened.Premise.{Premise}
use Rattle.steps.specs.declared.opened.Opened as O
use Rattle.steps.specs.declared.opened.Opened.TheVariants as Opening
use Rattle.steps.specs.Verdict.{WalkVerdict, Closed, Refused}
use Rattle.steps.specs.Obligation.{Obligation, under}
use Rattle.steps.specs.Step.{step}
use Rattle.steps.specs.Run.{after, walk}
use Rattle.steps.specs.Steps.{premises}
use Rattle.steps.proofs.Closed.{refused_not_closed, walk_closed}
use Rattle.steps.specs.Parts.{and_then, later, walk_from, OneAfterAnother, UsesWords, PlacesMove}

-- What a step's refusal and its premises lead to, taken further; and two ways to go on that agree.
after_map : {A B : Type 0} (f : A → B) (x : O.Opened) (refused : ℕ → A) (next : List Premise → A)
    → f (after x refused next) ≡ after x (λ number. f (refused number)) (λ ps. f (next ps))
after_map f (Opening.Refused n) refused next = refl
after_map f Opening.Closed refused next = refl
after_map f (Opening.One a) refused next = refl
after_map f (Opening.Two a b) refused next = refl

after_same : {A : Type 0} (x : O.Opened) (refused : ℕ → A) (next other : List Premise → A) → ((ps : List Premise) → next ps ≡ other ps)
    → after x refused next ≡ after x refused other
after_same (Opening.Refused n) refused next other same = refl
after_same Opening.Closed refused next other same = same _
after_same (Opening.One a) refused next other same = same _
after_same (Opening.Two a b) refused next other same = same _

-- What follows a step that opens premises goes on with them.
pub after_opens : {A : Type 0} (x : O.Opened) (ps : List Premise) (refused : ℕ → A) (next : List Premise → A)
    → premises x ≡ some ps → after x refused next ≡ next ps
after_opens (Opening.Refused number) ps refused next e = absurd (none-ne-some ps e)
after_opens Opening.Closed ps refused next e = let same : [] ≡ ps = cc in ap next same
after_opens (Opening.One a) ps refused next e = let same : a ∷ [] ≡ ps = cc in ap next same
after_opens (Opening.Two a b) ps refused next e = let same : a ∷ b ∷ [] ≡ ps = cc in ap next same

abbrev pub refused_at : ℕ → ℕ → WalkVerdict
refused_at p number = Refused number p

-- Two ways to go on from a verdict are one where they agree at its place.
then_same : (v : WalkVerdict) (next other : ℕ → WalkVerdict) → ((q : ℕ) → v ≡ Closed q → next q ≡ other q) → and_then v next ≡ and_then v other
then_same (Closed q) next other same = same q refl
then_same (Err r) next other same = refl

module _ (speaks : ℕ → ℕ → Bool) (limit : ℕ) (es : List Entry) where
  -- what follows a step of o, with these premises
  abbrev next : List ℕ → ℕ → Obligation → List Obligation → List Premise → WalkVerdict
  next ws p o os ps = walk speaks limit es ws (suc p) (map (under o) ps ++ os)

  pub uses_words : UsesWords speaks limit es
  unfolding walk
  uses_words [] p q [] e = let f : p ≡ q = cc in omega arith
  uses_words [] p q (o ∷ os) e = absurd (refused_not_closed e)
  uses_words (w ∷ ws) p q [] e = let f : p ≡ q = cc in omega arith
  uses_words (w ∷ ws) p q (o ∷ os) e =
      let (ps, takes, closes) = walk_closed speaks limit es w ws p q o os e in
      let (least, most) = uses_words ws (suc p) q (map (under o) ps ++ os) closes in
      omega (arith, length-append (map (under o) ps) os)

  pub places_move : PlacesMove speaks limit es
  unfolding walk
  places_move [] p k [] = refl
  places_move [] p k (o ∷ os) = refl
  places_move (w ∷ ws) p k [] = refl
  places_move (w ∷ ws) p k (o ∷ os) =
      after_same (step speaks es limit w o) (refused_at (p + k)) (next ws (p + k) o os) (λ ps. later k (next ws p o os ps))
      (λ ps. rw (← suc-add p k) (places_move ws (suc p) k (map (under o) ps ++ os)))
      ∙ sym (after_map (later k) (step speaks es limit w o) (refused_at p) (next ws p o os))

  -- In words that are left: the second part begins after what the first used.
  joined : (ws : List ℕ) (p : ℕ) (os qs : List Obligation)
      → walk speaks limit es ws p (os ++ qs)
      ≡ and_then (walk speaks limit es ws p os) (λ q. walk speaks limit es (drop (q - p) ws) q qs)
  unfolding walk
  joined [] p [] qs = rw drop-nil
  joined [] p (o ∷ os) qs = refl
  joined (w ∷ ws) p [] qs = let z : p - p ≡ 0 = omega arith in rw z
  joined (w ∷ ws) p (o ∷ os) qs =
      let more : ℕ → WalkVerdict = λ (q : ℕ). walk speaks limit es (drop (q - p) (w ∷ ws)) q qs in
      after_same (step speaks es limit w o) (refused_at p) (next ws p o (os ++ qs)) (λ ps. and_then (next ws p o os ps) more)
      (λ ps. rw (← append_assoc (map (under o) ps) os qs)
      (joined ws (suc p) (map (under o) ps ++ os) qs
      ∙ then_same (next ws p o os ps) (λ q. walk speaks limit es (drop (q - suc p) ws) q qs) more
      (λ q e. let (least, most) = uses_words ws (suc p) q (map (under o) ps ++ os) e in
      let f : q - p ≡ suc (q - suc p) = omega arith in rw f)))
      ∙ sym (after_map (λ v. and_then v more) (step speaks es limit w o) (refused_at p) (next ws p o os))

  pub one_after_another : OneAfterAnother speaks limit es
  one_after_another steps p os qs =
      joined (drop p steps) p os qs
      ∙ then_same (walk_from speaks limit es steps p os) (λ q. walk speaks limit es (drop (q - p) (drop p steps)) q qs)
      (λ q. walk_from speaks limit es steps q qs)
      (λ q e. let (least, most) = uses_words (drop p steps) p q os e in
      let f : p + (q - p) ≡ q = omega arith in rw (drop-drop (q - p) p steps, f))

  -- Nothing is left to prove.
  pub walk_done : (ws : List ℕ) (p : ℕ) → walk speaks limit es ws p [] ≡ Closed p
  unfolding walk
  walk_done [] p = refl
  walk_done (w ∷ ws) p = refl

  -- "9. The steps end while a premise is open or a whole proof is still due (place N)."
  pub walk_ends : (steps : List ℕ) (p : ℕ) (o : Obligation) (os : List Obligation) → length steps ≤ p
      → walk_from speaks limit es steps p (o ∷ os) ≡ Refused 9 p
  unfolding walk
  walk_ends steps p o os l = rw (drop_of_length-le steps l)

  -- At a word, the step, and then its premises from the next word on.
  pub walk_steps : (steps : List ℕ) (p : ℕ) (o : Obligation) (os : List Obligation) → p < length steps
      → walk_from speaks limit es steps p (o ∷ os)
      ≡ after (step speaks es limit (get_or steps p 0) o) (refused_at p) (λ ps. walk_from speaks limit es steps (suc p) (map (under o) ps ++ os))
  unfolding walk
  walk_steps steps p o os l = rw (drop-cons steps p 0 l)
