-- Sound: where a run closes, its words are those of derivations. By induction on the words; at a step, derivations of
-- the premises give one of the obligation. Each is from any hypotheses that cover the obligation's, so that nothing has
-- to be weakened. Assumes nothing.
use Prim.Native.Nat.{ℕ, suc, ◌+◌}
use native.Mathlib.Omega.{arith}
use mathlib.Core.Bool.{Bool}
use mathlib.Core.Path.{◌≡◌, refl, ◌∙◌}
use mathlib.Core.Logic.{⊎_elim}
use mathlib.Core.List.Memᴰ
use mathlib.Core.List.{List, [], ◌∷◌, ◌++◌, map}
use lib.ListN.{length, drop_of_length-le}
use Rattle.basics.proofs.Words.{word_of_both}
use Rattle.basics.proofs.Membership.{⊆_left, ⊆_right}
use Rattle.logic.specs.Proposition.{Proposition}
use Rattle.logic.specs.Principals.{Relation, Decides}
use Rattle.table.specs.declared.entry.Entry.{Entry}
use Rattle.table.specs.Spelled.{spell, spell_all}
use Rattle.table.specs.Laws.{Ordered, Distinct}
use Rattle.steps.specs.declared.opened.Premise.{Premise}
use Rattle.steps.specs.Verdict.{Closed}
use Rattle.steps.specs.Obligation.{Obligation, added, under}
use Rattle.steps.specs.Run.{walk}
use Rattle.steps.specs.Carried.{judgment, Carried}
use Rattle.steps.specs.Runs.{Closes}
use Rattle.steps.specs.Applies.{Takes}
use Rattle.steps.proofs.Closed.{refused_not_closed, walk_closed, run_closed}
use Rattle.steps.proofs.Chain.{Chain, chain_append, chain_map}
use Rattle.steps.proofs.Derived.{Covers, Derived, DerivedPremise, derived}

-- Added numbers are covered by what they spell.
covers_added : (es : List Entry) (Γ : List Proposition) (hs : List ℕ) → Covers es Γ hs
    → (ns : List ℕ) → Covers es (spell_all es ns ++ Γ) (hs ++ ns)
covers_added es Γ hs covers ns n i =
    ⊎_elim (λ j. ⊆_right (spell_all es ns) _ (covers n j)) (λ j. ⊆_left Γ _ (Memᴰ.map (spell es) j)) (Memᴰ.append_cases hs i)

module _ (R : Relation) (limit : ℕ) (es : List Entry) where
  -- ws begins with the words of a derivation of o, from whatever covers its hypotheses.
  abbrev pub Sound : Obligation → List ℕ → List ℕ → Type 0
  Sound o ws rest = (Γ : List Proposition) → Covers es Γ o.hypotheses → Derived R limit es Γ (judgment es o.goal) o.depth ws rest

  -- What covers o's hypotheses, with what a premise adds, covers the premise's.
  premises : (o : Obligation) (Γ : List Proposition) → Covers es Γ o.hypotheses → (ps : List Premise) (ws rest : List ℕ)
      → Chain Sound (map (under o) ps) ws rest → Chain (DerivedPremise R limit es Γ o.depth) ps ws rest
  premises o Γ covers = chain_map _ _ (under o) (λ p ws rest s. s _ (covers_added es Γ o.hypotheses covers (added p.added)))

  -- The hypotheses of an obligation, spelled out, cover them.
  carried : (os : List Obligation) (ws rest : List ℕ) → Chain Sound os ws rest → rest ≡ [] → Carried R limit es os ws
  carried [] ws rest z e = z ∙ e
  carried (o ∷ os) ws rest (middle, s, chain) e =
      let (D, b) = s (spell_all es o.hypotheses) (λ n. Memᴰ.map (spell es)) in
      (middle, (record { derivation = D; within = b.within; begins = b.begins }, carried os middle rest chain e))

  module _ (speaks : ℕ → ℕ → Bool) (decides : Decides speaks R) (ordered : Ordered es) (distinct : Distinct es) where
    -- A step's word, and then the words of its premises.
    pub step_sound : (w : ℕ) (o : Obligation) (ps : List Premise) → Takes speaks es limit w o ps
        → (ws rest : List ℕ) → Chain Sound (map (under o) ps) ws rest → Sound o (w ∷ ws) rest
    step_sound w o ps t ws rest chain Γ covers =
        let over = premises o Γ covers ps ws rest chain in
        let made = derived R limit es ordered distinct speaks decides Γ o.hypotheses covers o.depth t.fits t.applies over in
        rw (word_of_both w) at made

    -- A walk that closes at q: the words from q on are the rest.
    pub walk_sound : (ws : List ℕ) (p q : ℕ) (os : List Obligation) → walk speaks limit es ws p os ≡ Closed q
        → (rest : List ℕ) × Chain Sound os ws rest × (q + length rest ≡ p + length ws)
    unfolding walk
    walk_sound [] p q [] e = ([], refl, (cc))
    walk_sound [] p q (o ∷ os) e = absurd (refused_not_closed e)
    walk_sound (w ∷ ws) p q [] e = (w ∷ ws, refl, (cc))
    walk_sound (w ∷ ws) p q (o ∷ os) e =
        let (ps, takes, closed) = walk_closed speaks limit es w ws p q o os e in
        let (rest, chain, count) = walk_sound ws (suc p) q (map (under o) ps ++ os) closed in
        let (middle, here, further) = chain_append _ (map (under o) ps) os ws rest chain in
        (rest, (middle, step_sound w o ps takes ws middle here, further), omega arith)

-- Where a run closes there is a derivation for each obligation, and their words are the words of the run.
pub sound : (speaks : ℕ → ℕ → Bool) (R : Relation) → Decides speaks R → (limit : ℕ) (es : List Entry) → Ordered es → Distinct es
    → (os : List Obligation) (ws : List ℕ) → Closes speaks limit es os ws → Carried R limit es os ws
sound speaks R decides limit es ordered distinct os ws e =
    let closed = run_closed speaks limit es os ws e in
    let (rest, chain, count) = walk_sound R limit es speaks decides ordered distinct ws 0 (length ws) os closed in
    carried R limit es os ws rest chain (drop_of_length-le rest {i = 0} (omega arith))
