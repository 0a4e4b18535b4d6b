-- Words that are used up, and the lines that they give. All that running a derivation's words asks of `walk` and of
-- `trace`: no words prove nothing, words are used one part after the other, and a step's words are its own and those of
-- its premises. Assumes nothing.
use Prim.Native.Nat.{ℕ, suc, ◌+◌}
use native.Mathlib.Omega.{arith}
use mathlib.Core.Bool.{Bool}
use mathlib.Core.Path.{◌≡◌, refl, ap, ◌∙◌}
use mathlib.Core.List.{List, [], ◌∷◌, ◌++◌, append_assoc, append-nil, map}
use lib.ListN.{length, length-append}
use borrow.Author.Tests.{eq-eqb}
use Rattle.table.specs.declared.entry.Entry.{Entry}
use Rattle.steps.specs.declared.opened.Premise.{Premise}
use Rattle.steps.specs.declared.opened.Opened.{Opened}
use Rattle.steps.specs.declared.opened.Opened.TheVariants.{Closed, One, Two}
use Rattle.steps.specs.Verdict.{WalkVerdict}
use Rattle.steps.specs.Obligation.{Obligation, under}
use Rattle.steps.specs.Step.{step}
use Rattle.steps.specs.Run.{after, walk, run}
use Rattle.steps.specs.Runs.{Closes}
use Rattle.steps.specs.Trace.{Line, line_of, trace}

module _ (speaks : ℕ → ℕ → Bool) (limit : ℕ) (es : List Entry) where
  -- The words ws from place p to place q prove os and no more, and give these lines, whatever words and obligations
  -- follow.
  pub record Uses (ws : List ℕ) (ls : List Line) (os : List Obligation) : Type 0 where
    pub uses : (rest : List ℕ) (p q : ℕ) (more : List Obligation)
        → q ≡ p + length ws → walk speaks limit es (ws ++ rest) p (os ++ more) ≡ walk speaks limit es rest q more
    pub gives : (rest : List ℕ) (more : List Obligation)
        → trace speaks limit es (ws ++ rest) (os ++ more) ≡ ls ++ trace speaks limit es rest more

  -- The word w at o gives the line l and opens x.
  pub record Taken (w : ℕ) (l : Line) (o : Obligation) (x : Opened) : Type 0 where
    pub has_line : line_of speaks es w o ≡ l
    pub opens : step speaks es limit w o ≡ x

-- x is these premises: walk and trace go on with them.
abbrev GoesOn : Opened → List Premise → Type 1
GoesOn x premises = (A : Type 0) (refused : ℕ → A) (next : List Premise → A) → after x refused next ≡ next premises

module _ {speaks : ℕ → ℕ → Bool} {limit : ℕ} {es : List Entry} where
  -- no words, and words after words
  pub nothing : Uses speaks limit es [] [] []
  nothing = record {
    uses = λ rest p q more e. ap (λ n. walk speaks limit es rest n more) (omega arith);
    gives = λ rest more. refl;
  }

  pub joined : {ws vs : List ℕ} {ls ks : List Line} {os ps : List Obligation}
      → Uses speaks limit es ws ls os → Uses speaks limit es vs ks ps → Uses speaks limit es (ws ++ vs) (ls ++ ks) (os ++ ps)
  joined {ws} {vs} {ls} {os = os} {ps = ps} u v = record {
    uses = λ rest p q more e.
        rw (append_assoc ws vs rest, append_assoc os ps more)
        (u.uses (vs ++ rest) p (p + length ws) (ps ++ more) refl ∙ v.uses rest (p + length ws) q more (omega (arith, length-append ws vs)));
    gives = λ rest more. simp append_assoc (u.gives (vs ++ rest) (ps ++ more) ∙ ap (ls ++◌) (v.gives rest more));
  }

  -- a step with these premises: none, one or two
  stepped : (premises : List Premise) {w : ℕ} {l : Line} {o : Obligation} {x y : Opened} {ws : List ℕ} {ls : List Line}
      → Taken speaks limit es w l o x → x ≡ y → GoesOn y premises
      → Uses speaks limit es ws ls (map (under o) premises) → Uses speaks limit es (w ∷ ws) (l ∷ ls) (o ∷ [])
  unfolding walk trace
  stepped premises t is on u = record {
    uses = λ rest p q more g. rw (t.opens, is, on WalkVerdict) (u.uses rest (suc p) q more (omega arith));
    gives = λ rest more. rw (t.has_line, t.opens, is, on (List Line), u.gives rest more);
  }

  pub closed : {w : ℕ} {l : Line} {o : Obligation} {x : Opened} → Taken speaks limit es w l o x → x ≡ Closed
      → Uses speaks limit es (w ∷ []) (l ∷ []) (o ∷ [])
  closed t is = stepped [] t is (λ A refused next. refl) nothing

  pub one : (a : Premise) {w : ℕ} {l : Line} {o : Obligation} {x : Opened} {ws : List ℕ} {ls : List Line}
      → Taken speaks limit es w l o x → x ≡ One a
      → Uses speaks limit es ws ls (under o a ∷ []) → Uses speaks limit es (w ∷ ws) (l ∷ ls) (o ∷ [])
  one a t is u = stepped (a ∷ []) t is (λ A refused next. refl) u

  pub two : (a b : Premise) {w : ℕ} {l : Line} {o : Obligation} {x : Opened} {ws vs : List ℕ} {ls ks : List Line}
      → Taken speaks limit es w l o x → x ≡ Two a b
      → Uses speaks limit es ws ls (under o a ∷ []) → Uses speaks limit es vs ks (under o b ∷ [])
      → Uses speaks limit es (w ∷ (ws ++ vs)) (l ∷ (ls ++ ks)) (o ∷ [])
  two a b t is u v = stepped (a ∷ b ∷ []) t is (λ A refused next. refl) (joined u v)

  -- Words that prove all there is close, and their lines are the trace.
  pub closes : {ws : List ℕ} {ls : List Line} {os : List Obligation} → Uses speaks limit es ws ls os → Closes speaks limit es os ws
  unfolding walk run
  closes {ws} u =
      let used = simp append-nil at (u.uses [] 0 (length ws) [] (omega arith)) in
      rw (used, eq-eqb (length ws) (length ws) refl)

  pub traced : {ws : List ℕ} {ls : List Line} {os : List Obligation} → Uses speaks limit es ws ls os → trace speaks limit es ws os ≡ ls
  unfolding trace
  traced u = simp append-nil at (u.gives [] [])
