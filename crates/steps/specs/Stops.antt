-- Where the machine stops: what a refusal 9 to 15 says of the step words, by what the words before its place leave to
-- prove, in terms of 01's table (Applies.antt) and of the reasons (Reasons.antt). Proved in proofs/Stops.antt. Assumes
-- nothing.
use Rattle.std.specs.Prelude.{ℕ, ◌<◌, Bool, ◌≡◌, ◌↔◌, List, [], ◌∷◌, ◌++◌, map, length, get_or, take}
use Rattle.table.specs.declared.entry.Entry.{Entry}
use Rattle.steps.specs.declared.opened.Premise.{Premise}
use Rattle.steps.specs.Verdict.{Refused}
use Rattle.steps.specs.Obligation.{Obligation, under}
use Rattle.steps.specs.Applies.{Takes}
use Rattle.steps.specs.Reasons.{FirstAt}
use Rattle.steps.specs.Run.{run}

module _ (speaks : ℕ → ℕ → Bool) (limit : ℕ) (es : List Entry) where
  -- Each of these words is a step by a rule that applies, and they leave `rest` to prove, the next obligation first.
  -- "Each step is followed by all of its first premise, then its second."
  abbrev pub LeftToProve : List ℕ → List Obligation → List Obligation → Type 0
  LeftToProve [] os rest = os ≡ rest
  LeftToProve (w ∷ ws) [] rest = ⊥
  LeftToProve (w ∷ ws) (o ∷ os) rest =
      (ps : List Premise) × (Takes speaks es limit w o ps × LeftToProve ws (map (under o) ps ++ os) rest)

  -- A refusal's number and place, and what it says.
  pub data Stop (ws : List ℕ) (os : List Obligation) (number p : ℕ) : Type 0 where
    -- "9. The steps end while a premise is open or a whole proof is still due (place N)."
    ended :
        (o : Obligation) (rest : List Obligation) → number ≡ 9 → p ≡ length ws → LeftToProve ws os (o ∷ rest)
        → Stop ws os number p
    -- 10 to 14: the words before p leave o to prove next, and this is the first reason to refuse the word at p there
    refused :
        (o : Obligation) (rest : List Obligation) → p < length ws → LeftToProve (take p ws) os (o ∷ rest)
        → FirstAt speaks limit es (get_or ws p 0) o number → Stop ws os number p
    -- "15. The proof is closed and words remain (place: the first of them)."
    left_over : number ≡ 15 → p < length ws → LeftToProve (take p ws) os [] → Stop ws os number p

  abbrev pub RefusedWhere : Type 0
  RefusedWhere = (ws : List ℕ) (os : List Obligation) (number p : ℕ) → run speaks limit es ws os ≡ Refused number p ↔ Stop ws os number p
