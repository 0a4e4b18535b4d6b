-- The walk part by part: what the code of a walk, and a check of one proof after another, lean on. Proved in
-- proofs/Parts.antt and Prefix.antt. Assumes nothing.
use Rattle.std.specs.Prelude.{ℕ, ◌+◌, ◌≤◌, Bool, ◌≡◌, ◌↔◌, List, ◌++◌, length, take, drop, Err}
use Rattle.table.specs.declared.entry.Entry.{Entry}
use Rattle.steps.specs.Verdict.{WalkVerdict, Closed, Refused}
use Rattle.steps.specs.Obligation.{Obligation}
use Rattle.steps.specs.Run.{walk, run}

-- closed at a place: go on from there; a refusal stands
abbrev pub and_then : WalkVerdict → (ℕ → WalkVerdict) → WalkVerdict
and_then (Closed q) next = next q
and_then (Err refusal) next = Err refusal

-- the same verdict, k places further on
abbrev pub later : ℕ → WalkVerdict → WalkVerdict
later k (Closed q) = Closed (q + k)
later k (Err refusal) = Refused refusal.number (refusal.place + k)

module _ (speaks : ℕ → ℕ → Bool) (limit : ℕ) (es : List Entry) where
  -- the walk through a file's step words from place p on
  abbrev pub walk_from : List ℕ → ℕ → List Obligation → WalkVerdict
  walk_from steps p os = walk speaks limit es (drop p steps) p os

  -- "Each proof begins at the word after the last one." (01)
  abbrev pub OneAfterAnother : Type 0
  OneAfterAnother =
      (steps : List ℕ) (p : ℕ) (os qs : List Obligation)
      → walk_from steps p (os ++ qs) ≡ and_then (walk_from steps p os) (λ q. walk_from steps q qs)

  -- A walk that closes has used at least a word for each obligation, and no more than there are.
  abbrev pub UsesWords : Type 0
  UsesWords = (ws : List ℕ) (p q : ℕ) (os : List Obligation) → walk speaks limit es ws p os ≡ Closed q → (p + length os ≤ q) × (q ≤ p + length ws)

  -- Places count from where the walk began: a tail of the words gives the places of the whole, moved.
  abbrev pub PlacesMove : Type 0
  PlacesMove = (ws : List ℕ) (p k : ℕ) (os : List Obligation) → walk speaks limit es ws (p + k) os ≡ later k (walk speaks limit es ws p os)

  -- A walk that closes at q looks at q words and no more.
  abbrev pub LooksNoFurther : Type 0
  LooksNoFurther =
      (ws : List ℕ) (q : ℕ) (os : List Obligation)
      → walk speaks limit es ws 0 os ≡ Closed q ↔ (q ≤ length ws) × (run speaks limit es (take q ws) os ≡ Closed q)
