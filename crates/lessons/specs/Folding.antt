-- Folding standing orders beyond one exchange file: in parts, for every reel, and with the papers of an old release.
-- docs/FOLDING.md says how to use it. Over a test `speaks` on principals and a relation R. Proved in
-- proofs/Folding.antt. Assumes nothing.
use Rattle.std.specs.Prelude.{ℕ, Bool, ◌≡◌, ◌↔◌, List, [], ◌∷◌, ◌++◌, map}
use Rattle.basics.specs.Membership.{◌∈◌, ◌⊆◌}
use Rattle.text.specs.Ascii.{ascii}
use Rattle.file.specs.Words.{file_of}
use Rattle.logic.specs.Proposition.{Proposition, Atom, Principal, atom, ◌implies◌, ◌and◌, ◌says◌}
use Rattle.logic.specs.Principals.{Relation}
use Rattle.logic.specs.Signed.{SignedBy, Anybody}
use Rattle.logic.specs.Force.{HasProof, EqualInForce}
use Rattle.logic.specs.Parts.{Part, joined_first, joined_second}
use Rattle.logic.specs.Substitution.{put, Respects}
use Rattle.record.specs.Proof.{stated_by, goal_of}
use Rattle.exchange.specs.Samples.{K}
use Rattle.exchange.specs.Verdict.{Equal}
use Rattle.exchange.specs.Layout.{first_list, second_list}
use Rattle.exchange.specs.Answer.{exchange_answer}
use Rattle.demands.specs.Release.{Release}
use Rattle.demands.specs.OldReleases.{spelled_in, papers_of, OrdersAmong}
use Rattle.demands.specs.Samples.{Sample, a_record, an_exchange, ◌prints◌, line_of}

-- ---- in parts

-- the two lists of an exchange file, as propositions
abbrev pub both_lists : List ℕ → Part
both_lists exchange =
    record { first = spelled_in exchange (first_list exchange); second = spelled_in exchange (second_list exchange) }

-- 01's K: one order that says two things, for two that say one each
abbrev pub ListsOfK : Type 0
ListsOfK = both_lists (file_of K) ≡ record { first = atom 0 and atom 1 ∷ []; second = atom 0 ∷ atom 1 ∷ [] }

module _ (speaks : ℕ → ℕ → Bool) (R : Relation) where
  -- Exchange files, each found equal: their first lists joined and their second lists joined are equal in force.
  abbrev pub ExchangedInParts : Type 0
  ExchangedInParts =
      (exchanges : List (List ℕ)) → ((x : List ℕ) → x ∈ exchanges → exchange_answer speaks x ≡ Equal)
      → EqualInForce R (joined_first (map both_lists exchanges)) (joined_second (map both_lists exchanges))

-- ---- with the record's own papers

module _ (R : Relation) where
  -- For any lists equal in force, by one file, by parts or however: the goal of every old release whose orders are
  -- among the old ones has a proof from the new ones and the release's own papers.
  abbrev pub OwnPapersByForce : Type 0
  OwnPapersByForce =
      (old new : List Proposition) → EqualInForce R old new
      → (file : List ℕ) (room : ℕ) → Release R file room → OrdersAmong (stated_by file) old
      → HasProof R (new ++ papers_of (stated_by file)) (goal_of file)

-- None of them is a says-formula; says may stand inside.
abbrev pub OnlyOrders : List Proposition → Type 0
OnlyOrders new = (A : Proposition) → A ∈ new → ¬ SignedBy Anybody A

-- docs/FOLDING.md's new list is such a one; with what 7 says it isn't.
abbrev pub OnlyOrdersAre : Type 0
OnlyOrdersAre =
    OnlyOrders (
    (7 says atom 0 implies atom 0) ∷ (8 says atom 1 implies atom 1) ∷ ((atom 0 and atom 1) implies atom 3)
    ∷ (9 says atom 2 implies atom 3) ∷ []
    )
    × (¬ OnlyOrders (atom 0 ∷ 7 says atom 0 ∷ []))

-- Then what K says stands in the new list with the record's own papers exactly when it stood in the record.
abbrev pub PapersKept : Type 0
PapersKept =
    (new stated : List Proposition) → OnlyOrders new
    → (K : Principal) (A : Proposition) → (K says A) ∈ new ++ papers_of stated ↔ (K says A) ∈ stated

module _ (R : Relation) where
  -- So nobody new can become a signer: whoever signs a release from the new orders and the old record's papers has a
  -- paper in the old record.
  abbrev pub NobodyNewSigns : Type 0
  NobodyNewSigns =
      (new : List Proposition) → OnlyOrders new
      → (old file : List ℕ) (room : ℕ) (release : Release R file room) → stated_by file ⊆ new ++ papers_of (stated_by old)
      → (K : Principal) → K ∈ release.names → (A : Proposition) × ((K says A) ∈ stated_by old)

-- The hazard where a new list has a says-formula: `equal` doesn't test that. What 7 says of atom 0 follows from atom 0,
-- so the lists of this exchange, without it and with it, are equal. The goal 7 says atom 0 was released from the old
-- order, and nobody signed; from the new ones there is a proof that 7 carries, who has signed nothing. The files are
-- what-is-true-everybody-says.exchange, B.record and order-that-signs.record.
abbrev pub orders_that_sign : List Sample
orders_that_sign =
    an_exchange (3 ∷ 1 ∷ 2 ∷ 5 ∷ 0 ∷ 20487 ∷ 20488 ∷ 0 ∷ 0 ∷ 0 ∷ 0 ∷ 0 ∷ 1 ∷ 0 ∷ 40960 ∷ 4096 ∷ 0 ∷ 0 ∷ [])
    prints "equal\n"
    ∷ a_record (3 ∷ 1 ∷ 3 ∷ 1 ∷ 0 ∷ 20487 ∷ 20488 ∷ 0 ∷ 0 ∷ 0 ∷ 0 ∷ 40960 ∷ 4096 ∷ 0 ∷ [])
    prints "granted 0\n"
    ∷ a_record (3 ∷ 2 ∷ 4 ∷ 1 ∷ 0 ∷ 20487 ∷ 20488 ∷ 0 ∷ 0 ∷ 0 ∷ 0 ∷ 1 ∷ 40960 ∷ 45057 ∷ 4096 ∷ 0 ∷ [])
    prints "granted 1 7\n"
    ∷ []

abbrev pub OrdersThatSign : Type 0
OrdersThatSign = map (λ r. line_of r.file) orders_that_sign ≡ map (λ r. ascii r.line) orders_that_sign

-- ---- for every reel

-- Another reel: a proposition for each atom, and a principal for each principal.
pub record Reel : Type 0 where
  pub atoms : Atom → Proposition
  pub principals : Principal → Principal

abbrev pub of_reel : Reel → List Proposition → List Proposition
of_reel r Γ = map (put r.atoms r.principals) Γ

abbrev pub for_reel : Part → Reel → Part
for_reel p r = record { first = of_reel r p.first; second = of_reel r p.second }

module _ (speaks : ℕ → ℕ → Bool) (R : Relation) where
  -- One exchange file serves every reel: what its lists become is equal in force,
  abbrev pub EqualForEveryReel : Type 0
  EqualForEveryReel =
      (exchange : List ℕ) → exchange_answer speaks exchange ≡ Equal → (r : Reel) → Respects R R r.principals
      → EqualInForce R (of_reel r (both_lists exchange).first) (of_reel r (both_lists exchange).second)

  -- also for many reels at once, their lists joined;
  abbrev pub EqualForAllReels : Type 0
  EqualForAllReels =
      (exchange : List ℕ) → exchange_answer speaks exchange ≡ Equal
      → (reels : List Reel) → ((r : Reel) → r ∈ reels → Respects R R r.principals)
      → EqualInForce R
      (joined_first (map (for_reel (both_lists exchange)) reels)) (joined_second (map (for_reel (both_lists exchange)) reels))

  -- so old releases of that reel keep their goals, whichever of the lists has the old orders.
  abbrev pub KeptForEveryReel : Type 0
  KeptForEveryReel =
      (exchange : List ℕ) → exchange_answer speaks exchange ≡ Equal → (r : Reel) → Respects R R r.principals
      → (file : List ℕ) (room : ℕ) → Release R file room
      → (OrdersAmong (stated_by file) (of_reel r (both_lists exchange).first)
      → HasProof R (of_reel r (both_lists exchange).second ++ papers_of (stated_by file)) (goal_of file))
      × (OrdersAmong (stated_by file) (of_reel r (both_lists exchange).second)
      → HasProof R (of_reel r (both_lists exchange).first ++ papers_of (stated_by file)) (goal_of file))

-- Where atoms are put for atoms, orders stay orders. (Where another proposition is put, an order that is an atom may
-- become a says-formula: (7 says atom 1) for atom 0.)
abbrev pub OrdersStay : Type 0
OrdersStay =
    (atoms : Atom → Atom) (principals : Principal → Principal) (Γ : List Proposition) → OnlyOrders Γ
    → OnlyOrders (of_reel (record { atoms = λ a. atom (atoms a); principals = principals }) Γ)

abbrev pub OrdersNeedNotStay : Type 0
OrdersNeedNotStay =
    OnlyOrders (atom 0 ∷ [])
    × (¬ OnlyOrders (of_reel (record { atoms = λ a. 7 says atom 1; principals = λ K. K }) (atom 0 ∷ [])))
