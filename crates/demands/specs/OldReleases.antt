-- "Next we fold the standing orders of our three machine halls into one shorter list of equal force, and the goal of
-- every old release must then keep a proof, of any size, from it and the same signed papers." (demand 3) For the files
-- themselves: a release, whatever list was lent for its signers, and an exchange file that is found equal. Each has a
-- table of its own, so what counts is the propositions that their numbers spell. Over a test `speaks` on principals and
-- a relation R; Figure 1's are fields of `Demanded`. Proved in proofs/OldReleases.antt. Assumes nothing.
use Rattle.std.specs.Prelude.{ℕ, Bool, ◌≡◌, ◌↔◌, List, [], ◌∷◌, ◌++◌}
use Rattle.basics.specs.Membership.{◌∈◌, ◌⊆◌}
use Rattle.logic.specs.Proposition.{Proposition, atom, false, ◌implies◌, ◌and◌, ◌or◌, ◌says◌}
use Rattle.logic.specs.Principals.{Relation}
use Rattle.logic.specs.Force.{HasProof, EqualInForce}
use Rattle.logic.specs.Signed.{SignedBy, Anybody}
use Rattle.table.specs.Spelled.{spell_all}
use Rattle.record.specs.Proof.{stated_by, goal_of}
use Rattle.exchange.specs.Verdict.{Equal}
use Rattle.exchange.specs.Layout.{table, first_list, second_list}
use Rattle.exchange.specs.Answer.{exchange_answer}
use Rattle.demands.specs.Release.{Release}

-- ---- with any papers

-- what these numbers spell in an exchange file's table
abbrev pub spelled_in : List ℕ → List ℕ → List Proposition
spelled_in exchange numbers = spell_all (table exchange) numbers

module _ (R : Relation) where
  -- For lists equal in force: whatever was released from old orders and papers has a proof from the new orders and the
  -- same papers.
  abbrev pub KeptByForce : Type 0
  KeptByForce =
      (old new papers : List Proposition) → EqualInForce R old new
      → (file : List ℕ) (room : ℕ)
      → Release R file room → stated_by file ⊆ old ++ papers → HasProof R (new ++ papers) (goal_of file)

module _ (speaks : ℕ → ℕ → Bool) (R : Relation) where
  -- So after an exchange, whichever of its lists has the old orders.
  abbrev pub KeptByExchange : Type 0
  KeptByExchange =
      (exchange : List ℕ) → exchange_answer speaks exchange ≡ Equal → (papers : List Proposition)
      → (file : List ℕ) (room : ℕ) → Release R file room
      → (stated_by file ⊆ spelled_in exchange (first_list exchange) ++ papers
      → HasProof R (spelled_in exchange (second_list exchange) ++ papers) (goal_of file))
      × (stated_by file ⊆ spelled_in exchange (second_list exchange) ++ papers
      → HasProof R (spelled_in exchange (first_list exchange) ++ papers) (goal_of file))

-- ---- with the record's own papers

-- "A statement that isn't a says-formula is a standing order of the mill" (01); the others are signed papers.
abbrev pub paper : Proposition → List Proposition
paper (atom a) = []
paper false = []
paper (A implies B) = []
paper (A and B) = []
paper (A or B) = []
paper (K says A) = K says A ∷ []

abbrev pub papers_of : List Proposition → List Proposition
papers_of [] = []
papers_of (A ∷ Γ) = paper A ++ papers_of Γ

-- The papers of a list are its signed statements, and nothing else.
abbrev pub PapersAre : Type 0
PapersAre = (Γ : List Proposition) (A : Proposition) → A ∈ papers_of Γ ↔ ((A ∈ Γ) × SignedBy Anybody A)

-- the standing orders among the statements are among these
abbrev pub OrdersAmong : List Proposition → List Proposition → Type 0
OrdersAmong statements orders = (A : Proposition) → A ∈ statements → ¬ SignedBy Anybody A → A ∈ orders

-- A has only a paper, so it asks for no order; B's statement is an order.
abbrev pub OrdersOfSamples : Type 0
OrdersOfSamples = OrdersAmong (7 says atom 0 ∷ []) [] × ¬ OrdersAmong (atom 0 ∷ []) []

module _ (speaks : ℕ → ℕ → Bool) (R : Relation) where
  -- "the goal of every old release .. from it and the same signed papers": the old release's own
  abbrev pub OldReleasesKept : Type 0
  OldReleasesKept =
      (exchange : List ℕ) → exchange_answer speaks exchange ≡ Equal → (file : List ℕ) (room : ℕ) → Release R file room
      → (OrdersAmong (stated_by file) (spelled_in exchange (first_list exchange))
      → HasProof R (spelled_in exchange (second_list exchange) ++ papers_of (stated_by file)) (goal_of file))
      × (OrdersAmong (stated_by file) (spelled_in exchange (second_list exchange))
      → HasProof R (spelled_in exchange (first_list exchange) ++ papers_of (stated_by file)) (goal_of file))
