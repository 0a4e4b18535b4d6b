-- 003, Property 1, the first non-interference property: "Suppose K does not occur free in Γ and γ .. Then Γ, K says B
-- ⟹ γ if and only if Γ ⟹ γ." There are no quantifiers here, so to occur is to be mentioned. For every relation on
-- principals, where K may speak for others, nobody for whom he speaks is mentioned; and for all that he says at once,
-- false too. Proved in proofs/Unmentioned.antt. Assumes nothing.
use Rattle.std.specs.Prelude.{◌≡◌, ◌↔◌, List, [], ◌∷◌, ◌++◌}
use Rattle.basics.specs.Membership.{◌∈◌}
use Rattle.logic.specs.Proposition.{Proposition, Principal, atom, false, ◌implies◌, ◌and◌, ◌or◌, ◌says◌}
use Rattle.logic.specs.Judgment.{Judgment, truth, ◌affirms◌}
use Rattle.logic.specs.Principals.{Relation}
use Rattle.logic.specs.Derivation.{Derivation}
use Rattle.logic.specs.Signed.{AllSignedBy, Himself}
use Rattle.logic.specs.Countermodels.{SevenForEight}
use Rattle.logic.specs.Figure1.{HasProof}

-- whom a proposition mentions
abbrev pub mentioned : Proposition → List Principal
mentioned (atom a) = []
mentioned false = []
mentioned (A implies B) = mentioned A ++ mentioned B
mentioned (A and B) = mentioned A ++ mentioned B
mentioned (A or B) = mentioned A ++ mentioned B
mentioned (K says A) = K ∷ mentioned A

abbrev pub mentioned_in : Judgment → List Principal
mentioned_in (truth A) = mentioned A
mentioned_in (K affirms A) = K ∷ mentioned A

module _ (R : Relation) where
  -- K speaks for none of these
  abbrev pub SpeaksForNone : Principal → List Principal → Type 0
  SpeaksForNone K Ls = (L : Principal) → L ∈ Ls → ¬ R K L

  -- Papers of K add nothing to statements and a goal that mention nobody for whom he speaks.
  abbrev pub FirstNonInterference : Type 0
  FirstNonInterference =
      (K : Principal) (papers Γ : List Proposition) (γ : Judgment)
      → AllSignedBy (Himself K) papers
      → ((A : Proposition) → A ∈ Γ → SpeaksForNone K (mentioned A)) → SpeaksForNone K (mentioned_in γ)
      → Derivation R (papers ++ Γ) γ ↔ Derivation R Γ γ

-- In Figure 1 K speaks for himself alone. So beside any orders, and any papers of others, whoever says false has freed
-- nobody and nothing that doesn't mention him.
abbrev pub UnmentionedAddsNothing : Type 0
UnmentionedAddsNothing =
    (K : Principal) (B : Proposition) (Γ : List Proposition) (C : Proposition)
    → ((A : Proposition) → A ∈ Γ → ¬ (K ∈ mentioned A)) → ¬ (K ∈ mentioned C)
    → HasProof (K says B ∷ Γ) C ↔ HasProof Γ C

-- Samples: every connective; and that both conditions are needed, for statements and for the goal. An order that asks
-- what 7 says, and a goal that is his word, are served by what he says.
abbrev pub MentionedAre : Type 0
MentionedAre =
    (mentioned ((6 says atom 1 implies 7 says false) and (8 says 9 says atom 5 or atom 4)) ≡ 6 ∷ 7 ∷ 8 ∷ 9 ∷ [])
    × (mentioned_in (6 affirms 7 says atom 5) ≡ 6 ∷ 7 ∷ [])
    × (mentioned_in (truth (6 says atom 5)) ≡ 6 ∷ [])

-- Where 7 speaks for 8, what 8 says can't matter to a goal that mentions 7 alone; what 7 says may matter to one that
-- mentions 8.
abbrev pub SpeaksOneWay : Type 0
SpeaksOneWay = SpeaksForNone SevenForEight 8 (7 ∷ []) × (¬ SpeaksForNone SevenForEight 7 (8 ∷ []))

pub record MentionedMatters : Type 0 where
  pub in_an_order : HasProof (7 says false ∷ (7 says atom 0 implies atom 1) ∷ []) (atom 1)
  pub not_alone : ¬ HasProof ((7 says atom 0 implies atom 1) ∷ []) (atom 1)
  pub in_the_goal : HasProof (7 says false ∷ []) (7 says atom 0)
  pub not_from_nothing : ¬ HasProof [] (7 says atom 0)
