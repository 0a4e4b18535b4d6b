-- The test decides the relation (specs/Promises.antt): it is transitive like the relation, and holds for each pair.
-- Assumes nothing.
use mathlib.Core.Bool.{Bool, true, false, true≢false}
use mathlib.Core.Path.{◌≡◌, refl, sym, subst}
use mathlib.Core.Logic.{◌↔◌, ◌⊎◌, inl, inr, ⊎_elim}
use mathlib.Core.List.Memᴰ
use mathlib.Core.List.{List, [], ◌∷◌}
use Rattle.basics.specs.Choice.{pick}
use Rattle.basics.specs.Membership.{◌∈◌}
use Rattle.basics.proofs.Choice.{both_true}
use Rattle.basics.proofs.Asked.{equal}
use Rattle.logic.specs.Proposition.{Principal}
use Rattle.deputies.specs.SpeaksFor.{Pair, SpeaksFor, itself, by_pair, speaks}
use Rattle.deputies.specs.Promises.{SpeaksLawful, NoPairs, OnlyByPairs, DeputySpeaks}

-- ---- the relation

transitive : {pairs : List Pair} {K L M : Principal} → SpeaksFor pairs K L → SpeaksFor pairs L M → SpeaksFor pairs K M
transitive itself d = d
transitive (by_pair pair m e c) d = by_pair pair m e (transitive c d)

-- One pair more takes nothing away.
more : {pair : Pair} {pairs : List Pair} {K L : Principal} → SpeaksFor pairs K L → SpeaksFor (pair ∷ pairs) K L
more itself = itself
more (by_pair q m e c) = by_pair q (Memᴰ.tail m) e (more c)

pub deputy_speaks : DeputySpeaks
deputy_speaks pairs pair m = by_pair pair m refl itself

pub only_by_pairs : OnlyByPairs
only_by_pairs pairs R reflexive trans each K L itself = reflexive K
only_by_pairs pairs R reflexive trans each K L (by_pair pair m e c) =
    trans K pair.principal L (rw e (each pair m)) (only_by_pairs pairs R reflexive trans each pair.principal L c)

pub no_pairs : NoPairs
no_pairs K L = (alone, λ e. subst (SpeaksFor [] K) e itself)
  where
    alone : {K L : Principal} → SpeaksFor [] K L → K ≡ L
    alone itself = refl
    alone (by_pair pair m e c) = absurd (Memᴰ.not-nil m)

-- ---- the test

-- one or the other
either : (a b : Bool) → pick a true b ≡ true ↔ ((a ≡ true) ⊎ (b ≡ true))
either true b = (λ e. inl refl, λ e. refl)
either false b = (inr, λ s. ⊎_elim (λ e. absurd (true≢false (sym e))) (λ e. e) s)

-- by the others to the deputy, and by them from the principal on
abbrev Through : Pair → List Pair → Principal → Principal → Type 0
Through pair pairs K L = (speaks pairs K pair.deputy ≡ true) × (speaks pairs pair.principal L ≡ true)

ways : (pair : Pair) (pairs : List Pair) (K L : Principal)
    → speaks (pair ∷ pairs) K L ≡ true ↔ ((speaks pairs K L ≡ true) ⊎ Through pair pairs K L)
unfolding speaks
ways pair pairs K L =
    let (to, from) = both_true (speaks pairs K pair.deputy) (speaks pairs pair.principal L) in
    let (one, is) = either (speaks pairs K L) _ in
    (λ e. ⊎_elim inl (λ t. inr (to t)) (one e), λ s. is (⊎_elim inl (λ t. inr (from t)) s))

module _ (pair : Pair) (pairs : List Pair) (K L : Principal) where
  without : speaks pairs K L ≡ true → speaks (pair ∷ pairs) K L ≡ true
  without e = (ways pair pairs K L).1 (inl e)

  through : Through pair pairs K L → speaks (pair ∷ pairs) K L ≡ true
  through t = (ways pair pairs K L).1 (inr t)

itself_true : (pairs : List Pair) (K : Principal) → speaks pairs K K ≡ true
unfolding speaks
itself_true [] K = (equal K K).1 refl
itself_true (pair ∷ pairs) K = without pair pairs K K (itself_true pairs K)

-- A chain that goes through the pair twice needs it once.
transitive_true : (pairs : List Pair) (K L M : Principal) → speaks pairs K L ≡ true → speaks pairs L M ≡ true
    → speaks pairs K M ≡ true
unfolding speaks
transitive_true [] K L M e f = rw ((equal K L).0 e) f
transitive_true (pair ∷ pairs) K L M e f =
    let t = transitive_true pairs in
    ⊎_elim
    (λ a. ⊎_elim (λ b. without pair pairs K M (t K L M a b))
    (λ (b, c). through pair pairs K M (t K L pair.deputy a b, c)) ((ways pair pairs L M).0 f))
    (λ (a, c). ⊎_elim (λ b. through pair pairs K M (a, t pair.principal L M c b))
    (λ (b, d). through pair pairs K M (a, d)) ((ways pair pairs L M).0 f))
    ((ways pair pairs K L).0 e)

pair_true : (pairs : List Pair) (pair : Pair) → pair ∈ pairs → speaks pairs pair.deputy pair.principal ≡ true
pair_true [] pair m = absurd (Memᴰ.not-nil m)
pair_true (q ∷ pairs) pair m =
    ⊎_elim
    (λ e.
    rw e (through q pairs q.deputy q.principal (itself_true pairs q.deputy, itself_true pairs q.principal)))
    (λ i. without q pairs pair.deputy pair.principal (pair_true pairs pair i))
    (Memᴰ.cases_cons m)

-- ---- the test decides the relation

sound : (pairs : List Pair) (K L : Principal) → speaks pairs K L ≡ true → SpeaksFor pairs K L
unfolding speaks
sound [] K L e = subst (SpeaksFor [] K) ((equal K L).0 e) itself
sound (pair ∷ pairs) K L e =
    ⊎_elim
    (λ a. more (sound pairs K L a))
    (λ (a, b).
    transitive (more (sound pairs K pair.deputy a))
    (by_pair pair (Memᴰ.head refl) refl (more (sound pairs pair.principal L b))))
    ((ways pair pairs K L).0 e)

complete : (pairs : List Pair) (K L : Principal) → SpeaksFor pairs K L → speaks pairs K L ≡ true
complete pairs K L itself = itself_true pairs K
complete pairs K L (by_pair pair m e c) =
    transitive_true pairs K pair.principal L (rw e (pair_true pairs pair m)) (complete pairs pair.principal L c)

pub speaks_lawful : SpeaksLawful
speaks_lawful pairs = record {
  decides = λ K L. (sound pairs K L, complete pairs K L);
  reflexive = λ K. itself;
  transitive = λ K L M. transitive;
}
