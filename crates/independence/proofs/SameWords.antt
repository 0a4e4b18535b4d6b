-- The same step words are a proof whatever K's statements are (specs/Promises.antt, `SameWords`), and K is no signer
-- (`NeverSigns`). Assumes nothing.
use Prim.Native.Nat.{ℕ, ◌≤◌, ◌<◌}
use native.Mathlib.Decide.{ℕ_discrete}
use native.Mathlib.Omega.{arith}
use mathlib.Core.Bool.{Bool}
use mathlib.Core.Path.{◌≡◌, sym, ap, subst, ◌∙◌}
use mathlib.Core.Logic.Iff
use mathlib.Core.Logic.{◌↔◌}
use mathlib.Core.List.Memᴰ
use mathlib.Core.List.{List}
use lib.ListN.{length}
use Rattle.basics.specs.Limits.{most_depth, most_principals}
use Rattle.basics.specs.Membership.{◌∈◌}
use Rattle.basics.proofs.Rising.{one_rising}
use Rattle.logic.specs.Proposition.{Proposition}
use Rattle.logic.specs.Judgment.{truth}
use Rattle.logic.specs.Principals.{Relation, Decides}
use Rattle.logic.specs.Derivation.{Derivation}
use Rattle.logic.specs.Depth.{step_depths}
use Rattle.logic.specs.Signed.{SignedBy, Himself}
use Rattle.logic.specs.Sides as Sides
use Rattle.logic.proofs.Principals.{Decided, decided}
use Rattle.table.specs.declared.entry.Entry.{Entry}
use Rattle.table.specs.Laws.{Ordered}
use Rattle.table.specs.Number.{number}
use Rattle.table.specs.Spelled.{spell, spell_all}
use Rattle.table.proofs.Shapes.{spell_at}
use Rattle.steps.specs.Naming.{named_numbers, is_says_left}
use Rattle.steps.specs.Words.{words}
use Rattle.steps.proofs.ByLines.{words_of_same_lines}
use Rattle.signers.specs.Each.{Signs, AreSigners}
use Rattle.signers.specs.Signers.{signers as signers_of}
use Rattle.signers.proofs.Each.{signers_are}
use Rattle.record.specs.Layout.{goal, statements, steps, table, says_left_numbers, signers}
use Rattle.record.specs.Proof.{Keeps, stated_by, goal_of, IsProof}
use Rattle.record.specs.Promises.{SameButStatements, GrantSays}
use Rattle.record.proofs.Carries.{signers_carry}
use Rattle.record.proofs.Granted.{granted_exactly}
use Rattle.record.proofs.SameSet.{same_table}
use Rattle.independence.specs.Verdict.{Independent}
use Rattle.independence.specs.Answer.{independence_answer}
use Rattle.independence.specs.SameProofs.{HasOthers}
use Rattle.independence.specs.Promises.{SameButFor, SameWordsSay, SameWords, NeverSigns}
use Rattle.independence.proofs.SameProofs.{same_proofs, independent_of_others, never_opened}
use Rattle.independence.proofs.Answer.{independent_exactly}

-- ---- over one table

-- A proof of a number from numbers: what `IsProof` says of a file's parts.
record Proof (R : Relation) (es : List Entry) (ns : List ℕ) (g : ℕ) (ws : List ℕ) : Type 0 where
  derivation : Derivation R (spell_all es ns) (truth (spell es g))
  within : (d : ℕ) → d ∈ step_depths 1 derivation → d ≤ most_depth
  is : ws ≡ words (number es) derivation

proof_is : (R : Relation) (file : List ℕ)
    → IsProof R file ↔ Proof R (table file) (statements file) (goal file) (steps file)
proof_is R file = (
  λ p. record { derivation = p.derivation; within = p.within; is = p.words },
  λ p. record { derivation = p.derivation; within = p.within; words = p.is },
)

-- Numbers that don't spell a word of K are among both.
record Others (K : ℕ) (es : List Entry) (ns ms : List ℕ) : Type 0 where
  same : (n : ℕ) → ¬ SignedBy (Himself K) (spell es n) → n ∈ ns ↔ n ∈ ms

turned : {K : ℕ} {es : List Entry} {ns ms : List ℕ} → Others K es ns ms → Others K es ms ns
turned o = record { same = λ n other. Iff.symm (o.same n other) }

has_others : {K : ℕ} {es : List Entry} {ns ms : List ℕ} → Others K es ns ms
    → HasOthers K (spell_all es ns) (spell_all es ms)
has_others {K} {es} {ns} {ms} o A m other =
    let (n, stands, spells) = Memᴰ.of_map (spell es) ns m in
    let not-his = subst (λ (X : Proposition). ¬ SignedBy (Himself K) X) (sym spells) other in
    Memᴰ.cast (sym spells) (Memᴰ.map (spell es) ((o.same n not-his).0 stands))

-- The same words prove the number from either,
still_proof :
    (R : Relation) {K : ℕ} {es : List Entry} {ns ms : List ℕ} {g : ℕ} {ws : List ℕ}
    → Sides.Independent R K (spell_all es ns) (spell es g) → Others K es ns ms → Proof R es ns g ws → Proof R es ms g ws
still_proof R {K} {es} {ns} {ms} {g} i o p =
    let r = same_proofs R K (spell_all es ns) (spell_all es ms) (spell es g) i (has_others o) p.derivation in
    record {
      derivation = r.derivation;
      within = λ d m. p.within d (subst (λ (ds : List ℕ). d ∈ ds) r.same_depths m);
      is = p.is ∙ words_of_same_lines p.derivation r.derivation r.same_lines (number es);
    }

-- which is independent of K beside either.
still_independent :
    (R : Relation) {K : ℕ} {es : List Entry} {ns ms : List ℕ} (g : ℕ)
    → Sides.Independent R K (spell_all es ns) (spell es g) → Others K es ns ms
    → Sides.Independent R K (spell_all es ms) (spell es g)
still_independent R {K} g i o = independent_of_others R K i (has_others (turned o))

-- A signer other than K has his statement in both.
signs_still :
    {K : ℕ} {es : List Entry} {ns ms named : List ℕ} → Ordered es → Others K es ns ms → (L : ℕ) → ¬ (L ≡ K)
    → Signs es ns named L → Signs es ms named L
signs_still {K} {es} ordered o L other s =
    let spells = spell_at es ordered s.statement s.is in
    let not-his = subst (λ (X : Proposition). ¬ SignedBy (Himself K) X) (sym spells) other in
    record {
      statement = s.statement;
      stands = (o.same s.statement not-his).0 s.stands;
      used = s.used;
      said = s.said;
      is = s.is;
    }

-- ---- K never signs

module _ (speaks : ℕ → ℕ → Bool) (R : Relation) (decides : Decides speaks R) where
  never_carries : (file : List ℕ) (K : ℕ) → Keeps file → IsProof R file
      → Sides.Independent R K (stated_by file) (goal_of file) → ¬ (K ∈ signers file)
  never_carries file K keeps p i m =
      let carries = (signers_carry speaks R decides file keeps p K).0 m in
      never_opened R K (stated_by file) (goal_of file) i p.derivation carries.said carries.named

pub never_signs : (speaks : ℕ → ℕ → Bool) → NeverSigns speaks
never_signs speaks file K room count e granted =
    let (keeps, _, i) = (independent_exactly speaks (Decided speaks) (decided speaks) file K).0 e in
    let grant = (granted_exactly speaks (Decided speaks) (decided speaks) file room count).0 granted in
    never_carries speaks (Decided speaks) (decided speaks) file K keeps grant.is_proof i

-- ---- two files

module _ (speaks : ℕ → ℕ → Bool) (R : Relation) (decides : Decides speaks R) (file changed : List ℕ) (K : ℕ)
    (e : independence_answer speaks file K ≡ Independent) (keeps' : Keeps changed) (s : SameButFor K file changed) where
  keeps : Keeps file
  keeps = let (k, _, _) = (independent_exactly speaks R decides file K).0 e in k

  below : K < most_principals
  below = let (_, l, _) = (independent_exactly speaks R decides file K).0 e in l

  independent : Sides.Independent R K (stated_by file) (goal_of file)
  independent = let (_, _, i) = (independent_exactly speaks R decides file K).0 e in i

  abbrev rest : SameButStatements file changed
  rest = s.same_rest

  others : Others K (table file) (statements file) (statements changed)
  others = record { same = s.same_others }

  -- Both have one table, goal and steps: what holds of these parts of one holds of those of the other.
  abbrev Parts : Type 0
  Parts = List Entry × ℕ × List ℕ

  same_parts : ◌≡◌ {A = Parts} (table file, goal file, steps file) (table changed, goal changed, steps changed)
  same_parts = λ j. (same_table rest j, rest.same_goal j, rest.same_steps j)

  -- The same words are a proof in both.
  to_changed : IsProof R file → IsProof R changed
  to_changed p =
      (proof_is R changed).1
      (subst (λ (t : Parts). Proof R t.0 (statements changed) t.1 t.2) same_parts
      (still_proof R independent others ((proof_is R file).0 p)))

  -- The changed record is independent of K as well.
  changed_independent : Sides.Independent R K (stated_by changed) (goal_of changed)
  changed_independent =
      subst (λ (t : Parts). Sides.Independent R K (spell_all t.0 (statements changed)) (spell t.0 t.1))
      same_parts (still_independent R (goal file) independent others)

  from_changed : IsProof R changed → IsProof R file
  from_changed p =
      let over = subst (λ (t : Parts). Proof R t.0 (statements changed) t.1 t.2) (sym same_parts)
      ((proof_is R changed).0 p) in
      (proof_is R file).1 (still_proof R (still_independent R (goal file) independent others) (turned others) over)

  -- ---- the signers

  abbrev named : List ℕ
  named = says_left_numbers file

  -- those of the changed statements over the one table and the one list of steps
  abbrev mixed : List ℕ
  mixed = signers_of (table file) (statements changed) named

  mixed_is : mixed ≡ signers changed
  mixed_is = ap (λ (t : Parts). signers_of t.0 (statements changed) (named_numbers is_says_left t.2)) same_parts

  same_signers : IsProof R file → signers file ≡ signers changed
  same_signers p =
      one_rising (signers file) mixed are.rising are'.rising (λ L. (to L, from L)) ∙ mixed_is
    where
      are : AreSigners (table file) (statements file) named (signers file)
      are = signers_are (table file) (statements file) named

      are' : AreSigners (table file) (statements changed) named mixed
      are' = signers_are (table file) (statements changed) named

      to : (L : ℕ) → L ∈ signers file → L ∈ mixed
      to L m = by (ℕ_discrete L K)
        where
          by : Dec (L ≡ K) → L ∈ mixed
          by (yes q) = absurd (never_carries speaks R decides file K keeps p independent (Memᴰ.cast (sym q) m))
          by (no other) = (are'.each L).1 (signs_still keeps.ordered others L other ((are.each L).0 m))

      from : (L : ℕ) → L ∈ mixed → L ∈ signers file
      from L m = by (ℕ_discrete L K)
        where
          by : Dec (L ≡ K) → L ∈ signers file
          by (yes q) =
              absurd (never_carries speaks R decides changed K keeps' (to_changed p) changed_independent
              (subst (λ (ls : List ℕ). K ∈ ls) mixed_is (Memᴰ.cast (sym q) m)))
          by (no other) = (are.each L).1 (signs_still keeps.ordered (turned others) L other ((are'.each L).0 m))

  -- ---- the answer

  grants : (room count : ℕ) → GrantSays R file room count ↔ GrantSays R changed room count
  grants room count = (
    λ g.
        let n = ap length (same_signers g.is_proof) in
        let fits = g.fits in
        record {
          keeps = keeps';
          is_proof = to_changed g.is_proof;
          fits = omega (arith, n);
          counted = g.counted ∙ n;
        },
    λ g.
        let p = from_changed g.is_proof in
        let n = ap length (same_signers p) in
        let fits = g.fits in
        record { keeps = keeps; is_proof = p; fits = omega (arith, n); counted = g.counted ∙ sym n },
  )

  same_said : SameWordsSay speaks R file changed K
  same_said = record {
    same_proof = (to_changed, from_changed);
    same_grant = λ room count.
        let (to, of) = granted_exactly speaks R decides file room count in
        let (to', of') = granted_exactly speaks R decides changed room count in
        (λ g. of' ((grants room count).0 (to g)), λ g. of ((grants room count).1 (to' g)));
    same_signers = same_signers;
    independent_too = (independent_exactly speaks R decides changed K).1 (keeps', below, changed_independent);
  }

pub same_words : (speaks : ℕ → ℕ → Bool) (R : Relation) → Decides speaks R → SameWords speaks R
same_words speaks R decides file changed K e keeps' s = same_said speaks R decides file changed K e keeps' s
