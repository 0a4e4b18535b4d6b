-- The theorems of specs/Each.antt but NoMoreThanStatements and SignersArePrincipals, which are in Joined.antt. In
-- order: who is listed has a paper; who signs, and that there is one such list; over propositions they are the
-- principals of what is spelled. Assumes nothing.
use Prim.Native.Nat.{ℕ, ◌<◌}
use mathlib.Core.Bool.{false≢true}
use mathlib.Core.Path.{◌≡◌, refl, sym, ap, subst, ◌∙◌}
use mathlib.Core.Logic.Iff
use mathlib.Core.Logic.{◌↔◌, ⊎_elim}
use mathlib.Core.List.Memᴰ
use mathlib.Core.List.{List, [], ◌∷◌, ◌++◌}
use lib.ListN.{length}
use Rattle.basics.specs.Choice.{pick}
use Rattle.basics.specs.Membership.{◌∈◌, ◌⊆◌, holds}
use Rattle.basics.proofs.Choice.{pick_cases}
use Rattle.basics.proofs.Membership.{first, added, ⊆_left}
use Rattle.basics.proofs.Rising.{one_rising, rising_length}
use Rattle.logic.specs.Proposition.{Proposition, ◌says◌}
use Rattle.table.specs.declared.entry.Entry.{Entry}
use Rattle.table.specs.declared.entry.Entry.TheVariants.{Atom, False, Implies, And, Or, Says, IllFormed}
use Rattle.table.specs.declared.entry.Formula.{Formula}
use Rattle.table.specs.Entry.{principal}
use Rattle.table.specs.Laws.{Ordered}
use Rattle.table.specs.Tests.{entry_at}
use Rattle.table.specs.Spelled.{proposition, spelled, spell}
use Rattle.table.proofs.Spelled.{made_of_operands}
use Rattle.table.proofs.Shapes.{in_table, spell_at}
use Rattle.signers.specs.Signers.{joined, principals, used, signers}
use Rattle.signers.specs.Each.{Signs, SignersAre, OneList, SameSigners, HasPaper, PrincipalsAre, SignersHavePapers, SignsSpelled}
use Rattle.signers.proofs.Joined.{OfForm, joined_from, joins, stays, joined_rises, principals_rise}
use Rattle.signers.proofs.Statements.{used_from, used_to, used_last}

-- ---- who has a paper

-- Who has a paper among some statements has one among any that have these.
paper_more : {es : List Entry} {first second : List ℕ} {K : ℕ} → first ⊆ second → HasPaper es first K
    → HasPaper es second K
paper_more all s = record {
  statement = s.statement;
  stands = all s.statement s.stands;
  said = s.said;
  is = s.is;
}

module _ (es : List Entry) where
  -- Who is listed has a paper,
  listed_paper : (ns : List ℕ) (K : ℕ) → K ∈ principals es ns → HasPaper es ns K
  unfolding principals
  listed_paper [] K m = absurd (Memᴰ.not-nil m)
  listed_paper (n ∷ ns) K m = ⊎_elim
      (λ (f, is). record { statement = n; stands = first; said = f; is = is })
      (λ i. paper_more (added n) (listed_paper ns K i))
      (joined_from (principals es ns) (entry_at es n) K m)

  -- and the principal of each statement is listed.
  paper_listed : (K n : ℕ) {ns : List ℕ} → n ∈ ns → OfForm (entry_at es n) K → K ∈ principals es ns
  unfolding principals
  paper_listed K n (Memᴰ.head {x = x} {xs = xs} e) o =
      joins (principals es xs) (subst (λ j. OfForm (entry_at es j) K) e o)
  paper_listed K n (Memᴰ.tail {x = x} {xs = xs} m) o =
      stays (principals es xs) (entry_at es x) (paper_listed K n m o)

pub principals_are : PrincipalsAre
principals_are es ns = (
  λ K. (listed_paper es ns K, λ s. paper_listed es K s.statement s.stands (s.said, s.is)),
  principals_rise es ns,
)

-- The principals of these statements, and of one more at the end.
principals_last : (es : List Entry) (ns : List ℕ) (n : ℕ)
    → principals es (ns ++ (n ∷ [])) ≡ joined (principals es ns) (entry_at es n)
principals_last es ns n =
    let (each, rising) = principals_are es ns in
    let (Each-last, rising_last) = principals_are es (ns ++ (n ∷ [])) in
    one_rising (principals es (ns ++ (n ∷ []))) (joined (principals es ns) (entry_at es n)) rising_last
    (joined_rises (principals es ns) (entry_at es n) rising)
    (λ K. (
      λ m.
          let s = (Each-last K).0 m in
          ⊎_elim
          (λ i. stays (principals es ns) (entry_at es n)
          ((each K).1 (record { statement = s.statement; stands = i; said = s.said; is = s.is })))
          (λ i. joins (principals es ns) (s.said, ap (entry_at es) (sym (Memᴰ.eq_of_singleton i)) ∙ s.is))
          (Memᴰ.append_cases ns s.stands),
      λ m.
          ⊎_elim
          (λ (f, is).
          (Each-last K).1 (record { statement = n; stands = Memᴰ.append_right ns first; said = f; is = is }))
          (λ i. (Each-last K).1 (paper_more (⊆_left (n ∷ [])) ((each K).0 i)))
          (joined_from (principals es ns) (entry_at es n) K m),
    ))

-- ---- who signs

-- A signer has a paper among the statements that are named.
signs_is : (es : List Entry) (ns named : List ℕ) (K : ℕ) → HasPaper es (used named ns) K ↔ Signs es ns named K
signs_is es ns named K = (
  λ s.
      let (stands, among) = used_from named ns s.statement s.stands in
      record { statement = s.statement; stands = stands; used = among; said = s.said; is = s.is },
  λ s. record { statement = s.statement; stands = used_to named s.stands s.used; said = s.said; is = s.is },
)

pub signers_are : SignersAre
signers_are es ns named =
    let (each, rising) = principals_are es (used named ns) in
    record { each = λ K. Iff.trans (each K) (signs_is es ns named K); rising = rising }

pub one_list : OneList
one_list es ns named ks are =
    let found = signers_are es ns named in
    one_rising ks (signers es ns named) are.rising found.rising
    (λ K. Iff.trans (are.each K) (Iff.symm (found.each K)))

-- A says-formula is in the table.
pub says_in_table : (es : List Entry) {K : ℕ} {f : Formula} (n : ℕ) → entry_at es n ≡ Says (principal K) f
    → n < length es
says_in_table es {K} {f} n is = in_table es n (Says (principal K) f) is (λ e. false≢true cc)

-- Statements with the same members, of which the same are named as far as the table goes, have the same signers.
pub alike_signers : (es : List Entry) (ns named ns' named' : List ℕ) → ((n : ℕ) → n ∈ ns ↔ n ∈ ns')
    → ((n : ℕ) → n < length es → n ∈ named ↔ n ∈ named')
    → signers es ns named ≡ signers es ns' named'
alike_signers es ns named ns' named' same same_named =
    let found = signers_are es ns named in
    one_list es ns' named' (signers es ns named) (record {
      each = λ K. (
        λ m.
            let s = (found.each K).0 m in
            record {
              statement = s.statement;
              stands = (same s.statement).0 s.stands;
              used = (same_named s.statement (says_in_table es s.statement s.is)).0 s.used;
              said = s.said;
              is = s.is;
            },
        λ s. (found.each K).1 (record {
          statement = s.statement;
          stands = (same s.statement).1 s.stands;
          used = (same_named s.statement (says_in_table es s.statement s.is)).1 s.used;
          said = s.said;
          is = s.is;
        }),
      );
      rising = found.rising;
    })

pub same_signers : SameSigners
same_signers es first second named same = alike_signers es first named second named same (λ n l. (λ m. m, λ m. m))

pub signers_have_papers : SignersHavePapers
signers_have_papers es ns named =
    let (each, rising) = principals_are es ns in
    let found = signers_are es ns named in
    let all : signers es ns named ⊆ principals es ns = λ K m.
    let s = (found.each K).0 m in
    (each K).1 (record { statement = s.statement; stands = s.stands; said = s.said; is = s.is }) in
    (all, rising_length (signers es ns named) (principals es ns) found.rising rising all)

-- With one statement more at the end its own principal is put in, where the statement is named.
pub signers_last : (es : List Entry) (ns : List ℕ) (n : ℕ) (named : List ℕ)
    → signers es (ns ++ (n ∷ [])) named
    ≡ pick (holds named n) (joined (signers es ns named) (entry_at es n)) (signers es ns named)
signers_last es ns n named =
    ap (principals es) (used_last named ns n)
    ∙ pick_cases
    (λ (l : List ℕ).
    principals es l ≡ pick (holds named n) (joined (signers es ns named) (entry_at es n)) (signers es ns named))
    (holds named n)
    (λ t. rw t (principals_last es (used named ns) n))
    (λ t. rw t refl)

-- ---- over propositions

-- An entry that spells K says A is of that form.
of_form : (made : List Proposition) (e : Entry) (K : ℕ) (A : Proposition) → proposition made e ≡ K says A → OfForm e K
of_form made (Says k f) K A q = let same : k.0 ≡ K = cc in (f, ap (λ j. Says (principal j) f) same)
of_form made (Atom a) K A q = absurd (false≢true cc)
of_form made False K A q = absurd (false≢true cc)
of_form made (Implies f g) K A q = absurd (false≢true cc)
of_form made (And f g) K A q = absurd (false≢true cc)
of_form made (Or f g) K A q = absurd (false≢true cc)
of_form made IllFormed K A q = absurd (false≢true cc)

pub says_entry : (es : List Entry) → Ordered es → (n K : ℕ) (A : Proposition) → spell es n ≡ K says A
    → OfForm (entry_at es n) K
says_entry es ordered n K A q = of_form (spelled es) (entry_at es n) K A (sym (made_of_operands es ordered n) ∙ q)

pub signs_spelled : SignsSpelled
signs_spelled es ordered ns K = (
  λ s. record {
    said = spell es s.said.0;
    stands = Memᴰ.cast (sym (spell_at es ordered s.statement s.is)) (Memᴰ.map (spell es) s.stands);
  },
  λ s.
      let (n, m, q) = Memᴰ.of_map (spell es) ns s.stands in
      let (f, is) = says_entry es ordered n K s.said q in
      record { statement = n; stands = m; said = f; is = is },
)
