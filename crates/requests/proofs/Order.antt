-- Job 1 (specs/Order.antt). In order: the signers rise; there is one such list, and one line; in any order there are as
-- many. Assumes nothing.
use Prim.Native.Nat.{ℕ}
use native.Mathlib.Omega.{arith}
use mathlib.Core.Bool.{Bool}
use mathlib.Core.Path.{◌≡◌, sym, ap, subst, ◌∙◌}
use mathlib.Core.Logic.Iff
use mathlib.Core.List.{List, [], ◌∷◌, ◌++◌}
use lib.ListN.{length, drop, take}
use lib.Seq.{take-append_seam, take_all}
use Rattle.basics.specs.Membership.{◌⊆◌}
use Rattle.basics.specs.Once.{EachOnce}
use Rattle.basics.specs.Rising.{Rising}
use Rattle.basics.proofs.Once.{no_more}
use Rattle.basics.proofs.Rising.{one_rising}
use Rattle.logic.specs.Principals.{Relation, Decides}
use Rattle.signers.proofs.Each.{signers_are}
use Rattle.signers.specs.Signers as S
use Rattle.record.specs.Verdict.{RecordVerdict, Granted}
use Rattle.record.specs.Layout.{signers}
use Rattle.record.specs.ListAfter.{list_after}
use Rattle.record.proofs.Granted.{granted_exactly}
use Rattle.text.specs.Ascii.{ascii}
use Rattle.text.specs.Decimal.{decimal}
use Rattle.line.specs.RecordLine.{listed, record_line}
use Rattle.demands.specs.Release.{Signers, GrantedWithSigners}
use Rattle.demands.proofs.Release.{has_signers, granted}
use Rattle.requests.specs.Order.{SignersRise, ReleaseGrants, OrderNotFree, OnePossibleLine, CountStays}

-- ---- the signers rise

pub signers_rise : (speaks : ℕ → ℕ → Bool) (R : Relation) → Decides speaks R → SignersRise speaks R
signers_rise speaks R decides file before after answer g =
    let grant = (granted_exactly speaks R decides file (length before) g.count).0 (sym g.answered ∙ g.granted) in
    let counted = grant.counted in
    let list : after ≡ signers file ++ drop g.count before = g.list_after
    ∙ ap (λ v. list_after file v before) g.granted in
    let names : take g.count after ≡ signers file =
    ap (take g.count) list
    ∙ ap (λ (n : ℕ). take n (signers file ++ drop g.count before)) counted
    ∙ take-append_seam (signers file) (drop g.count before) in (
      subst (λ l. Signers R file l) (sym names) (has_signers speaks R decides grant.keeps grant.is_proof),
      ap length names ∙ sym counted,
    )

pub release_grants : (speaks : ℕ → ℕ → Bool) (R : Relation) → Decides speaks R → ReleaseGrants speaks R
release_grants speaks R decides file before after answer answered list release =
    let g = granted speaks R decides file before after answer answered list release in
    record { answered = answered; list_after = list; count = length g.names; granted = g.granted }

-- ---- one list

pub order_not_free : (R : Relation) → OrderNotFree R
order_not_free R file names others are also =
    one_rising names others are.rising also.rising (λ K. Iff.trans (are.each K) (Iff.symm (also.each K)))

-- Of a list that begins with the signers only these are printed.
of_names : (names rest : List ℕ)
    → record_line (Granted (length names)) (names ++ rest) ≡ record_line (Granted (length names)) names
unfolding record_line
of_names names rest =
    ap (λ (l : List ℕ). ascii "granted " ++ decimal (length names) ++ listed l ++ ascii "\n")
    (take-append_seam names rest ∙ sym (take_all (length names) names (omega arith)))

line_of_names :
    (R : Relation) (file before after : List ℕ) (answer : RecordVerdict)
    (g : GrantedWithSigners R file answer before after)
    → record_line answer after ≡ record_line (Granted (length g.names)) g.names
line_of_names R file before after answer g =
    ap (λ (v : RecordVerdict). record_line v after) g.granted
    ∙ ap (record_line (Granted (length g.names))) g.written
    ∙ of_names g.names (drop (length g.names) before)

pub one_possible_line : (R : Relation) → OnePossibleLine R
one_possible_line R file before after before' after' answer answer' g h =
    let same = order_not_free R file g.names h.names g.signers h.signers in
    line_of_names R file before after answer g
    ∙ ap (λ (l : List ℕ). record_line (Granted (length l)) l) same
    ∙ sym (line_of_names R file before' after' answer' h)

-- ---- as many in any order

-- In a rising list each stands once.
rising_once : (ks : List ℕ) → Rising ks → EachOnce ks
rising_once [] r = tt
rising_once (k ∷ ks) (below, rest) = (λ m. let l = below k m in omega arith, rising_once ks rest)

pub count_stays : CountStays
count_stays es ns named ks each once =
    let found = signers_are es ns named in
    let to : ks ⊆ S.signers es ns named = λ K m. (found.each K).1 ((each K).0 m) in
    let from : S.signers es ns named ⊆ ks = λ K m. (each K).1 ((found.each K).0 m) in
    omega (
      arith,
      no_more ℕ ks (S.signers es ns named) once to,
      no_more ℕ (S.signers es ns named) ks
          (rising_once (S.signers es ns named) found.rising) from,
    )
