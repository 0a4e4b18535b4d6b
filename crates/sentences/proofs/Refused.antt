-- A file is refused by the first reason in the order that applies (specs/Promises.antt, `RefusedExactly`): by the
-- record's own first reason, or, where the record is granted, by 16. Assumes nothing.
use Prim.Native.Nat.{ℕ}
use native.Mathlib.Omega.{arith}
use mathlib.Core.Bool.{Bool, true, false}
use mathlib.Core.Path.{◌≡◌, refl, sym, ap, subst, ◌∙◌}
use mathlib.Core.List.{List, [], ◌∷◌}
use lib.ListN.{length}
use lib.Dec.{ltb}
use Rattle.std.specs.Prelude.{Err}
use Rattle.basics.specs.Choice.{pick}
use Rattle.basics.specs.Membership.{◌∈◌}
use Rattle.basics.specs.Order.{FirstReason, checking_order, before}
use Rattle.basics.proofs.Asked.{less}
use Rattle.basics.proofs.Refusals.{same_refusal, refused_as, passed_by_all}
use Rattle.basics.proofs.Order.{none_has, before_joined, before_in, in_checking_order, of_checking_order}
use Rattle.logic.specs.Principals.{Relation, Decides}
use Rattle.record.specs.Verdict.{RecordVerdict}
use Rattle.record.specs.Verdict as Verdict
use Rattle.record.specs.Answer as Record
use Rattle.record.specs.Answer.{record_answer}
use Rattle.record.specs.Reasons.{Reason}
use Rattle.record.proofs.Answered.{answer_granted}
use Rattle.record.proofs.Granted.{granted_exactly}
use Rattle.record.proofs.Reasons as Reasons
use Rattle.record.proofs.Reasons.{reasons, reason_range}
use Rattle.sentences.specs.Verdict.{Written, Refused}
use Rattle.sentences.specs.Answer.{record_text, after_record}
use Rattle.sentences.specs.Promises.{sentences_order, SentencesReason, of_record, text_short, RefusedExactly}
use Rattle.sentences.proofs.Answer.{not_written, answer_after_record}
use Rattle.sentences.proofs.Text.{text_of_derivation}

-- ---- the order

-- Before 16 stand the record's numbers.
before_16 : before sentences_order 16 ≡ checking_order
unfolding before
before_16 = refl

module _ (speaks : ℕ → ℕ → Bool) (R : Relation) (decides : Decides speaks R) (file : List ℕ) (room bytes : ℕ) where
  -- A reason of the record has one of its numbers, and stands before 16.
  of_order : (number p : ℕ) → Reason speaks file room number p → number ∈ checking_order
  of_order number p r = let (least, most) =
      reason_range speaks file room number p r in of_checking_order number least most

  before_record : (number p : ℕ) → Reason speaks file room number p → before sentences_order number
      ≡ before checking_order number
  before_record number p r = before_joined (16 ∷ []) number checking_order (of_order number p r)

  -- 16 itself stands before none of them.
  not_16 : (number p : ℕ) → Reason speaks file room number p → ¬ (16 ∈ before sentences_order number)
  not_16 number p r m =
      let (_, most) = in_checking_order 16
      (before_in checking_order number 16 (subst (λ (l : List ℕ). 16 ∈ l) (before_record number p r) m)) in
      omega arith

  -- ---- the record is refused

  first_of_record : (number p : ℕ) → FirstReason checking_order (Reason speaks file room) number p
      → FirstReason sentences_order (SentencesReason speaks R file room bytes) number p
  first_of_record number p r = record {
    applies = of_record r.applies;
    none_before = λ n q m. λ s. none n q m s;
  }
    where
      none : (n q : ℕ) → n ∈ before sentences_order number → ¬ SentencesReason speaks R file room bytes n q
      none n q m (of_record other) = r.none_before n q
          (subst (λ (l : List ℕ). n ∈ l) (before_record number p r.applies) m) other
      none n q m (text_short is z proof l) = not_16 number p r.applies
          (subst (λ (k : ℕ). k ∈ before sentences_order number) is m)

  of_first : (number p : ℕ) → (r : Reason speaks file room number p)
      → ((n q : ℕ) → n ∈ before sentences_order number → ¬ SentencesReason speaks R file room bytes n q)
      → FirstReason checking_order (Reason speaks file room) number p
  of_first number p r none = record {
    applies = r;
    none_before = λ n q m other. none n q (subst (λ (l : List ℕ). n ∈ l) (sym (before_record number p r)) m)
        (of_record other);
  }

  -- ---- the record is granted

  no_reason : (count : ℕ) → record_answer speaks file room ≡ Verdict.Granted count → (n q : ℕ)
      → ¬ Reason speaks file room n q
  no_reason count e n q r =
      let (passed, _) = (answer_granted speaks file room count).0 e in
      (none_has (Record.tests speaks file room)).0 ((passed_by_all (Record.tests speaks file room)).0 passed) n q
      ((reasons speaks file room n q).0 r)

  -- ---- either

  refuses : (v : RecordVerdict) → record_answer speaks file room ≡ v → (number p : ℕ) → after_record speaks file bytes v
      ≡ Refused number p
      → FirstReason sentences_order (SentencesReason speaks R file room bytes) number p
  refuses (Err r) e number p is =
      first_of_record number p ((Reasons.refused_exactly speaks file room number p).0 (e ∙ refused_as r is))
  refuses (Verdict.Granted count) e number p is = short (ltb bytes (length (record_text speaks file))) refl is
    where
      none : (n q : ℕ) → n ∈ before sentences_order 16 → ¬ SentencesReason speaks R file room bytes n q
      none n q m (of_record r) = no_reason count e n q r
      none n q m (text_short sixteen z proof l) =
          let (_, most) = in_checking_order n (subst (λ (l : List ℕ). n ∈ l) before_16 m) in omega arith

      short : (b : Bool) → ltb bytes (length (record_text speaks file)) ≡ b
          → pick b (Refused 16 0) (Written count (length (record_text speaks file))) ≡ Refused number p
          → FirstReason sentences_order (SentencesReason speaks R file room bytes) number p
      short true t h =
          let grant = (granted_exactly speaks R decides file room count).0 e in
          let text = ap length (text_of_derivation speaks R decides file grant.keeps grant.is_proof) in
          let l = (less bytes (length (record_text speaks file))).0 t in
          let (f, g) = same_refusal h in
          record {
            applies = text_short (sym f) (sym g) grant.is_proof (omega (arith, text));
            none_before = λ n q m. none n q (subst (λ (k : ℕ). n ∈ before sentences_order k) (sym f) m);
          }
      short false t h = absurd (not_written (sym h))

  refused_by : (v : RecordVerdict) → record_answer speaks file room ≡ v → (number p : ℕ)
      → SentencesReason speaks R file room bytes number p
      → ((n q : ℕ) → n ∈ before sentences_order number → ¬ SentencesReason speaks R file room bytes n q)
      → after_record speaks file bytes v ≡ Refused number p
  refused_by (Err r') e number p (of_record r) none =
      let is = sym e ∙ (Reasons.refused_exactly speaks file room number p).1 (of_first number p r none) in cc
  refused_by (Err r') e number p (text_short sixteen z proof l) none =
      let r = ((Reasons.refused_exactly speaks file room r'.number r'.place).0 e).applies in
      let m : r'.number ∈ before sentences_order 16 = subst (λ (o : List ℕ). r'.number ∈ o) (sym before_16) (of_order r'.number r'.place r) in
      absurd (none r'.number r'.place (subst (λ (k : ℕ). r'.number ∈ before sentences_order k) (sym sixteen) m) (of_record r))
  refused_by (Verdict.Granted count) e number p (of_record r) none = absurd (no_reason count e number p r)
  refused_by (Verdict.Granted count) e number p (text_short sixteen z proof l) none =
      let grant = (granted_exactly speaks R decides file room count).0 e in
      let text = ap length (text_of_derivation speaks R decides file grant.keeps proof) in
      let t = (less bytes (length (record_text speaks file))).1 (omega (arith, text)) in
      ap (λ (b : Bool). pick b (Refused 16 0) (Written count (length (record_text speaks file)))) t ∙ cc

pub refused_exactly : (speaks : ℕ → ℕ → Bool) (R : Relation) → Decides speaks R → RefusedExactly speaks R
refused_exactly speaks R decides file room bytes number p =
    let after = answer_after_record speaks file room bytes in (
      λ e. refuses speaks R decides file room bytes (record_answer speaks file room) refl number p (sym after ∙ e),
      λ r. after ∙ refused_by speaks R decides file room bytes (record_answer speaks file room) refl number p
          r.applies r.none_before,
    )
