-- The propositions of a table: one for each entry, made of those of its operands. Assumes nothing.
use Prim.Native.Nat.{ℕ, suc, ◌<◌, ◌≤◌}
use native.Mathlib.Omega.{arith}
use native.Mathlib.Decide.{dec_lt}
use mathlib.Core.Path.{◌≡◌, refl, sym, ap, ◌∙◌}
use mathlib.Core.List.{List, [], ◌∷◌, ◌++◌, append_assoc, append-nil}
use lib.ListN.{length, take, drop, length-take, take-append-drop, get_or-append, get_or-eq_default}
use lib.Seq.{length-take-le, take_all, take-suc, append_snoc, split_at, get_or_at}
use Rattle.basics.specs.Membership.{◌∈◌}
use Rattle.basics.proofs.Membership.{first, second}
use Rattle.logic.specs.Proposition.{Proposition, false, ◌says◌}
use Rattle.table.specs.declared.entry.Formula.{Formula}
use Rattle.table.specs.declared.entry.Entry.{Entry}
use Rattle.table.specs.declared.entry.Entry.TheVariants.{Atom, False, Implies, And, Or, Says, IllFormed}
use Rattle.table.specs.Tests.{entry_at}
use Rattle.table.specs.Spelled.{among, proposition, spelled_after, spelled, spell}
use Rattle.table.specs.Laws.{Ordered, operands, MadeOfOperands}
use Rattle.table.proofs.Ordered.{operands_lower}

-- ---- what is made

-- what was made stays, and the rest is put behind it
grown : (made : List Proposition) (es : List Entry)
    → (rest : List Proposition) × (spelled_after made es ≡ made ++ rest) × (length rest ≡ length es)
unfolding spelled_after
grown made [] = ([], sym (append-nil made), refl)
grown made (e ∷ es) =
    let (rest, grows, sized) = grown (made ++ proposition made e ∷ []) es in
    (proposition made e ∷ rest, grows ∙ append_assoc made (proposition made e ∷ []) rest, ap suc sized)

-- There is one for each entry.
pub length_spelled : (es : List Entry) → length (spelled es) ≡ length es
unfolding spelled
length_spelled es = let (rest, grows, sized) = grown [] es in ap length grows ∙ sized

-- entries are read one after another
joined : (made : List Proposition) (xs ys : List Entry) → spelled_after made (xs ++ ys) ≡ spelled_after (spelled_after made xs) ys
unfolding spelled_after
joined made [] ys = refl
joined made (x ∷ xs) ys = joined (made ++ proposition made x ∷ []) xs ys

-- An entry's proposition depends on its operands alone.
same_operands : (made made' : List Proposition) (e : Entry) → ((f : Formula) → f ∈ operands e → among made f.0 ≡ among made' f.0)
    → proposition made e ≡ proposition made' e
same_operands made made' (Atom a) same = refl
same_operands made made' False same = refl
same_operands made made' (Implies f g) same = cc (same f first, same g second)
same_operands made made' (And f g) same = cc (same f first, same g second)
same_operands made made' (Or f g) same = cc (same f first, same g second)
same_operands made made' (Says k f) same = ap (λ A. k.0 says A) (same f first)
same_operands made made' IllFormed same = refl

-- ---- made of operands

-- Entry n's proposition is made of those before it.
around : (es : List Entry) (n : ℕ) → n < length es
    → (rest : List Proposition) × (spelled es ≡ spelled (take n es) ++ proposition (spelled (take n es)) (entry_at es n) ∷ rest)
unfolding spelled_after spelled
around es n l =
    let before = spelled (take n es) in
    let e = entry_at es n in
    let (rest, grows, _) = grown (before ++ proposition before e ∷ []) (drop (suc n) es) in
    let read = ap spelled (split_at es n IllFormed l) ∙ joined [] (take n es) (e ∷ drop (suc n) es) in
    (rest, read ∙ grows ∙ append_snoc before (proposition before e) rest)

-- below F: its operands are among those before it, which stay
below : (es : List Entry) → Ordered es → (n : ℕ) → n < length es → spell es n ≡ proposition (spelled es) (entry_at es n)
below es ordered n l =
    let before = spelled (take n es) in
    let e = entry_at es n in
    let (rest, is) = around es n l in
    let sized : length before ≡ n = length_spelled (take n es) ∙ length-take-le n es (omega arith) in
    rw is (get_or_at before (proposition before e) rest false n sized)
    ∙ same_operands before (spelled es) e
    (λ f m. rw is (sym (get_or-append before _ false f.0 (omega (arith, operands_lower es ordered n l f m)))))

-- past F: there is no entry, and it spells false
past : (es : List Entry) (n : ℕ) → length es ≤ n → spell es n ≡ proposition (spelled es) (entry_at es n)
past es n l =
    get_or-eq_default (spelled es) false (omega (arith, length_spelled es))
    ∙ ap (proposition (spelled es)) (sym (get_or-eq_default es IllFormed l))

pub made_of_operands : MadeOfOperands
made_of_operands es ordered n = by (dec_lt n (length es))
  where
    by : Dec (n < length es) → spell es n ≡ proposition (spelled es) (entry_at es n)
    by (yes l) = below es ordered n l
    by (no m) = past es n (omega arith)

-- ---- in every table, ordered or not

-- A number's proposition is made of those of the entries before it.
pub made_before : (es : List Entry) (n : ℕ) → spell es n ≡ proposition (spelled (take n es)) (entry_at es n)
made_before es n = by (dec_lt n (length es))
  where
    same_none : (e : Entry) → e ≡ IllFormed → proposition (spelled es) e ≡ proposition (spelled (take n es)) e
    same_none e none = rw none

    by : Dec (n < length es) → spell es n ≡ proposition (spelled (take n es)) (entry_at es n)
    by (yes l) =
        let before = spelled (take n es) in
        let (rest, is) = around es n l in
        let sized : length before ≡ n = length_spelled (take n es) ∙ length-take-le n es (omega arith) in
        rw is (get_or_at before (proposition before (entry_at es n)) rest false n sized)
    by (no m) = past es n (omega arith) ∙ same_none (entry_at es n) (get_or-eq_default es IllFormed (omega arith))

-- Below n there are the same propositions before entry n,
pub among_lower : (es : List Entry) (n m : ℕ) → m < n → among (spelled (take n es)) m ≡ spell es m
among_lower es n m l = by (dec_lt n (length es))
  where
    by : Dec (n < length es) → among (spelled (take n es)) m ≡ spell es m
    by (yes f) =
        let before = spelled (take n es) in
        let (rest, is) = around es n f in
        let sized : length before ≡ n = length_spelled (take n es) ∙ length-take-le n es (omega arith) in
        rw is (sym (get_or-append before _ false m (omega arith)))
    by (no f) = ap (λ (r : List Entry). spell r m) (take_all n es (omega arith))

-- and from n on there is none.
pub among_higher : (es : List Entry) (n m : ℕ) → n ≤ m → among (spelled (take n es)) m ≡ false
among_higher es n m l =
    get_or-eq_default (spelled (take n es)) false (omega (arith, length_spelled (take n es), length-take n es))

-- One entry more makes one proposition more,
pub spelled_next : (es : List Entry) (n : ℕ) → n < length es
    → spelled (take (suc n) es) ≡ spelled (take n es) ++ (proposition (spelled (take n es)) (entry_at es n) ∷ [])
unfolding spelled_after spelled
spelled_next es n l = ap spelled (take-suc es n IllFormed l) ∙ joined [] (take n es) (entry_at es n ∷ [])

-- and those of the first entries stand in front.
pub spelled_front : (es : List Entry) (n : ℕ) → (rest : List Proposition) × (spelled es ≡ spelled (take n es) ++ rest)
unfolding spelled_after spelled
spelled_front es n =
    let (rest, grows, _) = grown (spelled (take n es)) (drop n es) in
    (rest, ap spelled (sym (take-append-drop n es)) ∙ joined [] (take n es) (drop n es) ∙ grows)
