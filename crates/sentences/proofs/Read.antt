-- A reader that undoes the writer: of a text with something after it, it gives what the text was made of and what comes
-- after. In order: a number; a proposition. So no two propositions have one text. Assumes nothing.
use Prim.Native.Nat.{ℕ, zero, suc, ◌+◌, ◌-◌, ◌*◌, ◌≤◌, max}
use native.Mathlib.Nat.{not-suc-le-zero}
use native.Mathlib.Omega.{arith}
use mathlib.Core.Bool.{Bool, true, false}
use mathlib.Core.Path.{◌≡◌, refl, ap, ◌∙◌}
use mathlib.Core.List.Memᴰ
use mathlib.Core.List.{List, [], ◌∷◌, ◌++◌, append_assoc}
use lib.ListN.{drop, get_or}
use lib.Dec.{eqb, leb}
use borrow.Author.Tests.{le-leb}
use Rattle.basics.specs.Membership.{◌∈◌}
use Rattle.basics.specs.Choice.{pick, both}
use Rattle.text.specs.Ascii.{ascii}
use Rattle.text.specs.Decimal.{decimal, value_after}
use Rattle.text.proofs.Digits.{decimal_reads, decimal_digits}
use Rattle.logic.specs.Proposition.{Proposition, atom, false as falsum, ◌implies◌, ◌and◌, ◌or◌, ◌says◌}
use Rattle.sentences.specs.Formula.{principal_text, bracketed, proposition_text}

-- what was read, and the bytes after it
abbrev pub Read : Type 0 → Type 0
Read A = A × List ℕ

abbrev pub first : List ℕ → ℕ
first bs = get_or bs 0 0

-- ---- a number

abbrev is_digit : ℕ → Bool
is_digit b = both (leb 48 b) (leb b 57)

-- It begins with no digit: a number before it ends there.
abbrev pub Ends : List ℕ → Type 0
Ends [] = Unit {0}
Ends (b ∷ bs) = is_digit b ≡ false

pub read_number : ℕ → List ℕ → Read ℕ
read_number n [] = (n, [])
read_number n (b ∷ bs) = pick (is_digit b) (read_number (10 * n + (b - 48)) bs) (n, b ∷ bs)

read_end : (n : ℕ) (rest : List ℕ) → Ends rest → read_number n rest ≡ (n, rest)
unfolding read_number
read_end n [] e = refl
read_end n (b ∷ bs) e = rw e refl

read_digits : (n : ℕ) (ds rest : List ℕ) → ((b : ℕ) → b ∈ ds → (48 ≤ b) × (b ≤ 57)) → Ends rest
    → read_number n (ds ++ rest) ≡ (value_after n ds, rest)
unfolding read_number value_after
read_digits n [] rest h e = read_end n rest e
read_digits n (b ∷ ds) rest h e =
    let (low, high) = h b (Memᴰ.head refl) in
    rw (le-leb 48 b low, le-leb b 57 high)
    (read_digits (10 * n + (b - 48)) ds rest (λ c m. h c (Memᴰ.tail m)) e)

pub read_decimal : (n : ℕ) (rest : List ℕ) → Ends rest → read_number 0 (decimal n ++ rest) ≡ (n, rest)
read_decimal n rest e =
    read_digits 0 (decimal n) rest (decimal_digits n) e ∙ ap (λ (m : ℕ). (m, rest)) (decimal_reads n)

-- ---- a proposition

-- The second byte of a middle word tells the kind, i(mplies), a(nd) or o(r), and so how long the word is.
abbrev second : List ℕ → ℕ
second bs = get_or bs 1 0

abbrev of_kind : ℕ → Proposition → Proposition → Proposition
of_kind b A B = pick (eqb b 105) (A implies B) (pick (eqb b 97) (A and B) (A or B))

abbrev word_length : ℕ → ℕ
word_length b = pick (eqb b 105) 9 (pick (eqb b 97) 5 4)

-- the last operand and the bracket after it
abbrev close_says : ℕ → Read Proposition → Read Proposition
close_says K r = (K says r.0, drop 1 r.1)

abbrev close_two : ℕ → Proposition → Read Proposition → Read Proposition
close_two b A r = (of_kind b A r.0, drop 1 r.1)

-- of propositions that are no higher than k: a, f(alse), (p or (
pub read_proposition : ℕ → List ℕ → Read Proposition
read_proposition zero bs = (falsum, bs)
read_proposition (suc k) bs =
    pick (eqb (first bs) 97)
    (atom (read_number 0 (drop 1 bs)).0, (read_number 0 (drop 1 bs)).1)
    (pick (eqb (first bs) 102)
    (falsum, drop 5 bs)
    (pick (eqb (second bs) 112)
    (close_says (read_number 0 (drop 2 bs)).0 (read_proposition k (drop 6 (read_number 0 (drop 2 bs)).1)))
    (close_two (second (read_proposition k (drop 1 bs)).1) (read_proposition k (drop 1 bs)).0
    (read_proposition k
    (drop (word_length (second (read_proposition k (drop 1 bs)).1)) (read_proposition k (drop 1 bs)).1)))))

pub height : Proposition → ℕ
height (atom a) = 1
height falsum = 1
height (A implies B) = suc (max (height A) (height B))
height (A and B) = suc (max (height A) (height B))
height (A or B) = suc (max (height A) (height B))
height (K says A) = suc (height A)

-- No text of a proposition begins with p, which begins a principal.
pub not_principal : (A : Proposition) (rest : List ℕ) → eqb (first (proposition_text A ++ rest)) 112 ≡ false
unfolding proposition_text ascii
not_principal (atom a) rest = refl
not_principal falsum rest = refl
not_principal (A implies B) rest = refl
not_principal (A and B) rest = refl
not_principal (A or B) rest = refl
not_principal (K says A) rest = refl

in_brackets_lem : (s m t rest : List ℕ)
    → (ascii "(" ++ (s ++ (m ++ (t ++ ascii ")")))) ++ rest ≡ 40 ∷ (s ++ (m ++ (t ++ (41 ∷ rest))))
unfolding ascii
in_brackets_lem s m t rest = simp append_assoc

read_says : (k K : ℕ) (A : Proposition) (rest : List ℕ)
    → read_proposition k (proposition_text A ++ (41 ∷ rest)) ≡ (A, 41 ∷ rest)
    → read_proposition (suc k) (40 ∷ (principal_text K ++ (ascii " says " ++ (proposition_text A ++ (41 ∷ rest)))))
    ≡ (K says A, rest)
unfolding read_proposition ascii
read_says k K A rest r = rw (read_decimal K (ascii " says " ++ (proposition_text A ++ (41 ∷ rest))) refl, r) refl

-- with the word m in the middle, whose second byte is b
read_two : (k b : ℕ) (A B : Proposition) (m rest : List ℕ)
    → read_proposition k (proposition_text A ++ (m ++ (proposition_text B ++ (41 ∷ rest))))
    ≡ (A, m ++ (proposition_text B ++ (41 ∷ rest)))
    → second (m ++ (proposition_text B ++ (41 ∷ rest))) ≡ b
    → drop (word_length b) (m ++ (proposition_text B ++ (41 ∷ rest))) ≡ proposition_text B ++ (41 ∷ rest)
    → read_proposition k (proposition_text B ++ (41 ∷ rest)) ≡ (B, 41 ∷ rest)
    → read_proposition (suc k) (40 ∷ (proposition_text A ++ (m ++ (proposition_text B ++ (41 ∷ rest)))))
    ≡ (of_kind b A B, rest)
unfolding read_proposition
read_two k b A B m rest r e d q = rw (not_principal A (m ++ (proposition_text B ++ (41 ∷ rest))), r, e, d, q) refl

pub read_proposition_lem : (k : ℕ) (A : Proposition) (rest : List ℕ) → height A ≤ k → Ends rest
    → read_proposition k (proposition_text A ++ rest) ≡ (A, rest)
unfolding proposition_text height ascii
read_proposition_lem zero (atom a) rest l e = absurd (not-suc-le-zero l)
read_proposition_lem zero falsum rest l e = absurd (not-suc-le-zero l)
read_proposition_lem zero (A implies B) rest l e = absurd (not-suc-le-zero l)
read_proposition_lem zero (A and B) rest l e = absurd (not-suc-le-zero l)
read_proposition_lem zero (A or B) rest l e = absurd (not-suc-le-zero l)
read_proposition_lem zero (K says A) rest l e = absurd (not-suc-le-zero l)
read_proposition_lem (suc k) (atom a) rest l e =
    unfold read_proposition in ap (λ (r : Read ℕ). (atom r.0, r.1)) (read_decimal a rest e)
read_proposition_lem (suc k) falsum rest l e = unfold read_proposition in refl
read_proposition_lem (suc k) (A implies B) rest l e =
    ap (read_proposition (suc k)) (in_brackets_lem (proposition_text A) (ascii " implies ") (proposition_text B) rest)
    ∙ read_two k 105 A B (ascii " implies ") rest
    (read_proposition_lem k A (ascii " implies " ++ (proposition_text B ++ (41 ∷ rest))) (omega arith) refl) refl refl
    (read_proposition_lem k B (41 ∷ rest) (omega arith) refl)
read_proposition_lem (suc k) (A and B) rest l e =
    ap (read_proposition (suc k)) (in_brackets_lem (proposition_text A) (ascii " and ") (proposition_text B) rest)
    ∙ read_two k 97 A B (ascii " and ") rest
    (read_proposition_lem k A (ascii " and " ++ (proposition_text B ++ (41 ∷ rest))) (omega arith) refl) refl refl
    (read_proposition_lem k B (41 ∷ rest) (omega arith) refl)
read_proposition_lem (suc k) (A or B) rest l e =
    ap (read_proposition (suc k)) (in_brackets_lem (proposition_text A) (ascii " or ") (proposition_text B) rest)
    ∙ read_two k 111 A B (ascii " or ") rest
    (read_proposition_lem k A (ascii " or " ++ (proposition_text B ++ (41 ∷ rest))) (omega arith) refl) refl refl
    (read_proposition_lem k B (41 ∷ rest) (omega arith) refl)
read_proposition_lem (suc k) (K says A) rest l e =
    ap (read_proposition (suc k)) (in_brackets_lem (principal_text K) (ascii " says ") (proposition_text A) rest)
    ∙ read_says k K A rest (read_proposition_lem k A (41 ∷ rest) (omega arith) refl)
