-- What a loop asks for that goes through the steps and their goals: the text of the lines so far. Assumes nothing.
use Prim.Native.Nat.{ℕ, ◌+◌}
use native.Mathlib.Numerals.{add-one}
use mathlib.Core.Path.{◌≡◌, refl, sym, ap, ◌∙◌}
use mathlib.Core.List.{List, [], ◌∷◌, ◌++◌, map}
use denote.Ref.{Bor}
use Rattle.std.specs.List.{flat_map, enumerate_from, zip}
use Rattle.std.proofs.lemmas.List.{flat_map_more}
use Rattle.std.proofs.lemmas.List.Folds.{flat_map-map}
use Rattle.table.specs.declared.entry.Entry.{Entry}
use Rattle.goals.specs.Kept.{goal_at, line_at, lines_at}
use Rattle.sentences.specs.Sentences.{line_text, sentences_from}

-- the text of the line of a step, by its number, its word and the two words that its goal is kept in
abbrev pub line_of : List Entry → ℕ × ((ℕ × ℕ) × ℕ) → List ℕ
line_of es p = line_text p.0 (line_at es p.1.0.0 (goal_at es p.1.0.1 p.1.1))

-- what the loop is given, behind its references
abbrev pub given : ℕ × ((Bor ℕ × Bor ℕ) × Bor ℕ) → ℕ × ((ℕ × ℕ) × ℕ)
given x = (x.0, ((x.1.0.0.now, x.1.0.1.now), x.1.1.now))

-- the text of the lines of all that it was given
abbrev pub text_of : List Entry → List (ℕ × ((Bor ℕ × Bor ℕ) × Bor ℕ)) → List ℕ
text_of es xs = flat_map (λ x. line_of es (given x)) xs

-- One more is given,
pub text_more : (es : List Entry) (xs : List (ℕ × ((Bor ℕ × Bor ℕ) × Bor ℕ))) (x : ℕ × ((Bor ℕ × Bor ℕ) × Bor ℕ))
    → text_of es xs ++ line_of es (given x) ≡ text_of es (xs ++ (x ∷ []))
text_more es xs x = flat_map_more (λ x. line_of es (given x)) [] xs x

lines_text : (es : List Entry) (i : ℕ) (ws ns bs : List ℕ)
    → flat_map (line_of es) (enumerate_from i (zip (zip ws ns) bs)) ≡ sentences_from i (lines_at es ws ns bs)
unfolding lines_at sentences_from
lines_text es i [] ns bs = refl
lines_text es i (w ∷ ws) [] bs = refl
lines_text es i (w ∷ ws) (n ∷ ns) [] = refl
lines_text es i (w ∷ ws) (n ∷ ns) (b ∷ bs) =
    ap (λ (t : List ℕ). line_of es (i, ((w, n), b)) ++ t)
    (lines_text es (i + 1) ws ns bs ∙ ap (λ (k : ℕ). sentences_from k (lines_at es ws ns bs)) (add-one i))

-- and then all are.
pub text_whole : (es : List Entry) (ws ns bs : List ℕ) (xs : List (ℕ × ((Bor ℕ × Bor ℕ) × Bor ℕ)))
    → map given xs ≡ enumerate_from 0 (zip (zip ws ns) bs) → text_of es xs ≡ sentences_from 0 (lines_at es ws ns bs)
text_whole es ws ns bs xs e =
    sym (flat_map-map (line_of es) given xs) ∙ ap (flat_map (line_of es)) e ∙ lines_text es 0 ws ns bs
