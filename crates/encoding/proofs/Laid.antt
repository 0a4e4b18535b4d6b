-- A file made of its fields and its parts has them (specs/Laid.antt). Assumes nothing.
use Prim.Native.Nat.{ℕ, zero, suc, ◌+◌, ◌*◌, ◌<◌}
use native.Mathlib.Omega.{arith}
use native.Mathlib.Decide.{dec_lt}
use mathlib.Core.Bool.{true, false≢true}
use mathlib.Core.Path.{◌≡◌, refl, sym, ap, ap₂, ◌∙◌}
use mathlib.Core.Logic.{⊎_elim}
use mathlib.Core.List.Memᴰ
use mathlib.Core.List.{List, [], ◌∷◌, ◌++◌, map, flatten, append_assoc}
use lib.ListN.{length, get_or, take, drop, length-append, get_or-append, get_or-eq_default}
use lib.Seq.{take_at, drop_at}
use Rattle.basics.proofs.Membership.{first}
use Rattle.basics.proofs.Choice.{both_true}
use Rattle.file.specs.Words.{word_at, file_of}
use Rattle.file.specs.Layout.{Field, Layout, unranged, plus, lengths, part_of, is_size, all_sizes, Bounded, bytes}
use Rattle.file.proofs.FileWords.{words_of_file}
use Rattle.encoding.specs.Laid.{laid_words, laid, Agree, LaidOutIs, IsWord, AreWords, LastOnes, BytesOfWords}

-- ---- the parts of words

-- Part i of those that follow the words in front.
part_of_lem : (front : List ℕ) (parts : List (List ℕ)) (n i : ℕ) → length front ≡ n
    → take (get_or (map length parts) i 0) (drop (plus n (take i (map length parts))) (front ++ flatten parts))
    ≡ get_or parts i []
unfolding flatten
part_of_lem front [] n zero e = refl
part_of_lem front [] n (suc i) e = refl
part_of_lem front (p ∷ ps) n zero e =
    ap (take (length p)) (drop_at front (p ++ flatten ps) n e) ∙ take_at p (flatten ps) (length p) refl
part_of_lem front (p ∷ ps) n (suc i) e =
    ap (λ (l : List ℕ). take (get_or (map length ps) i 0) (drop (plus (n + length p) (take i (map length ps))) l))
    (sym (append_assoc front p (flatten ps)))
    ∙ part_of_lem (front ++ p) ps (n + length p) i (length-append front p ∙ ap (λ (m : ℕ). m + length p) e)

-- How many words there are.
length_laid : (front : List ℕ) (parts : List (List ℕ)) (n : ℕ) → length front ≡ n
    → length (front ++ flatten parts) ≡ plus n (map length parts)
unfolding flatten
length_laid front [] n e = omega (arith, length-append front [])
length_laid front (p ∷ ps) n e =
    ap length (sym (append_assoc front p (flatten ps)))
    ∙ length_laid (front ++ p) ps (n + length p) (length-append front p ∙ ap (λ (m : ℕ). m + length p) e)

length_file : (words : List ℕ) → length (file_of words) ≡ 2 * length words
unfolding file_of
length_file [] = refl
length_file (w ∷ ws) = omega (arith, length_file ws)

-- ---- the file

-- a field that says a length is one of the fields
size_within : (fs : List Field) (p : ℕ) → is_size (get_or fs p unranged) ≡ true → p < length fs
size_within fs p size = by (dec_lt p (length fs))
  where
    by : Dec (p < length fs) → p < length fs
    by (yes within) = within
    by (no past) = absurd (false≢true (ap is_size (sym (get_or-eq_default fs unranged (omega arith))) ∙ size))

module _ (layout : Layout) (bounded : Bounded layout) (fields : List ℕ) (parts : List (List ℕ))
    (agree : Agree layout fields parts) where
  abbrev words : List ℕ
  words = laid_words fields parts

  abbrev file : List ℕ
  file = laid fields parts

  field_is : (i : ℕ) → i < length fields → word_at file i ≡ get_or fields i 0
  field_is i within =
      ap (λ (l : List ℕ). get_or l i 0) (words_of_file words) ∙ get_or-append fields (flatten parts) 0 i within

  -- the lengths that the fields say
  said : (ps : List ℕ) → all_sizes layout.fields ps ≡ true → map (word_at file) ps ≡ map (λ i. get_or fields i 0) ps
  said [] sizes = refl
  said (p ∷ ps) sizes =
      let fs = layout.fields in
      let (size, rest) = (both_true (is_size (get_or fs p unranged)) (all_sizes fs ps)).0 sizes in
      let many = agree.each_field in
      ap₂ ◌∷◌ (field_is p (omega (arith, size_within fs p size))) (said ps rest)

  lengths_are : lengths layout file ≡ map length parts
  lengths_are = said layout.parts bounded ∙ agree.each_part

  part_is : (i : ℕ) → part_of layout file i ≡ get_or parts i []
  part_is i =
      ap₂ (λ (ls ws : List ℕ). take (get_or ls i 0) (drop (plus (length layout.fields) (take i ls)) ws))
      lengths_are (words_of_file words)
      ∙ part_of_lem fields parts (length layout.fields) i agree.each_field

  length_is : length file ≡ bytes layout file
  length_is =
      length_file words
      ∙ ap (λ (n : ℕ). 2 * n) (length_laid fields parts (length layout.fields) agree.each_field)
      ∙ ap (λ (ls : List ℕ). 2 * plus (length layout.fields) ls) (sym lengths_are)

pub laid_out_is : LaidOutIs
laid_out_is layout bounded fields parts agree = record {
  field_is = field_is layout bounded fields parts agree;
  part_is = part_is layout bounded fields parts agree;
  length_is = length_is layout bounded fields parts agree;
}

-- ---- the bytes

pub last_ones : LastOnes
last_ones = (
  λ b m. let e = Memᴰ.eq_of_singleton m in omega arith,
  λ are. let l = are 256 first in omega arith,
  omega arith,
  λ l. omega arith,
)

pub bytes_of_words : BytesOfWords
unfolding file_of
bytes_of_words [] are b m = absurd (Memᴰ.not-nil m)
bytes_of_words (w ∷ ws) are b m =
    let fits : IsWord w = are w first in
    let rest = bytes_of_words ws (λ v n. are v (Memᴰ.tail n)) b in
    ⊎_elim (λ e. omega arith) (λ n. ⊎_elim (λ e. omega arith) rest (Memᴰ.cases_cons n)) (Memᴰ.cases_cons m)

-- ---- words of 16 bits

pub no_words : AreWords []
no_words w m = absurd (Memᴰ.not-nil m)

pub one_word : {w : ℕ} {ws : List ℕ} → IsWord w → AreWords ws → AreWords (w ∷ ws)
one_word fits are v m = ⊎_elim (λ e. omega arith) (are v) (Memᴰ.cases_cons m)

pub words_joined : {vs ws : List ℕ} → AreWords vs → AreWords ws → AreWords (vs ++ ws)
words_joined {vs} are also v m = ⊎_elim (are v) (also v) (Memᴰ.append_cases vs m)

-- Those of a file, where those of its fields and of each part are.
abbrev pub EachOfWords : List (List ℕ) → Type 0
EachOfWords [] = Unit
EachOfWords (p ∷ ps) = AreWords p × EachOfWords ps

pub words_laid :
    (fields : List ℕ) (parts : List (List ℕ)) → AreWords fields → EachOfWords parts → AreWords (laid_words fields parts)
unfolding flatten
words_laid fields [] are none = words_joined are no_words
words_laid fields (p ∷ ps) are (also, rest) = words_joined are (words_laid p ps also rest)
