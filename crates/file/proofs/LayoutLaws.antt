-- Laws of any layout (specs/Layout.antt): what 1 to 3 ask for; each part has its length where they pass, and is what
-- code takes out of the words that it has read; the longest file, and that a longer one has the answer of its first
-- bytes. Assumes nothing.
use Prim.Native.Nat.{ℕ, zero, suc, ◌+◌, ◌-◌, ◌*◌, ◌≤◌, ◌<◌}
use native.Mathlib.Omega.{arith}
use mathlib.Core.Bool.{Bool, true, false, not, false≢true}
use mathlib.Core.Path.{◌≡◌, refl, sym, ap, subst, ◌∙◌}
use mathlib.Core.Logic.Iff
use mathlib.Core.Logic.{◌↔◌}
use mathlib.Core.List.{List, [], ◌∷◌, ◌++◌, map}
use lib.ListN.{length, get_or, take, drop}
use lib.Seq.{length-take-le}
use borrow.Author.Tests.{le-ltb, ne_eqb}
use Rattle.basics.specs.Tested.{Refused}
use Rattle.basics.specs.Choice.{pick}
use Rattle.basics.specs.Refusals.{Test, first_refusal, NoneApplies}
use Rattle.basics.specs.Written.{written}
use Rattle.basics.proofs.Asked.{not_less, at_most, equal, both_are, not_other, at0_nowhere}
use Rattle.basics.proofs.Refusals.{applies_at_0, goes_on_at_0, passed_by_all}
use Rattle.basics.proofs.Choice.{both_true}
use Rattle.basics.proofs.Written.{written_length}
use Rattle.file.specs.Words.{file_words, word_at}
use Rattle.file.specs.Layout.{Field, range, unranged, Layout, plus, lengths, begins, part_of, bytes, least_bytes, most, most_bytes, fits, all_fit, in_range, layout_tests, Fits, AllFit, SizedBy, is_size, all_sizes, Bounded, PassedToThree, PartsWhole, LongerRefused}
use Rattle.file.proofs.FileWords.{half_as_many, word_at_prefix}
use Rattle.file.proofs.Parts.{part_at_most, part_whole, slice}

-- ---- sums

plus_least : (n : ℕ) (ms : List ℕ) → n ≤ plus n ms
plus_least n [] = omega arith
plus_least n (m ∷ ms) = omega (arith, plus_least (n + m) ms)

-- a part ends within all of them
plus_part : (n : ℕ) (ms : List ℕ) (i : ℕ) → plus n (take i ms) + get_or ms i 0 ≤ plus n ms
plus_part n [] zero = omega arith
plus_part n [] (suc i) = omega arith
plus_part n (m ∷ ms) zero = plus_least (n + m) ms
plus_part n (m ∷ ms) (suc i) = plus_part (n + m) ms i

-- ---- ranges

field_fits : (f : Field) (n : ℕ) → fits f n ≡ true ↔ Fits f n
field_fits (range l m) n = both_are (at_most l n) (at_most n m)
field_fits unranged n = (λ e. tt, λ u. refl)

all_fit_lem : (fs : List Field) (file : List ℕ) (i : ℕ) → all_fit fs file i ≡ true ↔ AllFit fs file i
all_fit_lem [] file i = (λ e. tt, λ u. refl)
all_fit_lem (f ∷ fs) file i = both_are (field_fits f (word_at file i)) (all_fit_lem fs file (suc i))

-- ---- 1 to 3

module _ (layout : Layout) (file : List ℕ) where
  -- The fields are found in range exactly when they are.
  pub in_range_lem : in_range layout file ≡ true ↔ AllFit layout.fields file 0
  in_range_lem = all_fit_lem layout.fields file 0

  some_bytes : least_bytes layout ≤ bytes layout file
  some_bytes = omega (arith, plus_least (length layout.fields) (lengths layout file))

  -- None of 1 to 3 applies exactly when the fields are in range and the length is theirs,
  pub none_to_3 : NoneApplies (layout_tests layout file) ↔ SizedBy layout file
  none_to_3 =
      let long = at0_nowhere _ (not_less (length file) (least_bytes layout)) in
      let fit = at0_nowhere _ (not_other (in_range layout file) in_range_lem) in
      let is = at0_nowhere _ (not_other _ (equal (length file) (bytes layout file))) in (
        λ (one, (two, (three, _))). record { in_range = fit.0 two; length_is = is.0 three },
        λ s. let e = s.length_is in (long.1 (omega (arith, some_bytes)), (fit.1 s.in_range, (is.1 e, tt))),
      )

  -- A part of any file is at most as long as its field says.
  pub part_most : (i : ℕ) → length (part_of layout file i) ≤ get_or (lengths layout file) i 0
  part_most i = part_at_most file (begins layout file i) (get_or (lengths layout file) i 0)

  module _ (s : SizedBy layout file) where
    -- So many words the file has,
    pub length_words : 2 * length (file_words file) ≡ bytes layout file
    length_words = let is = s.length_is in omega (arith, half_as_many file)

    -- each part is within them,
    pub part_within : (i : ℕ) → begins layout file i + get_or (lengths layout file) i 0 ≤ length (file_words file)
    part_within i = omega (arith, length_words, plus_part (length layout.fields) (lengths layout file) i)

    -- so it has its length.
    length_part : (i : ℕ) → length (part_of layout file i) ≡ get_or (lengths layout file) i 0
    length_part i = part_whole file (begins layout file i) (get_or (lengths layout file) i 0) (part_within i)

    -- The code reads the words into a list that has room for them. What it takes from one place to another is part i,
    -- where these are the places at which the part begins and ends; and the words go so far.
    module _ (old : List ℕ) {words : List ℕ} (read : words ≡ written old (file_words file)) (room : length file ≤ 2 * length old) where
      has_room : length (file_words file) ≤ length old
      has_room = omega (arith, half_as_many file)

      pub slice_part : (i from to : ℕ) → from ≡ begins layout file i → to ≡ begins layout file i + get_or (lengths layout file) i 0
          → take (to - from) (drop from words) ≡ part_of layout file i
      slice_part i from to e f =
          slice file old read from to (begins layout file i) (get_or (lengths layout file) i 0) e f (part_within i)
          (omega (arith, has_room, part_within i))

      pub slice_within : (i : ℕ) → begins layout file i + get_or (lengths layout file) i 0 ≤ length words
      slice_within i = rw read (omega (arith, written_length old (file_words file), has_room, part_within i))

pub passed_to_three : PassedToThree
passed_to_three layout file = Iff.trans (passed_by_all (layout_tests layout file)) (none_to_3 layout file)

pub parts_whole : PartsWhole
parts_whole = length_part

-- ---- the longest file

size_most : (f : Field) (n : ℕ) → is_size f ≡ true → Fits f n → n ≤ most f
size_most (range l m) n e (_, few) = few
size_most unranged n e u = absurd (false≢true e)

-- the word of field p of those from word k on, which is word i
field_most :
    (fs : List Field) (file : List ℕ) (k p i : ℕ) → i ≡ k + p → AllFit fs file k → is_size (get_or fs p unranged) ≡ true → word_at file i ≤ most (get_or fs p unranged)
field_most [] file k p i e all is = absurd (false≢true is)
field_most (f ∷ fs) file k zero i e (fit, all) is =
    let same : k ≡ i = omega arith in size_most f (word_at file i) is (subst (λ (n : ℕ). Fits f (word_at file n)) same fit)
field_most (f ∷ fs) file k (suc p) i e (fit, all) is = field_most fs file (suc k) p i (omega arith) all is

plus_most : (fs : List Field) (file : List ℕ) → AllFit fs file 0 → (ps : List ℕ) (n m : ℕ) → all_sizes fs ps ≡ true → n ≤ m
    → plus n (map (word_at file) ps) ≤ plus m (map (λ i. most (get_or fs i unranged)) ps)
plus_most fs file all [] n m bounded l = l
plus_most fs file all (p ∷ ps) n m bounded l =
    let (is, rest) = (both_true (is_size (get_or fs p unranged)) (all_sizes fs ps)).0 bounded in
    let few = field_most fs file 0 p p (omega arith) all is in
    plus_most fs file all ps (n + word_at file p) (m + most (get_or fs p unranged)) rest (omega arith)

module _ (layout : Layout) (bounded : Bounded layout) where
  pub at_most_bytes : (file : List ℕ) → AllFit layout.fields file 0 → bytes layout file ≤ most_bytes layout
  at_most_bytes file all =
      let few = plus_most layout.fields file all layout.parts (length layout.fields) (length layout.fields) bounded (omega arith) in omega arith

  -- A file that 1 to 3 let pass is no longer than the longest.
  pub sized_most : (file : List ℕ) → SizedBy layout file → length file ≤ most_bytes layout
  sized_most file s = let is = s.length_is in omega (arith, at_most_bytes file s.in_range)

  least_most : least_bytes layout ≤ most_bytes layout
  least_most = omega (arith, plus_least (length layout.fields) (map (λ i. most (get_or layout.fields i unranged)) layout.parts))

  -- A longer file is refused by 2 or 3, whatever follows.
  pub too_long : (file : List ℕ) (fit : Bool) → in_range layout file ≡ fit → most_bytes layout < length file
      → (rest : List Test) → first_refusal (layout_tests layout file ++ rest) ≡ pick fit (Refused 3 0) (Refused 2 0)
  too_long file true e long rest =
      let few = at_most_bytes file ((in_range_lem layout file).0 e) in
      goes_on_at_0 1 _ (le-ltb (length file) (least_bytes layout) (omega (arith, least_most)))
      ∙ goes_on_at_0 2 _ (ap not e)
      ∙ applies_at_0 3 _ (ap not (ne_eqb (length file) (bytes layout file) (λ is. omega arith)))
  too_long file false e long rest =
      goes_on_at_0 1 _ (le-ltb (length file) (least_bytes layout) (omega (arith, least_most))) ∙ applies_at_0 2 _ (ap not e)

  -- A file's first bytes have its fields.
  fit_prefix : (fs : List Field) (n : ℕ) (file : List ℕ) (i : ℕ) → 2 * (i + length fs) ≤ n → all_fit fs (take n file) i ≡ all_fit fs file i
  fit_prefix [] n file i l = refl
  fit_prefix (f ∷ fs) n file i l = cc (word_at_prefix n file i (omega arith), fit_prefix fs n file (suc i) (omega arith))

  longer : (file : List ℕ) → most_bytes layout < length file → (rest other : List Test)
      → first_refusal (layout_tests layout file ++ rest)
      ≡ first_refusal (layout_tests layout (take (suc (most_bytes layout)) file) ++ other)
  longer file long rest other =
      let n : ℕ = suc (most_bytes layout) in
      let front : List ℕ = take n file in
      let is : length front ≡ n = length-take-le n file (omega arith) in
      let same = fit_prefix layout.fields n file 0 (omega (arith, least_most)) in
      too_long file (in_range layout file) refl long rest ∙ sym (too_long front (in_range layout file) same (omega arith) other)

pub longer_refused : LongerRefused
longer_refused = longer
