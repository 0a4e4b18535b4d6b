-- `input::read_input`: what a read gives stands after what was read before it, so all of it is what the reader lost.
-- Assumes nothing.
use Rattle.std.proofs.Common.{◌≡◌, ℕ, ◌+◌, ◌-◌, ◌≤◌, List, ◌++◌, length, take, slice_range, rules, arith, sym, ap, ◌∙◌, subst, le_refl, drop_at, length-take-le}
use Rattle.std.proofs.lemmas.Slice.{take-put_mid_below}
use Rattle.std.specs.Io.KnownBytes.{Consumes}
use Rattle.std.proofs.KnownBytes.{Consumes-trans}
use borrow.Rule.Slice.PartMut.{put_mid, post_of}
use lib.Seq.{take-add, take-append-le}
use Rattle.input.proofs.read_input.Goals as goal

-- a front that stays, and what is between it and a later place, are all up to there;
take_split :
    (a b : ℕ) (old new : List ℕ) → a ≤ b → take a new ≡ take a old → take a old ++ slice_range new a b ≡ take b new
take_split a b old new h front =
    let same : a + (b - a) ≡ b = omega arith in
    ap (λ l. l ++ slice_range new a b) (sym front) ∙ sym (take-add a (b - a) new) ∙ ap (λ n. take n new) same

-- what is put behind a front stands there.
slice_range-put_mid :
    (a k n : ℕ) (xs ys : List ℕ) → a ≤ length xs → n ≤ length ys
    → slice_range (put_mid a k xs ys) a (a + n) ≡ take n ys
slice_range-put_mid a k n xs ys within fits =
    let same : (a + n) - a ≡ n = omega arith in
    let after = post_of a k xs in
    ap (take ((a + n) - a)) (drop_at (take a xs) (ys ++ after) a (length-take-le a xs within))
    ∙ ap (λ m. take m (ys ++ after)) same
    ∙ take-append-le n ys after fits

pub loop-done-preserved : goal.loop-done-preserved
loop-done-preserved g c =
    let buf = c.loop-done.buf in
    let from = c.loop-done.done in
    let room = length buf - from in
    let after = put_mid from room buf c.read.new.buf in
    let before = c.loop-done.invariant in
    let part = slice_range-put_mid from room c.in-Ok.more buf c.read.new.buf before.within c.in-Ok.ensures.bound.0 in
    let front = take-put_mid_below _ _ _ _ _ (le_refl _) before.within in
    let joined = take_split from (from + c.in-Ok.more) buf after (omega arith) front in
    record {
      within = search rules;
      bytes =
          subst (Consumes _ _) (ap (λ l. take from buf ++ l) (sym part) ∙ joined)
          (Consumes-trans _ _ _ _ _ before.bytes c.in-Ok.ensures.bytes.0);
    }
