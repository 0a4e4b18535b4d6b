-- The number of an answer about sentences (specs/SentencesCode.antt): what it is in each case, and that it tells
-- answers
-- apart. Assumes nothing.
use Prim.Native.Nat.{ℕ, ◌≤◌}
use native.Mathlib.Omega.{arith}
use mathlib.Core.Path.{◌≡◌, refl, sym, ap, ap₂, subst}
use mathlib.Core.List.{List}
use lib.ListN.{get_or, set}
use Rattle.std.specs.Prelude.{Err, Ok}
use Rattle.basics.specs.Limits.{most_steps}
use Rattle.sentences.specs.Verdict.{SentencesVerdict, Written, Refused}
use Rattle.sentences.specs.Promises.{Small}
use Rattle.ffi.specs.RefusalCode.{refusal_code}
use Rattle.ffi.specs.SentencesCode.{sentences_code, count_after, PlaceWithin, SentencesCodeHalves, CodeOfA, SentencesCodeTells}
use Rattle.ffi.proofs.Refusals.{refusal_halves, refusal_above, refusal_tells}

pub small_within : (room : ℕ) (v : SentencesVerdict) → Small room v → PlaceWithin v
small_within room (Ok w) small = tt
small_within room (Err r) (some, few, within) = within

pub sentences_code_halves : SentencesCodeHalves
unfolding sentences_code
sentences_code_halves room (Ok w) (few, fits) = (omega (arith, few), omega (arith, few))
sentences_code_halves room (Err r) (some, few, within) = refusal_halves r.number r.place some within

pub code_of_a : CodeOfA
unfolding sentences_code
code_of_a = (refl, refl)

pub sentences_code_tells : SentencesCodeTells
unfolding sentences_code
sentences_code_tells room (Ok w) (Ok w') small small' same left =
    ap₂ (λ (c b : ℕ). Written c b) same (ap (λ (l : List ℕ). get_or l 0 0) left)
sentences_code_tells room (Ok w) (Err r) (few, fits) (some', few', within') same left =
    absurd (omega (arith, few, refusal_above r.number r.place some', same))
sentences_code_tells room (Err r) (Ok w) (some, few, within) (few', fits') same left =
    absurd (omega (arith, few', refusal_above r.number r.place some, same))
sentences_code_tells room (Err r) (Err r') (some, few, within) (some', few', within') same left =
    let (same_number, same_place) = refusal_tells r.number r.place r'.number r'.place within within' same in
    ap₂ (λ (n p : ℕ). Refused n p) same_number same_place
