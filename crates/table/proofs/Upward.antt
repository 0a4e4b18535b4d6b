-- The law of an upward pass over a table, for any fold of propositions: one loop writes a value for each entry, made of
-- the values of those before it, and in the end these are the values of what the table spells. Assumes nothing.
use Prim.Native.Nat.{ℕ, suc, ◌+◌, ◌≤◌, ◌<◌}
use native.Mathlib.Numerals.{add-one}
use native.Mathlib.Omega.{arith}
use mathlib.Core.Path.{◌≡◌, refl, sym, ap, ◌∙◌}
use mathlib.Core.List.{List, [], ◌∷◌, ◌++◌, map, map-append}
use lib.ListN.{length, take, drop, get_or, set, length-append, length-drop, length-map}
use lib.Seq.{length-take-le, take_all, drop-cons, append_snoc, set_at, take_at}
use Rattle.logic.specs.Proposition.{Proposition}
use Rattle.table.specs.declared.entry.Entry.{Entry}
use Rattle.table.specs.Tests.{entry_at}
use Rattle.table.specs.Spelled.{proposition, spelled_after, spelled}
use Rattle.table.proofs.Spelled.{length_spelled, spelled_next}

module _ {A : Type 0} (f : Proposition → A) where
  -- the values of what the entries before i spell
  abbrev pub values_to : List Entry → ℕ → List A
  values_to es i = map f (spelled (take i es))

  -- What the loop has done: the first i places have these values, and those from i on are as they were.
  pub record Upward (es : List Entry) (old out : List A) (i : ℕ) : Type 0 where
    pub done : out ≡ values_to es i ++ drop i old
    pub some : i ≤ length es
    pub within : i ≤ length old

  -- At first none is written;
  pub upward_none : (es : List Entry) (old : List A) → Upward es old old 0
  unfolding spelled_after spelled
  upward_none es old = record { done = refl; some = omega arith; within = omega arith }

  -- there are as many values as entries before i;
  pub count_values : (es : List Entry) (i : ℕ) → i ≤ length es → length (values_to es i) ≡ i
  count_values es i l = length-map (spelled (take i es)) f ∙ length_spelled (take i es) ∙ length-take-le i es l

  module _ {es : List Entry} {old out : List A} {i : ℕ} (u : Upward es old out i) where
    long : length (values_to es i) ≡ i
    long = count_values es i u.some

    -- the first i places are the values so far;
    pub upward_front : take i out ≡ values_to es i
    upward_front = ap (take i) u.done ∙ take_at (values_to es i) (drop i old) i long

    -- then one more,
    pub upward_more : (x : A) → i < length es → i < length old
        → x ≡ f (proposition (spelled (take i es)) (entry_at es i)) → Upward es old (set out i x) (i + 1)
    upward_more x l room e = record { done = stored; some = omega arith; within = omega arith }
      where
        last : values_to es i ++ (x ∷ []) ≡ values_to es (i + 1)
        last =
            ap (λ (y : A). values_to es i ++ (y ∷ [])) e
            ∙ sym (map-append f (spelled (take i es)) (proposition (spelled (take i es)) (entry_at es i) ∷ []))
            ∙ ap (map f) (sym (spelled_next es i l))
            ∙ ap (λ (k : ℕ). values_to es k) (sym (add-one i))

        stored : set out i x ≡ values_to es (i + 1) ++ drop (i + 1) old
        stored =
            ap (λ (r : List A). set r i x)
            (u.done ∙ ap (λ (r : List A). values_to es i ++ r) (drop-cons old i x room))
            ∙ set_at (values_to es i) (get_or old i x) (drop (suc i) old) x i long
            ∙ sym (append_snoc (values_to es i) x (drop (suc i) old))
            ∙ ap (λ (r : List A). r ++ drop (suc i) old) last
            ∙ ap (λ (k : ℕ). values_to es (i + 1) ++ drop k old) (sym (add-one i))

    -- and at the end of the table, where there is room for it, the first places are the values of all that it spells.
    pub upward_all : length es ≤ i → take (length es) out ≡ map f (spelled es)
    upward_all l =
        let some = u.some in
        let end : length es ≡ i = omega arith in
        ap (λ (k : ℕ). take k out) end
        ∙ upward_front
        ∙ ap (λ (t : List Entry). map f (spelled t)) (take_all i es l)
