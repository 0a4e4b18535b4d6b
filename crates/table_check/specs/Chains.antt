-- How test 5 finds an earlier entry with the same head and second where the index would be slow: along chains of the
-- entries with the same head. Only private functions of src/by_head.rt and src/repeat.rt speak of this; what test 5
-- answers is `repeated_entry` of `table`. Assumes nothing.
use Rattle.std.specs.Prelude.{ℕ, ◌+◌, ◌*◌, ◌<◌, ◌≤◌, true, false, List, ◌≡◌, length, get_or}
use Rattle.basics.specs.Limits.{most_formulas}
use Rattle.basics.specs.Word.{radix}
use Rattle.table_check.specs.Index.{is_repeated}

module _ (heads : List ℕ) where
  -- p is the first entry from n on that has a head; where there is none, it is the number of no entry
  pub record NextFrom (head n p : ℕ) : Type 0 where
    pub from : n ≤ p
    pub low : p ≤ most_formulas
    pub its : p < length heads → get_or heads p 0 ≡ head
    pub none_between : (k : ℕ) → n ≤ k → k < p → k < length heads → ¬ (get_or heads k 0 ≡ head)

  -- the entries from n on are chained: `first` has at each head the first entry, `next` at each entry the next one
  pub record Chained (first next : List ℕ) (n : ℕ) : Type 0 where
    pub few : length heads ≤ most_formulas
    pub head_room : (i : ℕ) → i < length heads → get_or heads i 0 < length first
    pub next_room : length heads ≤ length next
    pub firsts : (head : ℕ) → head < length first → NextFrom head n (get_or first head 0)
    pub nexts : (i : ℕ) → n ≤ i → i < length heads → NextFrom (get_or heads i 0) (i + 1) (get_or next i 0)

  -- `next` has at each entry the next one with its head
  pub record Linked (next : List ℕ) : Type 0 where
    pub room : length heads ≤ length next
    pub nexts : (i : ℕ) → i < length heads → NextFrom (get_or heads i 0) (i + 1) (get_or next i 0)

  -- `seen` has at each second some entry
  pub record Notes (seen : List ℕ) : Type 0 where
    pub room : most_formulas ≤ length seen
    pub entry : (second : ℕ) → 0 < length heads → get_or seen second 0 < length heads

  module _ (seconds : List ℕ) where
    -- a table as tests 2 and 4 leave it for 5: the heads are those of six kinds, the seconds numbers of formulas
    pub record AfterFour : Type 0 where
      pub alike : length heads ≡ length seconds
      pub few : length heads ≤ most_formulas
      pub low_heads : (i : ℕ) → i < length heads → get_or heads i 0 < 6 * radix
      pub low_seconds : (i : ℕ) → i < length heads → get_or seconds i 0 < most_formulas

    -- what the search along a chain asks: all entries are linked, and i is the first entry with its head
    pub record FromFirst (next seen : List ℕ) (i bound : ℕ) : Type 0 where
      pub table : AfterFour
      pub linked : Linked next
      pub notes : Notes seen
      pub is_first : NextFrom (get_or heads i 0) 0 i
      pub within : bound ≤ length heads

    -- found is the first entry before the bound that has the head and is repeated; where there is none, it is the bound
    pub record FirstOfHead (head bound found : ℕ) : Type 0 where
      pub within : found ≤ bound
      pub has_head : found < bound → get_or heads found 0 ≡ head
      pub repeated : found < bound → is_repeated heads seconds found ≡ true
      pub none_before : (k : ℕ) → k < found → get_or heads k 0 ≡ head → is_repeated heads seconds k ≡ false
