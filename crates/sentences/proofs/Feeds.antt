-- A line feed a line, at its end (specs/Feeds.antt): no part of a line has one. Assumes nothing.
use Prim.Native.Nat.{ℕ, zero, suc, ◌+◌, ◌≤◌}
use Prim.Native.String.{String}
use native.Mathlib.Omega.{arith}
use mathlib.Core.Bool.{Bool, true, false}
use mathlib.Core.Path.{◌≡◌, refl, ap, ◌∙◌}
use mathlib.Core.Option.{Option, none, some}
use mathlib.Core.List.Memᴰ
use mathlib.Core.List.{List, [], ◌∷◌, ◌++◌, append_assoc}
use lib.ListN.{length, get_or}
use lib.Dec.{eqb}
use borrow.Author.Tests.{ne_eqb}
use Rattle.basics.specs.Membership.{◌∈◌}
use Rattle.basics.specs.Choice.{pick}
use Rattle.text.specs.Ascii.{ascii}
use Rattle.text.specs.Decimal.{decimal}
use Rattle.text.proofs.Digits.{decimal_digits}
use Rattle.logic.specs.Proposition.{Proposition, atom, false as falsum, ◌implies◌, ◌and◌, ◌or◌, ◌says◌}
use Rattle.logic.specs.Judgment.{Judgment, truth, ◌affirms◌}
use Rattle.steps.specs.Trace.{Line}
use Rattle.sentences.specs.Formula.{proposition_text, goal_text}
use Rattle.sentences.specs.Sentences.{rule_names, rule_name, named_text, line_text, sentences_from}
use Rattle.sentences.specs.Feeds.{line_feeds, FeedAtEnd, FeedPerLine}

-- Two texts one after the other have the line feeds of both.
feeds_append : (xs ys : List ℕ) → line_feeds (xs ++ ys) ≡ line_feeds xs + line_feeds ys
unfolding line_feeds
feeds_append [] ys = omega arith
feeds_append (b ∷ xs) ys = rw (feeds_append xs ys) (one_more (eqb b 10) (line_feeds xs) (line_feeds ys))
  where
    one_more : (t : Bool) (m n : ℕ) → pick t (suc (m + n)) (m + n) ≡ pick t (suc m) m + n
    one_more true m n = omega arith
    one_more false m n = refl

abbrev NoFeed : List ℕ → Type 0
NoFeed bs = line_feeds bs ≡ 0

-- ---- a number

no_feed_digits : (bs : List ℕ) → ((b : ℕ) → b ∈ bs → (48 ≤ b) × (b ≤ 57)) → NoFeed bs
unfolding line_feeds
no_feed_digits [] h = refl
no_feed_digits (b ∷ bs) h =
    let (low, high) = h b (Memᴰ.head refl) in
    rw (ne_eqb b 10 (λ e. omega arith)) (no_feed_digits bs (λ c m. h c (Memᴰ.tail m)))

no_feed_decimal : (n : ℕ) → NoFeed (decimal n)
no_feed_decimal n = no_feed_digits (decimal n) (decimal_digits n)

-- ---- a proposition and a goal

no_feed_proposition : (A : Proposition) → NoFeed (proposition_text A)
unfolding proposition_text line_feeds ascii
no_feed_proposition (atom a) = no_feed_decimal a
no_feed_proposition falsum = refl
no_feed_proposition (A implies B) = simp (feeds_append, no_feed_proposition A, no_feed_proposition B)
no_feed_proposition (A and B) = simp (feeds_append, no_feed_proposition A, no_feed_proposition B)
no_feed_proposition (A or B) = simp (feeds_append, no_feed_proposition A, no_feed_proposition B)
no_feed_proposition (K says A) = simp (feeds_append, no_feed_decimal, no_feed_proposition A)

no_feed_goal : (γ : Judgment) → NoFeed (goal_text γ)
unfolding goal_text line_feeds ascii
no_feed_goal (truth A) = no_feed_proposition A
no_feed_goal (K affirms A) = simp (feeds_append, no_feed_decimal, no_feed_proposition)

-- ---- a rule's name and the named formula

-- No name in a list has a line feed.
abbrev NoneFeeds : List String → Type 0
NoneFeeds [] = Unit {0}
NoneFeeds (s ∷ names) = NoFeed (ascii s) × NoneFeeds names

no_feed_name : (names : List String) → NoneFeeds names → (code : ℕ) → NoFeed (ascii (get_or names code ""))
unfolding line_feeds ascii
no_feed_name [] h code = refl
no_feed_name (s ∷ names) h zero = h.0
no_feed_name (s ∷ names) h (suc code) = no_feed_name names h.1 code

no_feed_rule : (code : ℕ) → NoFeed (rule_name code)
unfolding rule_name line_feeds ascii
no_feed_rule code =
    no_feed_name rule_names
    (refl, (refl, (refl, (refl, (refl, (refl, (refl, (refl, (refl, (refl, (refl, (refl, tt)))))))))))) code

no_feed_named : (n : Option Proposition) → NoFeed (named_text n)
unfolding named_text line_feeds ascii
no_feed_named none = refl
no_feed_named (some A) = no_feed_proposition A

-- ---- a line and the lines

pub feed_at_end : FeedAtEnd
unfolding line_text line_feeds ascii
feed_at_end i l = (
  decimal i ++ (ascii " " ++ (rule_name l.code ++ (named_text l.named ++ (ascii " for " ++ goal_text l.goal)))),
  simp append_assoc,
  simp (feeds_append, no_feed_decimal, no_feed_rule, no_feed_named, no_feed_goal),
)

-- Each line has one.
feed_line : (i : ℕ) (l : Line) → line_feeds (line_text i l) ≡ 1
unfolding line_feeds ascii
feed_line i l =
    let (text, e, p) = feed_at_end i l in
    ap line_feeds e ∙ feeds_append text (ascii "\n") ∙ ap (λ (n : ℕ). n + 1) p

feeds_from : (i : ℕ) (ls : List Line) → line_feeds (sentences_from i ls) ≡ length ls
unfolding sentences_from line_feeds
feeds_from i [] = refl
feeds_from i (l ∷ ls) =
    omega (arith, feeds_append (line_text i l) (sentences_from (suc i) ls), feed_line i l, feeds_from (suc i) ls)

pub feed_per_line : FeedPerLine
feed_per_line ls = feeds_from 0 ls
