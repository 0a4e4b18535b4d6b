-- What the programs print for a file (specs/Printed.antt). In order: the line of a call; the line of a grant; the line
-- written whole. Assumes nothing.
use Prim.Native.Nat.{ℕ, ◌≤◌, ◌<◌}
use native.Mathlib.Omega.{arith}
use mathlib.Core.Bool.{Bool, true}
use mathlib.Core.Path.{◌≡◌, refl, sym, ap, subst, ◌∙◌}
use mathlib.Core.List.{List, ◌++◌}
use lib.ListN.{length, drop, take}
use lib.Dec.{leb}
use lib.Seq.{take_all, take-append_seam}
use borrow.Author.Tests.{le-leb}
use Rattle.std.specs.Prelude.{Err}
use Rattle.basics.specs.Membership.{◌∈◌}
use Rattle.basics.specs.Choice.{pick}
use Rattle.basics.specs.Limits.{most_statements}
use Rattle.basics.specs.Written.{written}
use Rattle.basics.proofs.Written.{written_fits}
use Rattle.signers.proofs.Each.{signers_are}
use Rattle.signers.proofs.Joined.{signers_are_principals}
use Rattle.logic.proofs.Principals.{Decided, decided}
use Rattle.record.specs.Verdict.{RecordVerdict, Granted, Refused}
use Rattle.record.specs.Layout.{heads, seconds, statements, table, says_left_numbers, signers}
use Rattle.record.specs.Answer.{record_answer}
use Rattle.record.specs.ListAfter.{list_after}
use Rattle.record.specs.Promises.{Small}
use Rattle.record.proofs.Granted.{granted_exactly}
use Rattle.record.proofs.Small.{answers_small}
use Rattle.exchange.specs.Answer.{exchange_answer}
use Rattle.exchange.proofs.Small.{answers_small as exchange_answers_small}
use Rattle.independence.specs.Answer.{independence_answer}
use Rattle.independence.proofs.Small.{answers_small as independence_answers_small}
use Rattle.line.specs.Line.{line_after, line_count}
use Rattle.text.specs.Ascii.{ascii}
use Rattle.text.specs.Decimal.{decimal}
use Rattle.line.specs.RecordLine.{listed, record_line}
use Rattle.line.specs.ExchangeLine.{exchange_line}
use Rattle.line.specs.IndependenceLine.{independence_line}
use Rattle.line.specs.Printed.{LineOfCall, OneLine, LineOfGrant, WholeLine, WholeExchangeLine, WholeIndependenceLine}
use Rattle.line.proofs.LineFits.{line_fits, exchange_line_fits, independence_line_fits}

-- ---- a call

module _ (speaks : ℕ → ℕ → Bool) (file : List ℕ) where
  -- Of the list that a call leaves only the signers are printed.
  of_list : (room : ℕ) (before : List ℕ) (v : RecordVerdict) → record_answer speaks file room ≡ v
      → record_line v (list_after file v before) ≡ record_line v (signers file)
  unfolding record_line
  of_list room before (Granted count) e =
      let counted = ((granted_exactly speaks (Decided speaks) (decided speaks) file room count).0 e).counted in
      let rest : List ℕ = drop count before in
      let first : take count (signers file ++ rest) ≡ take count (signers file) =
      ap (λ (n : ℕ). take n (signers file ++ rest)) counted
      ∙ take-append_seam (signers file) rest
      ∙ sym (take_all count (signers file) (omega arith)) in
      ap (λ (names : List ℕ). ascii "granted " ++ decimal count ++ listed names ++ ascii "\n") first
  of_list room before (Err r) e = refl

  -- A grant with a list of any length is one with 256 words, with the same count.
  with_most : (room count : ℕ) → record_answer speaks file room ≡ Granted count
      → record_answer speaks file most_statements ≡ Granted count
  with_most room count e =
      let grant = (granted_exactly speaks (Decided speaks) (decided speaks) file room count).0 e in
      let few : count ≤ most_statements = subst Small e (answers_small speaks file room) in
      let counted = grant.counted in
      (granted_exactly speaks (Decided speaks) (decided speaks) file most_statements count).1 (record {
        keeps = grant.keeps;
        is_proof = grant.is_proof;
        fits = omega arith;
        counted = counted;
      })

pub line_of_call : (speaks : ℕ → ℕ → Bool) → LineOfCall speaks
line_of_call speaks file before after answer room answered left =
    let e : record_answer speaks file most_statements ≡ answer = sym (answered ∙ ap (record_answer speaks file) room) in
    ap (record_line answer) left
    ∙ of_list speaks file most_statements before answer e
    ∙ ap (λ (v : RecordVerdict). record_line v (signers file)) (sym e)

-- ---- a grant

pub line_of_grant : (speaks : ℕ → ℕ → Bool) → LineOfGrant speaks
line_of_grant speaks file before after answer g =
    let e : record_answer speaks file (length before) ≡ answer = sym g.answered in
    ap (record_line answer) g.list_after
    ∙ of_list speaks file (length before) before answer e
    ∙ ap (λ (v : RecordVerdict). record_line v (signers file))
    (g.granted ∙ sym (with_most speaks file (length before) g.count (e ∙ g.granted)))

pub one_line : (speaks : ℕ → ℕ → Bool) → OneLine speaks
one_line speaks file before after before' after' answer answer' g h =
    line_of_grant speaks file before after answer g ∙ sym (line_of_grant speaks file before' after' answer' h)

-- ---- the line written whole

-- The signers are numbers that a word holds.
are_words : (file : List ℕ) (k : ℕ) → k ∈ signers file → k < 65536
are_words file k m =
    let signs = ((signers_are (table file) (statements file) (says_left_numbers file)).each k).0 m in
    let l = signers_are_principals (heads file) (seconds file) (statements file) (says_left_numbers file) k signs in
    omega arith

-- A line that fits is written whole.
pub fits_whole : (before line : List ℕ) {count : ℕ} {after : List ℕ} → length line ≤ length before
    → count ≡ line_count before line → after ≡ line_after before line → after ≡ line ++ drop count before
fits_whole before line fits counted is =
    let room : leb (length line) (length before) ≡ true = le-leb _ _ fits in
    let many : _ ≡ length line = counted ∙ ap (λ (b : Bool). pick b (length line) 0) room in
    is ∙ ap (λ (b : Bool). pick b (written before line) before) room ∙ written_fits before line fits ∙ ap (λ (n : ℕ). line ++ drop n before) (sym many)

pub whole_line : (speaks : ℕ → ℕ → Bool) → WholeLine speaks
whole_line speaks file before count after counted is room =
    let v : RecordVerdict = record_answer speaks file most_statements in
    let fits = line_fits v (signers file) (answers_small speaks file most_statements) (are_words file) in
    fits_whole before (record_line v (signers file)) (omega arith) counted is

pub whole_exchange_line : (speaks : ℕ → ℕ → Bool) → WholeExchangeLine speaks
whole_exchange_line speaks file before count after counted is room =
    let fits = exchange_line_fits (exchange_answer speaks file) (exchange_answers_small speaks file) in
    fits_whole before (exchange_line (exchange_answer speaks file)) (omega arith) counted is

pub whole_independence_line : (speaks : ℕ → ℕ → Bool) → WholeIndependenceLine speaks
whole_independence_line speaks file before K count after counted is room =
    let fits = independence_line_fits (independence_answer speaks file K) (independence_answers_small speaks file K) in
    fits_whole before (independence_line (independence_answer speaks file K)) (omega arith) counted is
