-- What document 02 asks for, request by request, sentence by sentence, as one promise, for a test `speaks` on
-- principals and a relation R. Until job 14 lands, 02 means Figure 1, "the same K" and equality: that is `Requested`
-- (Figure1.antt). Samples, and what became of the answer that 01 gave, are Figure 1's whatever these are. Proved in
-- proofs/Requests.antt. Assumes nothing.
--
-- `Grants` is a call that grants a file: its answer and its list are, for Figure 1, what the contract of `check_record`
-- says, as for every release. `Call` is likewise any call of `write_sentences`.
use Rattle.std.specs.Prelude.{ℕ, Bool}
use Rattle.logic.specs.Principals.{Relation, Lawful}
use Rattle.record.specs.Carries.{SignersCarry}
use Rattle.record.specs.Former.{FormerSignersSpelled, FormerEight, ArchiveKept, FormerSamples}
use Rattle.steps.specs.PremiseCounts.{CountPerRule, PremisesCounted, PremisesOfDerivation}
use Rattle.line.specs.Printed.{OneLine, LineOfGrant}
use Rattle.sentences.specs.Promises.{TextOfDerivation, LinePerStep, SameLines, SameText}
use Rattle.sentences.specs.Feeds.{FeedPerLine}
use Rattle.sentences.specs.Samples.{TextOfA, OtherNumbers, TextOfEveryRule, Answers, LentAfter}
use Rattle.independence.specs.SameProofs.{SameProofs, BothOrNeither, NeverOpened}
use Rattle.independence.specs.Promises.{IndependentExactly, NotIndependentExactly, StepsUnread, SameWords, NeverSigns}
use Rattle.independence.specs.Promises as Independence
use Rattle.independence.specs.Samples as Asked
use Rattle.logic.specs.Sides.{SidesAre}
use Rattle.logic.specs.SignedAlone.{SignedAlone, SignedIsSays, OneOrderMore, OrInAPaper}
use Rattle.record.specs.Papers.{PapersByEntries, PapersAlone}
use Rattle.requests.specs.Order.{SignersRise, ReleaseGrants, OrderNotFree, OnePossibleLine, CountStays}
use Rattle.requests.specs.Sentences.{ReleaseWritten, ElseRefused}
use Rattle.requests.specs.WhoCarried.{EightCounts, EightOfSentences, EightStands}
use Rattle.requests.specs.Samples.{InOrder, OnlyWhoCarried, YesAndNo, FromPapers}

pub record Requests (speaks : ℕ → ℕ → Bool) (R : Relation) : Type 0 where
  -- Job 1. "Signers shall stand in rising principal number."
  pub signers_rise : SignersRise speaks R
  pub release_grants : ReleaseGrants speaks R
  -- "Their order is then no longer a free part,
  pub order_not_free : OrderNotFree R
  -- and a granted record has one possible line." It is the one that the program prints.
  pub one_possible_line : OnePossibleLine R
  pub one_line : OneLine speaks
  pub line_of_grant : LineOfGrant speaks
  -- As many are counted as before, and the samples.
  pub count_stays : CountStays
  pub in_order_lem : InOrder
  -- Job 2. "Write a granted record's proof as text, one line a step: the step number, the rule's name, the named
  -- formula if any, the word for, and the goal." (sentences/specs/Sentences.antt)
  pub text_of_derivation : TextOfDerivation speaks R
  pub line_per_step : LinePerStep speaks R
  pub feed_per_line : FeedPerLine
  -- "Record A gives .." 02's four lines; and every rule, with its name.
  pub text_of_a_lem : TextOfA
  pub text_of_every_rule_lem : TextOfEveryRule
  -- "Two granted records have equal texts only if their goals are the same formula and their steps apply the same rules
  -- to the same formulas, whichever numbers the tables use": and if they do.
  pub same_text : SameText R
  pub same_lines : SameLines R
  pub other_numbers : OtherNumbers
  -- "The signers' list is lent and filled too."
  pub release_written : ReleaseWritten speaks R
  -- "Refused: 16, after 15, the lent bytes are fewer than the whole text; place 0."
  pub else_refused : ElseRefused speaks R
  pub answers : Answers
  pub lent_after : LentAfter
  -- Job 3. "A paper that lay unused makes no signer. A signer is now a principal K with a statement K says A that some
  -- says-left step names": over the derivation that the words are, and samples.
  pub signers_carry : SignersCarry R
  pub only_who_carried_lem : OnlyWhoCarried
  -- "Refusal 8 counts these and is tested after 15 and before 16."
  pub eight_counts : EightCounts speaks R
  pub eight_of_sentences : EightOfSentences speaks R
  pub eight_stands : EightStands
  -- "Records in the archive keep their granted or refused, save that a short list may now suffice": against the answer
  -- that 01 gave.
  pub archive_kept : ArchiveKept
  pub former_signers_spelled : FormerSignersSpelled
  pub former_eight : FormerEight
  pub former_samples : FormerSamples
  -- Job 4. "How many premises a step opens .. the number of premises that stand there": of each step that isn't
  -- refused, and of each derivation.
  pub count_per_rule : CountPerRule speaks
  pub premises_counted : PremisesCounted speaks
  pub premises_of_derivation : PremisesOfDerivation R
  -- Job 5. "Sides: a goal stands on the proving side, a statement on the given side; operands keep the side, but the
  -- left of an implies takes the other." (logic/specs/Sides.antt) In samples, on either side:
  pub sides_are : SidesAre
  pub in_goals : Asked.InGoals
  pub in_statements_lem : Asked.InStatements
  -- "For a principal K the test says independent exactly when no says-formula of K stands on the proving side of the
  -- goal or of any statement, leaving out statements that are themselves K says something."
  pub independent_exactly : IndependentExactly speaks R
  pub not_independent_exactly : NotIndependentExactly speaks R
  pub yes_and_no : YesAndNo
  pub with_deputies : Asked.WithDeputies
  -- "Then each proof of the goal is also one, step by step, after K's statements are taken out or exchanged for other
  -- statements of K": over derivations, "for formulas of every depth",
  pub same_proofs : SameProofs R
  pub both_or_neither : BothOrNeither R
  pub never_opened : NeverOpened R
  pub others_are : Asked.OthersAre
  -- and "within the limits": over step words, with the same grants and the same signers, of whom K is none.
  pub same_words : SameWords speaks R
  pub never_signs : NeverSigns speaks
  pub without_paper_lem : Asked.WithoutPaper
  -- What the other answer doesn't say: that K's papers do matter.
  pub matters : Asked.Matters
  pub need_not_matter : Asked.NeedNotMatter R
  -- "The test reads a record but not its steps,
  pub steps_unread : StepsUnread speaks
  pub any_steps : Asked.AnySteps
  -- so 1 to 7 apply. Refused: 17, after 7, the principal's number is above 4,095; place 0."
  pub refused_in_order : Independence.RefusedExactly speaks
  pub of_a : Asked.OfA
  pub order : Asked.Order
  -- Job 6. "From a list whose statements are all says-formulas, the empty list included, no atom and not false has a
  -- proof of any size, and an or has a proof only if one of its sides has." Which statements are signed, that "all" is
  -- needed, and what an or in a paper doesn't give:
  pub signed_alone : SignedAlone R
  pub signed_is_says : SignedIsSays
  pub one_order_more : OneOrderMore R
  pub or_in_a_paper_lem : OrInAPaper R
  -- "It is to hold for the checker's derivations, with no new program."
  pub papers_alone : PapersAlone speaks R
  pub papers_by_entries : PapersByEntries
  pub from_papers_lem : FromPapers

-- For every test that decides a reflexive and transitive relation.
abbrev pub ForEveryRelation : Type 1
ForEveryRelation = (speaks : ℕ → ℕ → Bool) (R : Relation) → Lawful speaks R → Requests speaks R
