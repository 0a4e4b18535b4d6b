-- The requests are met (specs/Requests.antt). Assumes nothing.
use Rattle.record.proofs.Carries.{signers_carry}
use Rattle.record.proofs.Former.{archive_kept, former_signers_spelled, former_eight}
use Rattle.record.proofs.Samples.{former_samples}
use Rattle.steps.proofs.PremiseCounts.{count_per_rule, premises_counted, premises_of_derivation}
use Rattle.line.proofs.Printed.{one_line, line_of_grant}
use Rattle.sentences.proofs.Text.{text_of_derivation, line_per_step, same_lines, same_text}
use Rattle.sentences.proofs.Feeds.{feed_per_line}
use Rattle.sentences.proofs.Samples.{text_of_a_lem, other_numbers, text_of_every_rule_lem, answers, lent_after}
use Rattle.independence.proofs.SameProofs.{same_proofs, both_or_neither, never_opened}
use Rattle.independence.proofs.Answer.{independent_exactly, not_independent_exactly, refused_exactly}
use Rattle.independence.proofs.StepsUnread.{steps_unread}
use Rattle.independence.proofs.SameWords.{same_words, never_signs}
use Rattle.independence.proofs.Samples as Asked
use Rattle.logic.proofs.Sides.{sides_are}
use Rattle.logic.proofs.SignedAlone.{signed_alone, signed_is_says, one_order_more, or_in_a_paper_lem}
use Rattle.record.proofs.Papers.{papers_by_entries, papers_alone}
use Rattle.requests.specs.Requests.{ForEveryRelation}
use Rattle.requests.proofs.Order.{signers_rise, release_grants, order_not_free, one_possible_line, count_stays}
use Rattle.requests.proofs.Sentences.{release_written, else_refused}
use Rattle.requests.proofs.WhoCarried.{eight_counts, eight_of_sentences, eight_stands}
use Rattle.requests.proofs.Samples.{in_order_lem, only_who_carried_lem, yes_and_no, from_papers_lem}

pub for_every_relation : ForEveryRelation
for_every_relation speaks R lawful = record {
  signers_rise = signers_rise speaks R lawful.decides;
  release_grants = release_grants speaks R lawful.decides;
  order_not_free = order_not_free R;
  one_possible_line = one_possible_line R;
  one_line = one_line speaks;
  line_of_grant = line_of_grant speaks;
  count_stays = count_stays;
  in_order_lem = in_order_lem;
  text_of_derivation = text_of_derivation speaks R lawful.decides;
  line_per_step = line_per_step speaks R lawful.decides;
  feed_per_line = feed_per_line;
  text_of_a_lem = text_of_a_lem;
  text_of_every_rule_lem = text_of_every_rule_lem;
  same_text = same_text R;
  same_lines = same_lines R;
  other_numbers = other_numbers;
  release_written = release_written speaks R lawful.decides;
  else_refused = else_refused speaks R lawful.decides;
  answers = answers;
  lent_after = lent_after;
  signers_carry = signers_carry speaks R lawful.decides;
  only_who_carried_lem = only_who_carried_lem;
  eight_counts = eight_counts speaks R lawful.decides;
  eight_of_sentences = eight_of_sentences speaks R lawful.decides;
  eight_stands = eight_stands;
  archive_kept = archive_kept;
  former_signers_spelled = former_signers_spelled;
  former_eight = former_eight;
  former_samples = former_samples;
  count_per_rule = count_per_rule speaks;
  premises_counted = premises_counted speaks;
  premises_of_derivation = premises_of_derivation R;
  sides_are = sides_are;
  in_goals = Asked.in_goals;
  in_statements_lem = Asked.in_statements_lem;
  independent_exactly = independent_exactly speaks R lawful.decides;
  not_independent_exactly = not_independent_exactly speaks R lawful.decides;
  yes_and_no = yes_and_no;
  with_deputies = Asked.with_deputies;
  same_proofs = same_proofs R;
  both_or_neither = both_or_neither R;
  never_opened = never_opened R;
  others_are = Asked.others_are;
  same_words = same_words speaks R lawful.decides;
  never_signs = never_signs speaks;
  without_paper_lem = Asked.without_paper_lem;
  matters = Asked.matters;
  need_not_matter = Asked.need_not_matter R;
  steps_unread = steps_unread speaks;
  any_steps = Asked.any_steps;
  refused_in_order = refused_exactly speaks;
  of_a = Asked.of_a;
  order = Asked.order;
  signed_alone = signed_alone R;
  signed_is_says = signed_is_says;
  one_order_more = one_order_more lawful.reflexive;
  or_in_a_paper_lem = or_in_a_paper_lem R;
  papers_alone = papers_alone speaks R lawful.decides;
  papers_by_entries = papers_by_entries;
  from_papers_lem = from_papers_lem;
}
