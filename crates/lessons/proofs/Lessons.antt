-- The lessons hold (specs/Lessons.antt). Assumes nothing.
use Rattle.logic.proofs.Promises as Logic
use Rattle.logic.proofs.Parts.{parts_are}
use Rattle.logic.proofs.Substitution.{put_themselves, put_samples}
use Rattle.logic.proofs.SignedAlone.{or_in_a_paper_lem}
use Rattle.logic.proofs.Models.{sound, holds_on, says_all}
use Rattle.logic.proofs.Countermodels.{true_there, truths_are, passes_one_way}
use Rattle.independence.proofs.Unmentioned.{first_non_interference, mentioned_are, speaks_one_way}
use Rattle.lessons.specs.Lessons.{ForEveryRelation}
use Rattle.lessons.proofs.Folding.{lists_of_k, exchanged_in_parts, own_papers_by_force, only_orders_are, papers_kept, nobody_new_signs, equal_for_every_reel, equal_for_all_reels, kept_for_every_reel, orders_stay, orders_need_not_stay}

pub for_every_relation : ForEveryRelation
for_every_relation speaks R lawful =
    let logic = Logic.for_every_relation R lawful.reflexive lawful.transitive in
    record {
      sound = sound R;
      holds_on = holds_on R;
      says_all = says_all R;
      no_proof = logic.no_proof;
      true_there = true_there R;
      truths_are = truths_are;
      passes_one_way = passes_one_way;
      or_in_a_paper_lem = or_in_a_paper_lem R;
      first_non_interference = first_non_interference R;
      mentioned_are = mentioned_are;
      speaks_one_way = speaks_one_way;
      substitution = logic.substitution;
      force_substituted = logic.force_substituted;
      put_themselves = put_themselves;
      put_samples = put_samples;
      force_in_parts = logic.force_in_parts;
      parts_are = parts_are;
      exchanged_in_parts = exchanged_in_parts speaks R lawful;
      lists_of_k = lists_of_k;
      equal_for_every_reel = equal_for_every_reel speaks R lawful;
      equal_for_all_reels = equal_for_all_reels speaks R lawful;
      own_papers_by_force = own_papers_by_force R lawful.reflexive lawful.transitive;
      kept_for_every_reel = kept_for_every_reel speaks R lawful;
      papers_kept = papers_kept;
      nobody_new_signs = nobody_new_signs R;
      only_orders_are = only_orders_are;
      orders_stay = orders_stay;
      orders_need_not_stay = orders_need_not_stay;
    }
