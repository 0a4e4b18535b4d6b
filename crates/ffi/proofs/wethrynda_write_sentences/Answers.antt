-- `wethrynda_write_sentences` meets its contract: the verdict is `sentences_answer`'s, which is within its bounds.
-- Assumes nothing.
use Rattle.std.proofs.Common.{sym, subst, length}
use Rattle.sentences.specs.Figure1.{sentences_answer}
use Rattle.sentences.proofs.Figure1.{answers_small}
use Rattle.ffi.specs.SentencesCode.{PlaceWithin}
use Rattle.ffi.proofs.SentencesTells.{small_within}
use Rattle.ffi.proofs.wethrynda_write_sentences.Goals as goal

pub sentences_code-requires : goal.sentences_code-requires
sentences_code-requires c =
    let a = c.args in
    let room = length a.text.now in
    let answer = sentences_answer a.file.now (length a.signers.now) room in
    subst PlaceWithin (sym c.write_sentences-verdict.ensures.value)
    (small_within room answer (answers_small a.file.now (length a.signers.now) room))
