-- `sentences_write::write::write_sized` meets its contract: the slices that it takes out of the words are the parts of
-- the file. Assumes nothing.
use Rattle.record_check.proofs.Slices.{slices}
use Rattle.sentences_write.proofs.Whole.{whole}
use Rattle.sentences_write.proofs.write.write_sized.Goals as goal

pub returns : goal.returns
returns c =
    let a = c.args in
    let parts =
    slices a.file.now c.requires.sized a.words.now c.requires.file_len_bound c.read_words.ensures
    c.word_at-formulas.ensures c.word_at.ensures c.word_at-2.ensures in
    let done = c.write_contents.ensures in
    let all =
    whole a.file.now c.requires.sized a.signers.now a.text.now parts.heads_slice parts.seconds_slice
    parts.statements_slice c.word_at-3.ensures parts.steps_slice
    (done.value, (done.signers_after, done.text_after)) in
    record { value = all.0; signers_after = all.1.0; text_after = all.1.1 }
