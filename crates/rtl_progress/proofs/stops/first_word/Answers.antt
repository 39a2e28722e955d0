use Rattle.std.proofs.Common.{◌<◌, length, sym, ◌∙◌, arith}
use Rattle.std.proofs.lemmas.Grind.{common_steps}
use Rattle.rtl_progress.proofs.Lines.{first_cut}
use Rattle.rtl_progress.proofs.stops.first_word.Goals as goal

pub returns-clause-word : goal.returns-clause-word
returns-clause-word c =
    let some : 0 < length c.without_blanks-line.result.now = grind (arith, common_steps) in
    sym c.without_blanks-line.ensures.words ∙ first_cut _ _ c.word_len-end.ensures.len some c.without_blanks-line.ensures.begun
