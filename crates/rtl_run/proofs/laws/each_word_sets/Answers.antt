use Rattle.rtl_run.proofs.Saying as saying
use Rattle.rtl_run.proofs.laws.each_word_sets.Goals as goal

pub returns : goal.returns
returns c = saying.each_word_sets
