use Rattle.std.proofs.Common.{sym}
use Rattle.rtlsim_listing.proofs.Words.{rule_words}
use Rattle.rtlsim_listing.proofs.report.words_for.Goals as goal

pub returns-in_default : goal.returns-in_default
returns-in_default c = rw (rule_words c.args.fault.now c.in_default.not-NetLoop) (rw c.report_of.ensures at c.words.ensures)
