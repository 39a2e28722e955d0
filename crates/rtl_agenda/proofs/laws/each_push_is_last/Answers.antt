use Rattle.rtl_agenda.proofs.Pushing as proved
use Rattle.rtl_agenda.proofs.laws.each_push_is_last.Goals as goal

pub returns : goal.returns
returns c = proved.each_push_is_last
