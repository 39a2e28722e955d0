use Rattle.rtl_stim.proofs.Next as proved
use Rattle.rtl_stim.proofs.laws.agenda_gives_moments.Goals as goal

pub returns-clause-first : goal.returns-clause-first
returns-clause-first c = proved.each_begins_at_zero

pub returns-clause-follows : goal.returns-clause-follows
returns-clause-follows c = proved.each_moment_follows
