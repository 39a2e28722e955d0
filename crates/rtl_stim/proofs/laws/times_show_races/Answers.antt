use Rattle.rtl_stim.proofs.Edges as proved
use Rattle.rtl_stim.proofs.laws.times_show_races.Goals as goal

pub returns : goal.returns
returns c = proved.times_show_races
