use Rattle.rtl_model.proofs.nets.Headline.{each_state_is_in_range}
use Rattle.rtl_model.proofs.net_laws.states_are_in_range.Goals as goal

pub returns : goal.returns
returns c = each_state_is_in_range
