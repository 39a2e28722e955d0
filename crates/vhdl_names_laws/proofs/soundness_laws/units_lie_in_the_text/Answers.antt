use Rattle.vhdl_names_laws.proofs.standing.Laws as laws
use Rattle.vhdl_names_laws.proofs.soundness_laws.units_lie_in_the_text.Goals as goal

pub returns-clause-token : goal.returns-clause-token
returns-clause-token c = laws.units_stand_at_tokens

pub returns-clause-text : goal.returns-clause-text
returns-clause-text c = laws.units_lie_in_the_text
