use Rattle.vhdl_names_laws.proofs.placed.Laws as laws
use Rattle.vhdl_names_laws.proofs.soundness_laws.faults_lie_in_the_text.Goals as goal

pub returns-clause-token : goal.returns-clause-token
returns-clause-token c = laws.faults_stand_at_tokens

pub returns-clause-text : goal.returns-clause-text
returns-clause-text c = laws.faults_lie_in_the_text
